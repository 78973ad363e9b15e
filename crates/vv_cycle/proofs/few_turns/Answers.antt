use Rattle.vv_cycle.proofs.Bound.{few_turns as lemma}
use Rattle.vv_cycle.proofs.few_turns.Goals as goal

pub returns : goal.returns
returns c = lemma
