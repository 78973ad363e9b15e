use Rattle.vv_cycle.proofs.Complete.{ordered_turns as lemma}
use Rattle.vv_cycle.proofs.ordered_turns.Goals as goal

pub returns : goal.returns
returns c = lemma
