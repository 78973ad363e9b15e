use Rattle.vv_cycle.proofs.Held.{held_ends as lemma}
use Rattle.vv_cycle.proofs.held_ends.Goals as goal

pub returns : goal.returns
returns c = lemma
