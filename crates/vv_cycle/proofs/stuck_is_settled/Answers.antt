use Rattle.vv_cycle.proofs.Complete.{stuck_is_settled as lemma}
use Rattle.vv_cycle.proofs.stuck_is_settled.Goals as goal

pub returns : goal.returns
returns c = lemma
