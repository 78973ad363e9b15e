use Rattle.vv_cycle.proofs.Orders.{same_end as lemma}
use Rattle.vv_cycle.proofs.same_end.Goals as goal

pub returns : goal.returns
returns c = lemma
