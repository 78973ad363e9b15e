use Rattle.vv_events.proofs.SmallDesigns.{order_checks as lemma}
use Rattle.vv_events.proofs.orders.order_checks.Goals as goal

pub returns : goal.returns
returns c = lemma
