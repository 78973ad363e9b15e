use Rattle.vv_events.proofs.Acyclic.{order_of as lemma}
use Rattle.vv_events.proofs.orders.order_of.Goals as goal

pub returns : goal.returns
returns c = lemma
