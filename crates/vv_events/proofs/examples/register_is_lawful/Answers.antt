use Rattle.vv_events.proofs.SmallDesigns.{register_lawful as lemma}
use Rattle.vv_events.proofs.examples.register_is_lawful.Goals as goal

pub returns : goal.returns
returns c = lemma
