use Rattle.vv_events.proofs.SmallDesigns.{gate_lawful as lemma}
use Rattle.vv_events.proofs.examples.gate_is_lawful.Goals as goal

pub returns : goal.returns
returns c = lemma
