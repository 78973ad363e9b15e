use Rattle.vv_events.proofs.SmallDesigns.{chain_lawful as lemma}
use Rattle.vv_events.proofs.examples.chain_is_lawful.Goals as goal

pub returns : goal.returns
returns c = lemma
