use Rattle.vv_events.proofs.Settled.{quiet_after as lemma}
use Rattle.vv_events.proofs.equations.quiet_solves.Goals as goal

pub returns : goal.returns
returns c = lemma
