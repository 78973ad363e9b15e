use Rattle.vv_events.proofs.Settled.{run_holds as lemma}
use Rattle.vv_events.proofs.equations.run_holds.Goals as goal

pub returns : goal.returns
returns c = lemma
