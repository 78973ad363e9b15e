use Rattle.vv_events.proofs.Descent.{stuck_quiet as lemma}
use Rattle.vv_events.proofs.steps.stuck_is_quiet.Goals as goal

pub returns : goal.returns
returns c = lemma
