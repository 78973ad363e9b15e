use Rattle.vv_events.proofs.Descent.{steps_bound as lemma}
use Rattle.vv_events.proofs.steps.steps_end.Goals as goal

pub returns : goal.returns
returns c = lemma
