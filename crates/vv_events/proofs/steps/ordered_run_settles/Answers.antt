use Rattle.vv_events.proofs.RowStarts.{ordered_settles as lemma}
use Rattle.vv_events.proofs.steps.ordered_run_settles.Goals as goal

pub returns : goal.returns
returns c = lemma
