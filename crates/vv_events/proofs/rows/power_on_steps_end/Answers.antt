use Rattle.vv_events.proofs.RowStarts.{power_on_ends as lemma}
use Rattle.vv_events.proofs.rows.power_on_steps_end.Goals as goal

pub returns : goal.returns
returns c = lemma
