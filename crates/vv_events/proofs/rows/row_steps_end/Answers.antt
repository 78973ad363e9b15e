use Rattle.vv_events.proofs.RowStarts.{row_ends as lemma}
use Rattle.vv_events.proofs.rows.row_steps_end.Goals as goal

pub returns : goal.returns
returns c = lemma
