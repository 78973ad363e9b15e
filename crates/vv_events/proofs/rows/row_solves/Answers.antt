use Rattle.vv_events.proofs.RowStarts.{row_solves as lemma}
use Rattle.vv_events.proofs.rows.row_solves.Goals as goal

pub returns : goal.returns
returns c = lemma
