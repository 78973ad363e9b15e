use Rattle.vv_events.proofs.RowStarts.{row_holds as lemma}
use Rattle.vv_events.proofs.rows.row_holds.Goals as goal

pub returns : goal.returns
returns c = lemma
