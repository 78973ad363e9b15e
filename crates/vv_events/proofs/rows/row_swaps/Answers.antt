use Rattle.vv_events.proofs.RowStarts.{row_swaps as lemma}
use Rattle.vv_events.proofs.rows.row_swaps.Goals as goal

pub returns : goal.returns
returns c = lemma
