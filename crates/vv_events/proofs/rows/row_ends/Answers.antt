use Rattle.vv_events.proofs.RowResults.{row_ends as lemma}
use Rattle.vv_events.proofs.rows.row_ends.Goals as goal

pub returns : goal.returns
returns c = lemma
