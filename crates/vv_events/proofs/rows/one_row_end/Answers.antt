use Rattle.vv_events.proofs.OneRowEnd.{one_end as lemma}
use Rattle.vv_events.proofs.rows.one_row_end.Goals as goal

pub returns : goal.returns
returns c = lemma
