use Rattle.vv_events.proofs.RowStarts.{power_on_holds as lemma}
use Rattle.vv_events.proofs.rows.power_on_holds.Goals as goal

pub returns : goal.returns
returns c = lemma
