use Rattle.vv_events.proofs.RowStarts.{power_on_solves as lemma}
use Rattle.vv_events.proofs.rows.power_on_solves.Goals as goal

pub returns : goal.returns
returns c = lemma
