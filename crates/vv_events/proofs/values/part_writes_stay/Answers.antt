use Rattle.vv_events.proofs.Operators.{part_writes_to}
use Rattle.vv_events.proofs.values.part_writes_stay.Goals as goal

pub returns : goal.returns
returns c = part_writes_to
