use Rattle.vv_events.proofs.Operators.{part_known, part_unknown}
use Rattle.vv_events.proofs.values.parts_are_read.Goals as goal

pub returns-clause-bits : goal.returns-clause-bits
returns-clause-bits c = part_known

pub returns-clause-unknown : goal.returns-clause-unknown
returns-clause-unknown c = part_unknown
