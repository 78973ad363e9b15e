use Rattle.vv_events.proofs.Operators.{equal_one, equal_zero, equal_self}
use Rattle.vv_events.proofs.values.equality_tells.Goals as goal

pub returns-clause-one : goal.returns-clause-one
returns-clause-one c = equal_one

pub returns-clause-zero : goal.returns-clause-zero
returns-clause-zero c = equal_zero

pub returns-clause-own : goal.returns-clause-own
returns-clause-own c = equal_self
