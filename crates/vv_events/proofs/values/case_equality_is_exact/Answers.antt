use Rattle.vv_events.proofs.Operators.{case_equal_one, case_equal_self}
use Rattle.vv_events.proofs.values.case_equality_is_exact.Goals as goal

pub returns-clause-one : goal.returns-clause-one
returns-clause-one c = case_equal_one

pub returns-clause-own : goal.returns-clause-own
returns-clause-own c = case_equal_self
