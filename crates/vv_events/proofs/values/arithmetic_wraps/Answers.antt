use Rattle.vv_events.proofs.Operators.{wrapped_number, subtract_add}
use Rattle.std.proofs.Common.{◌+◌, ◌*◌}
use Rattle.vv_events.specs.Values.{number}
use Rattle.vv_events.proofs.values.arithmetic_wraps.Goals as goal

pub returns-clause-add : goal.returns-clause-add
returns-clause-add c = λ xs ys h. wrapped_number xs ys (number xs + number ys) h

pub returns-clause-multiply : goal.returns-clause-multiply
returns-clause-multiply c = λ xs ys h. wrapped_number xs ys (number xs * number ys) h

pub returns-clause-subtract : goal.returns-clause-subtract
returns-clause-subtract c = subtract_add
