use Rattle.vv_events.proofs.Operators.{wrapped_unknown, compared_unknown}
use Rattle.std.proofs.Common.{◌+◌, ◌-◌, ◌*◌, ◌^◌, length, nat_lt, not}
use Rattle.vv_events.specs.Values.{number}
use Rattle.vv_events.proofs.values.unknown_spreads.Goals as goal

pub returns-clause-add : goal.returns-clause-add
returns-clause-add c = λ xs ys h. wrapped_unknown xs ys (number xs + number ys) h

pub returns-clause-subtract : goal.returns-clause-subtract
returns-clause-subtract c = λ xs ys h. wrapped_unknown xs ys ((number xs + 2 ^ length xs) - number ys) h

pub returns-clause-multiply : goal.returns-clause-multiply
returns-clause-multiply c = λ xs ys h. wrapped_unknown xs ys (number xs * number ys) h

pub returns-clause-less : goal.returns-clause-less
returns-clause-less c = λ xs ys h. compared_unknown xs ys (nat_lt (number xs) (number ys)) h

pub returns-clause-less_or_equal : goal.returns-clause-less_or_equal
returns-clause-less_or_equal c = λ xs ys h. compared_unknown xs ys (not (nat_lt (number ys) (number xs))) h
