use Rattle.vv_events.proofs.Operators.{bitwise_length, not_length, wrapped_length, choose_length, part_length}
use Rattle.std.proofs.Common.{◌+◌, ◌-◌, ◌*◌, ◌^◌, length}
use Rattle.vv_events.specs.Values.{number}
use Rattle.vv_events.proofs.values.sizes_are_kept.Goals as goal

pub returns-clause-bitwise : goal.returns-clause-bitwise
returns-clause-bitwise c = bitwise_length

pub returns-clause-not : goal.returns-clause-not
returns-clause-not c = not_length

pub returns-clause-add : goal.returns-clause-add
returns-clause-add c = λ xs ys. wrapped_length xs ys (number xs + number ys)

pub returns-clause-subtract : goal.returns-clause-subtract
returns-clause-subtract c = λ xs ys. wrapped_length xs ys ((number xs + 2 ^ length xs) - number ys)

pub returns-clause-multiply : goal.returns-clause-multiply
returns-clause-multiply c = λ xs ys. wrapped_length xs ys (number xs * number ys)

pub returns-clause-choose : goal.returns-clause-choose
returns-clause-choose c = choose_length

pub returns-clause-part : goal.returns-clause-part
returns-clause-part c = part_length
