use Rattle.std.proofs.Common.{refl}
use Rattle.vv_events.proofs.values.values_compute.Goals as goal

pub returns-clause-and : goal.returns-clause-and
returns-clause-and c = refl

pub returns-clause-or : goal.returns-clause-or
returns-clause-or c = refl

pub returns-clause-xor : goal.returns-clause-xor
returns-clause-xor c = refl

pub returns-clause-not : goal.returns-clause-not
returns-clause-not c = refl

pub returns-clause-and_all : goal.returns-clause-and_all
returns-clause-and_all c = refl

pub returns-clause-or_all : goal.returns-clause-or_all
returns-clause-or_all c = refl

pub returns-clause-xor_all : goal.returns-clause-xor_all
returns-clause-xor_all c = refl

pub returns-clause-add : goal.returns-clause-add
returns-clause-add c = refl

pub returns-clause-subtract : goal.returns-clause-subtract
returns-clause-subtract c = refl

pub returns-clause-multiply : goal.returns-clause-multiply
returns-clause-multiply c = refl

pub returns-clause-add_x : goal.returns-clause-add_x
returns-clause-add_x c = refl

pub returns-clause-less : goal.returns-clause-less
returns-clause-less c = refl

pub returns-clause-less_x : goal.returns-clause-less_x
returns-clause-less_x c = refl

pub returns-clause-greater_or_equal : goal.returns-clause-greater_or_equal
returns-clause-greater_or_equal c = refl

pub returns-clause-equal_zero : goal.returns-clause-equal_zero
returns-clause-equal_zero c = refl

pub returns-clause-equal_x : goal.returns-clause-equal_x
returns-clause-equal_x c = refl

pub returns-clause-unequal : goal.returns-clause-unequal
returns-clause-unequal c = refl

pub returns-clause-case_equal : goal.returns-clause-case_equal
returns-clause-case_equal c = refl

pub returns-clause-case_unequal : goal.returns-clause-case_unequal
returns-clause-case_unequal c = refl

pub returns-clause-choose : goal.returns-clause-choose
returns-clause-choose c = refl

pub returns-clause-part : goal.returns-clause-part
returns-clause-part c = refl

pub returns-clause-part_writes : goal.returns-clause-part_writes
returns-clause-part_writes c = refl

pub returns-clause-joined : goal.returns-clause-joined
returns-clause-joined c = refl

pub returns-clause-repeated : goal.returns-clause-repeated
returns-clause-repeated c = refl
