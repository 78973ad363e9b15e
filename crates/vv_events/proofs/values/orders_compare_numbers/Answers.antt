use Rattle.vv_events.proofs.Operators.{less_one, less_zero, le_one, le_zero}
use Rattle.vv_events.proofs.values.orders_compare_numbers.Goals as goal

pub returns-clause-less : goal.returns-clause-less
returns-clause-less c = less_one

pub returns-clause-not_less : goal.returns-clause-not_less
returns-clause-not_less c = less_zero

pub returns-clause-less_or_equal : goal.returns-clause-less_or_equal
returns-clause-less_or_equal c = le_one

pub returns-clause-greater : goal.returns-clause-greater
returns-clause-greater c = le_zero
