use Rattle.vv_events.proofs.Operators.{number_of_bits, bits_of_number, number_below}
use Rattle.vv_events.proofs.values.numbers_wrap.Goals as goal

pub returns-clause-number : goal.returns-clause-number
returns-clause-number c = number_of_bits

pub returns-clause-bits : goal.returns-clause-bits
returns-clause-bits c = bits_of_number

pub returns-clause-below : goal.returns-clause-below
returns-clause-below c = number_below
