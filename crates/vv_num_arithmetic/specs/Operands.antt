-- Operands with no metavalue.
use Rattle.std.specs.Prelude.{◌≡◌, List, length}
use Rattle.vv_bits.specs.declared.nine.S9.{S9}
use Rattle.vv_types.specs.Number.{number_of}
use Rattle.vv_num_arithmetic.specs.declared.rows.Digits.{Digits}

-- the number of a vector, and how many elements it has
abbrev pub HasDigits : List S9 → Digits → Type 0
HasDigits xs digits = (length xs ≡ digits.size) × (number_of xs ≡ digits.number)
