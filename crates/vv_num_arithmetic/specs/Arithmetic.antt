-- Sums, differences and products of the vectors of `numeric_std`, by value.
use Rattle.std.specs.Prelude.{ℕ, ◌+◌, max, Bool, ◌||◌, if◌then◌else◌, List, length, replicate, ℤ, pos, ◌+ℤ◌, ◌-ℤ◌, ◌*ℤ◌, unsigned_abs}
use Rattle.vv_bits.specs.declared.nine.S9.{S9}
use Rattle.vv_bits.specs.declared.nine.S9.TheVariants.{X}
use Rattle.vv_types.specs.Number.{has_meta, number_of, signed_number_of, signed_vector_of}
use Rattle.vv_num_arithmetic.specs.declared.operands.VectorKind.{VectorKind}
use Rattle.vv_num_arithmetic.specs.declared.operands.VectorKind.TheVariants.{Unsigned, Signed}
use Rattle.vv_num_arithmetic.specs.declared.operands.Operator.{Operator}
use Rattle.vv_num_arithmetic.specs.declared.operands.Operator.TheVariants.{Add, Subtract, Multiply}

-- the number of a vector, plain or in two's complement
abbrev pub value_of : VectorKind → List S9 → ℤ
value_of Unsigned xs = pos (number_of xs)
value_of Signed xs = signed_number_of xs

abbrev pub apply : Operator → ℤ → ℤ → ℤ
apply Add x y = x +ℤ y
apply Subtract x y = x -ℤ y
apply Multiply x y = x *ℤ y

-- the length of a result: that of the longer operand, or both together in a product
abbrev pub size_of : Operator → ℕ → ℕ → ℕ
size_of Multiply m n = m + n
size_of _ m n = max m n

-- the last digits of a number, in two's complement, or all X where an operand has a metavalue
abbrev pub result_of : Bool → ℕ → ℤ → List S9
result_of meta size z = if meta then replicate size X else signed_vector_of size z

abbrev pub arithmetic_row : Operator → VectorKind → List S9 → List S9 → List S9
arithmetic_row operator kind a b =
    result_of (has_meta a || has_meta b) (size_of operator (length a) (length b)) (apply operator (value_of kind a) (value_of kind b))

abbrev pub absolute_row : List S9 → List S9
absolute_row a = result_of (has_meta a) (length a) (pos (unsigned_abs (signed_number_of a)))

abbrev pub negate_row : List S9 → List S9
negate_row a = result_of (has_meta a) (length a) (pos 0 -ℤ signed_number_of a)

-- a number as a vector that is as long as xs
abbrev pub as_long_as : List S9 → ℤ → List S9
as_long_as xs z = signed_vector_of (length xs) z
