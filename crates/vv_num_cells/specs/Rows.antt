-- What each row of `numeric_std` gives. Operands lie in cells: a vector has an element in each, and a number has one cell.
use Rattle.std.specs.Prelude.{◌≡◌, ℕ, ◌≤◌, Bool, true, false, ◌||◌, if◌then◌else◌, List, [], ◌∷◌, map, slice_index_or, ℤ, pos, ◌≤ℤ◌, unsigned_abs, Option, Some, None}
use Rattle.std.specs.Ordering.{int_cmp}
use Rattle.vv_bits.specs.declared.nine.S9.{S9}
use Rattle.vv_bits.specs.declared.nine.S9.TheVariants.{Zero}
use Rattle.vv_bits.specs.Nine.{not_rule}
use Rattle.vv_types.specs.Number.{has_meta, signed_vector_of}
use Rattle.vv_types.specs.declared.cells.Place.{Place}
use Rattle.vv_vectors.specs.Vectors.{bit_of, with_cells, with_vector}
use Rattle.vv_num_arithmetic.specs.Arithmetic.{absolute_row, arithmetic_row, as_long_as, negate_row, size_of, value_of}
use Rattle.vv_num_arithmetic.specs.declared.operands.Operator.{Operator}
use Rattle.vv_num_arithmetic.specs.declared.operands.VectorKind.{VectorKind}
use Rattle.vv_num_arithmetic.specs.declared.operands.VectorKind.TheVariants.{Unsigned, Signed}
use Rattle.vv_num_vectors.specs.Comparison.{admits, boolean_cell, without_value}
use Rattle.vv_num_vectors.specs.Logic.{combined}
use Rattle.vv_num_vectors.specs.Rows.{integer_from, leftmost, resized_signed, resized_unsigned, rotated_left, rotated_right, shifted_left, shifted_right}
use Rattle.vv_num_vectors.specs.declared.comparison.Relation.{Relation}
use Rattle.vv_num_cells.specs.declared.table.Operands.{Operands}
use Rattle.vv_num_cells.specs.declared.table.Operands.TheVariants.{Vectors, VectorAndNumber, NumberAndVector}
use Rattle.vv_num_cells.specs.declared.table.Row.{Row}
use Rattle.vv_num_cells.specs.declared.table.Row.TheVariants.{Arithmetic, Absolute, Negate, Compare, Logic, Not, ShiftLeft, ShiftRight, RotateLeft, RotateRight, Resize, ToInteger, ToVector}

-- what a row gives: a vector, a truth value, a number, or that the number is none of INTEGER
pub data Given : Type 0 where
  Vector : (xs : List S9) → Given
  Truth : (b : Bool) → Given
  Number : (z : ℤ) → Given
  Range : Given

-- ---- operands

abbrev pub elements : List ℤ → List S9
elements zs = map bit_of zs

abbrev pub number : List ℤ → ℤ
number zs = slice_index_or zs 0 (pos 0)

-- a sum, a difference or a product, where a number is first cut to the length of the vector
abbrev pub arithmetic_of : Operator → VectorKind → Operands → List ℤ → List ℤ → List S9
arithmetic_of operator kind Vectors a b = arithmetic_row operator kind (elements a) (elements b)
arithmetic_of operator kind VectorAndNumber a b = let xs = elements a in arithmetic_row operator kind xs (as_long_as xs (number b))
arithmetic_of operator kind NumberAndVector a b = let xs = elements b in arithmetic_row operator kind (as_long_as xs (number a)) xs

-- a relation of two numbers, of which one may lack a value
abbrev pub relation_of : Relation → Bool → ℤ → ℤ → Bool
relation_of relation meta x y = if meta then without_value relation else admits relation (int_cmp x y)

abbrev pub compared : Relation → VectorKind → Operands → List ℤ → List ℤ → Bool
compared relation kind Vectors a b =
    relation_of relation (has_meta (elements a) || has_meta (elements b)) (value_of kind (elements a)) (value_of kind (elements b))
compared relation kind VectorAndNumber a b = relation_of relation (has_meta (elements a) || false) (value_of kind (elements a)) (number b)
compared relation kind NumberAndVector a b = relation_of relation (has_meta (elements b)) (number a) (value_of kind (elements b))

-- what fills a vector that moves to the right
abbrev pub filling : VectorKind → List S9 → S9
filling Unsigned xs = Zero
filling Signed xs = leftmost xs

abbrev pub resized : VectorKind → List S9 → ℕ → List S9
resized Unsigned xs n = resized_unsigned xs n
resized Signed xs n = resized_signed xs n

abbrev pub integer_given : Option ℤ → Given
integer_given (Some z) = Number z
integer_given None = Range

-- ---- rows

-- what a row gives for the cells of its operands, where a vector that it gives has so many elements
abbrev pub row_gives : Row → ℕ → List ℤ → List ℤ → Given
row_gives (Arithmetic operator kind operands) size a b = Vector (arithmetic_of operator kind operands a b)
row_gives Absolute size a b = Vector (absolute_row (elements a))
row_gives Negate size a b = Vector (negate_row (elements a))
row_gives (Compare relation kind operands) size a b = Truth (compared relation kind operands a b)
row_gives (Logic gate) size a b = Vector (combined gate (elements a) (elements b))
row_gives Not size a b = Vector (map not_rule (elements a))
row_gives ShiftLeft size a b = Vector (shifted_left (elements a) (unsigned_abs (number b)))
row_gives (ShiftRight kind) size a b = Vector (shifted_right (filling kind (elements a)) (elements a) (unsigned_abs (number b)))
row_gives RotateLeft size a b = Vector (rotated_left (elements a) (unsigned_abs (number b)))
row_gives RotateRight size a b = Vector (rotated_right (elements a) (unsigned_abs (number b)))
row_gives (Resize kind) size a b = Vector (resized kind (elements a) size)
row_gives (ToInteger kind) size a b = integer_given (integer_from (has_meta (elements a)) (value_of kind (elements a)))
row_gives ToVector size a b = Vector (signed_vector_of size (number a))

-- a number has one cell
abbrev pub FitsNumbers : Operands → ℕ → ℕ → Type 0
FitsNumbers Vectors a b = Unit {0}
FitsNumbers VectorAndNumber a b = b ≡ 1
FitsNumbers NumberAndVector a b = a ≡ 1

abbrev pub arithmetic_size : Operator → Operands → ℕ → ℕ → ℕ
arithmetic_size operator Vectors a b = size_of operator a b
arithmetic_size operator VectorAndNumber a b = size_of operator a a
arithmetic_size operator NumberAndVector a b = size_of operator b b

-- the sizes of the operands and of the result are those of the row, and the right operand `n` is one that the row has
abbrev pub FitsRow : Row → (a b : ℕ) → (n : ℤ) → (to : ℕ) → Type 0
FitsRow (Arithmetic operator kind operands) a b n to = FitsNumbers operands a b × (to ≡ arithmetic_size operator operands a b) × (to ≤ 128)
FitsRow Absolute a b n to = (to ≡ a) × (to ≤ 128)
FitsRow Negate a b n to = (to ≡ a) × (to ≤ 128)
FitsRow (Compare relation kind operands) a b n to = FitsNumbers operands a b × (to ≡ 1)
FitsRow (Logic gate) a b n to = (a ≡ to) × (b ≡ to)
FitsRow Not a b n to = a ≡ to
FitsRow ShiftLeft a b n to = (a ≡ to) × (b ≡ 1) × (pos 0 ≤ℤ n)
FitsRow (ShiftRight kind) a b n to = (a ≡ to) × (b ≡ 1) × (pos 0 ≤ℤ n)
FitsRow RotateLeft a b n to = (a ≡ to) × (b ≡ 1) × (pos 0 ≤ℤ n)
FitsRow RotateRight a b n to = (a ≡ to) × (b ≡ 1) × (pos 0 ≤ℤ n)
FitsRow (Resize kind) a b n to = (b ≡ 1) × (n ≡ pos to)
FitsRow (ToInteger kind) a b n to = to ≡ 1
FitsRow ToVector a b n to = (a ≡ 1) × (b ≡ 1) × (n ≡ pos to)

-- ---- results

-- the cells with what a row gives in one place, or as they are
abbrev pub with_given : List ℤ → Place → Given → List ℤ
with_given cells to (Vector xs) = with_vector cells to xs
with_given cells to (Truth b) = with_cells cells to (boolean_cell b ∷ [])
with_given cells to (Number z) = with_cells cells to (z ∷ [])
with_given cells to Range = cells

abbrev pub has_value : Given → Bool
has_value Range = false
has_value _ = true
