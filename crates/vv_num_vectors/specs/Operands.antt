-- Operands that are numbers, or vectors that stand for numbers.
use Rattle.std.specs.Prelude.{◌≡◌, ℕ, ◌-◌, ◌*◌, ◌^◌, ◌≤◌, Bool, false, List, [], ◌∷◌, ◌++◌, replicate, ℤ, pos, ◌-ℤ◌, ◌≤ℤ◌, Option, Some, None}
use Rattle.vv_bits.specs.declared.nine.S9.{S9}
use Rattle.vv_bits.specs.declared.nine.S9.TheVariants.{Zero}
use Rattle.vv_types.specs.Number.{bit, has_meta, number_of, signed_number_of, signed_vector_of}
use Rattle.vv_types.specs.declared.cells.Place.{Place}
use Rattle.vv_vectors.specs.Vectors.{LiesIn, number_at, vector_at, with_cells}
use Rattle.vv_num_vectors.specs.declared.operand.Operand.{Operand}
use Rattle.vv_num_vectors.specs.declared.operand.Operand.TheVariants.{Unsigned, Signed, Number}
use Rattle.vv_num_vectors.specs.Rows.{leftmost}

-- a place of one cell, with a number that is not below 0
abbrev pub IsCount : List ℤ → Place → Type 0
IsCount cells place = LiesIn cells place × (place.size ≡ 1) × (pos 0 ≤ℤ number_at cells place)

-- the cells of an operand can be reached
abbrev pub IsIn : List ℤ → Operand → Type 0
IsIn cells (Unsigned place) = LiesIn cells place
IsIn cells (Signed place) = LiesIn cells place
IsIn cells (Number place) = LiesIn cells place × (place.size ≡ 1)

-- what an operand is worth
abbrev pub value_of : List ℤ → Operand → ℤ
value_of cells (Unsigned place) = pos (number_of (vector_at cells place))
value_of cells (Signed place) = signed_number_of (vector_at cells place)
value_of cells (Number place) = number_at cells place

-- the operand has an element other than 0, 1, L and H
abbrev pub is_meta_in : List ℤ → Operand → Bool
is_meta_in cells (Unsigned place) = has_meta (vector_at cells place)
is_meta_in cells (Signed place) = has_meta (vector_at cells place)
is_meta_in cells (Number place) = false

-- ---- an operand by its elements, where a number has its 32 digits

abbrev pub size_of : Operand → ℕ
size_of (Unsigned place) = place.size
size_of (Signed place) = place.size
size_of (Number place) = 32

abbrev pub elements_of : List ℤ → Operand → List S9
elements_of cells (Unsigned place) = vector_at cells place
elements_of cells (Signed place) = vector_at cells place
elements_of cells (Number place) = signed_vector_of 32 (number_at cells place)

-- the element that repeats on the left
abbrev pub sign_of : List ℤ → Operand → S9
sign_of cells (Unsigned place) = Zero
sign_of cells (Signed place) = leftmost (vector_at cells place)
sign_of cells (Number place) = leftmost (signed_vector_of 32 (number_at cells place))

-- the operand in n elements, which are enough
abbrev pub digits_of : List ℤ → Operand → ℕ → List S9
digits_of cells operand n = replicate (n - size_of operand) (sign_of cells operand) ++ elements_of cells operand

-- the operand is worth what its digits count, of which the sign counts below 0
abbrev pub IsWorth : List ℤ → Operand → Type 0
IsWorth cells operand =
    (n : ℕ) → size_of operand ≤ n → value_of cells operand ≡ pos (number_of (digits_of cells operand n)) -ℤ pos (bit (sign_of cells operand) * 2 ^ n)

-- the cells with a number in one place, or as they are
abbrev pub with_integer : List ℤ → Place → Option ℤ → List ℤ
with_integer cells place None = cells
with_integer cells place (Some z) = with_cells cells place (z ∷ [])
