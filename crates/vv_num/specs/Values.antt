-- Values of the operators and functions of `numeric_std`: an operand lies in cells, and what its row gives is a value again.
use Rattle.std.specs.Prelude.{◌≡◌, ℕ, List, [], ◌∷◌, length, map, Bool, false, ℤ, pos, unsigned_abs}
use Rattle.vv_bits.specs.declared.nine.S9.{S9}
use Rattle.vv_types.specs.declared.value.Value.{Value, out-Value, roll-Value}
use Rattle.vv_types.specs.declared.value.Value.TheOpen.{Value-F}
use Rattle.vv_types.specs.declared.value.Value.TheOpen as v
use Rattle.vv_vectors.specs.Vectors.{cell_of}
use Rattle.vv_num_cells.specs.declared.table.Row.{Row}
use Rattle.vv_num_cells.specs.declared.table.Row.TheVariants.{Arithmetic, Absolute, Negate, Compare, Logic, Not, ShiftLeft, ShiftRight, RotateLeft, RotateRight, Resize, ToInteger, ToVector}
use Rattle.vv_num_cells.specs.Rows.{FitsRow, Given, Vector, Truth, Number, Range, arithmetic_size, number, row_gives}
use Rattle.vv_num.specs.declared.values.Outcome.{Outcome}
use Rattle.vv_num.specs.declared.values.Outcome.TheVariants as o

-- ---- operands in cells

abbrev pub cell_layer : Value-F Value → ℤ
cell_layer (v.Logic x) = cell_of x
cell_layer (v.Int z) = z
cell_layer _ = pos 0

-- the cell of an element or of a number
abbrev pub cell : Value → ℤ
cell a = cell_layer (out-Value a)

abbrev pub cells_layer : Value-F Value → List ℤ
cells_layer (v.Array xs) = map cell xs
cells_layer a = cell_layer a ∷ []

-- the cells of an operand: those of a vector's elements, or that of a number
abbrev pub cells_of : Value → List ℤ
cells_of a = cells_layer (out-Value a)

-- how many elements a result has
abbrev pub size_given : Row → ℕ → ℕ → ℤ → ℕ
size_given (Arithmetic operator kind operands) a b n = arithmetic_size operator operands a b
size_given (Compare relation kind operands) a b n = 1
size_given (Resize kind) a b n = unsigned_abs n
size_given (ToInteger kind) a b n = 1
size_given ToVector a b n = unsigned_abs n
size_given _ a b n = a

-- the cells of the operands fit the row
abbrev pub FitsCells : Row → List ℤ → List ℤ → Type 0
FitsCells row a b = FitsRow row (length a) (length b) (number b) (size_given row (length a) (length b) (number b))

-- an operand that is missing has no elements
abbrev pub nothing : Value
nothing = roll-Value (v.Array [])

abbrev pub FitsValues : Row → List Value → Type 0
FitsValues row (a ∷ []) = FitsCells row (cells_of a) (cells_of nothing)
FitsValues row (a ∷ b ∷ []) = FitsCells row (cells_of a) (cells_of b)
FitsValues row _ = ⊥

-- ---- results

abbrev pub logic : S9 → Value
logic x = roll-Value (v.Logic x)

abbrev pub vector : List S9 → Value
vector xs = roll-Value (v.Array (map logic xs))

abbrev pub outcome_of : Given → Outcome
outcome_of (Vector xs) = o.Value (vector xs)
outcome_of (Truth b) = o.Value (roll-Value (v.Bool b))
outcome_of (Number z) = o.Value (roll-Value (v.Int z))
outcome_of Range = o.Range

abbrev pub outcome_for : Row → List ℤ → List ℤ → Outcome
outcome_for row a b = outcome_of (row_gives row (size_given row (length a) (length b) (number b)) a b)

-- what is given for operands that a row does not have
abbrev pub no_row : Outcome
no_row = o.Value (roll-Value (v.Bool false))

-- the value of a row for its operands from the left
abbrev pub num_row : Row → List Value → Outcome
num_row row (a ∷ []) = outcome_for row (cells_of a) (cells_of nothing)
num_row row (a ∷ b ∷ []) = outcome_for row (cells_of a) (cells_of b)
num_row row _ = o.Range
