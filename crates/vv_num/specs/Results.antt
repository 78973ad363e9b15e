-- The result of a row as it lies in cells.
use Rattle.std.specs.Prelude.{◌≡◌, ℕ, Bool, List, ℤ, pos, not, if◌then◌else◌}
use Rattle.std.specs.Ordering.{int_eq}
use Rattle.vv_types.specs.declared.cells.Place.{Place}
use Rattle.vv_types.specs.declared.value.Value.{Value, roll-Value}
use Rattle.vv_types.specs.declared.value.Value.TheOpen as v
use Rattle.vv_vectors.specs.Vectors.{number_at, vector_at}
use Rattle.vv_num_cells.specs.declared.table.Row.{Row}
use Rattle.vv_num_cells.specs.declared.table.Row.TheVariants.{Arithmetic, Absolute, Negate, Compare, Logic, Not, ShiftLeft, ShiftRight, RotateLeft, RotateRight, Resize, ToInteger, ToVector}
use Rattle.vv_num.specs.Values.{vector}
use Rattle.vv_num.specs.declared.values.Outcome.{Outcome}
use Rattle.vv_num.specs.declared.values.Outcome.TheVariants as o

-- a truth value and a number have one cell
abbrev pub FitsResult : Row → ℕ → Type 0
FitsResult (Compare relation kind operands) size = size ≡ 1
FitsResult (ToInteger kind) size = size ≡ 1
FitsResult _ size = Unit {0}

abbrev pub read_back : Row → List ℤ → Place → Value
read_back (Compare relation kind operands) cells place = roll-Value (v.Bool (not (int_eq (number_at cells place) (pos 0))))
read_back (ToInteger kind) cells place = roll-Value (v.Int (number_at cells place))
read_back _ cells place = vector (vector_at cells place)

abbrev pub outcome_back : Row → Bool → List ℤ → Place → Outcome
outcome_back row inside cells place = if inside then o.Value (read_back row cells place) else o.Range
