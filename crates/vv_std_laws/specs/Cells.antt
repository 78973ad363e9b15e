-- The cells of a value: its scalars from the left, one in each cell.
use Rattle.std.specs.Prelude.{ℕ, ◌*◌, List, [], ◌∷◌, ℤ, pos}
use Rattle.std.specs.List.{flat_map}
use Rattle.vv_types.specs.declared.codec.Codec.{Codec, fold-Codec}
use Rattle.vv_types.specs.declared.codec.Codec.TheOpen.{Codec-F}
use Rattle.vv_types.specs.declared.codec.Codec.TheOpen as c
use Rattle.vv_types.specs.declared.value.Value.{Value, fold-Value}
use Rattle.vv_types.specs.declared.value.Value.TheOpen.{Value-F}
use Rattle.vv_types.specs.declared.value.Value.TheOpen as v
use Rattle.vv_vectors.specs.Vectors.{cell_of}
use Rattle.vv_std_cells.specs.Rows.{truth}

abbrev pub cells_step : Value-F (List ℤ) → List ℤ
cells_step (v.Logic x) = cell_of x ∷ []
cells_step (v.Bool b) = truth b ∷ []
cells_step (v.Int z) = z ∷ []
cells_step (v.Enum position) = pos position ∷ []
cells_step (v.Array parts) = flat_map (λ cells. cells) parts

-- the cells of a value
abbrev pub cells_of : Value → List ℤ
cells_of a = fold-Value (List ℤ) cells_step a

abbrev pub scalars_step : Codec-F ℕ → ℕ
scalars_step c.Std = 1
scalars_step c.Bool = 1
scalars_step (c.Int low high) = 1
scalars_step (c.Enum count) = 1
scalars_step (c.Of n elem) = n * elem

-- how many scalars each value of a codec has
abbrev pub scalar_count : Codec → ℕ
scalar_count codec = fold-Codec ℕ scalars_step codec
