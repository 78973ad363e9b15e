-- Values by their outermost layer.
use Rattle.std.proofs.Common.{◌≡◌, ℕ, Bool, List, [], ◌∷◌, ◌++◌, ℤ, refl, ap, map}
use Rattle.std.specs.List.{AllByRecursion, flat_map}
use Rattle.vv_bits.specs.declared.nine.S9.{S9}
use Rattle.vv_types.specs.Codec.{IsBool, IsLogic}
use Rattle.vv_types.specs.declared.value.Value.{Value, fold_out-Value, fold-roll-Value, map-Value, out-Value, roll-Value}
use Rattle.vv_types.specs.declared.value.Value.TheOpen.{Value-F}
use Rattle.vv_types.specs.declared.value.Value.TheOpen as v
use Rattle.vv_std_values.specs.Equality.{same_step, same_value}
use Rattle.vv_std_laws.specs.Cells.{cells_of, cells_step}
use Rattle.vv_std_laws.specs.Operands.{IsArrayWith, IsInt, IsPosition}

pub same_roll : (x : Value-F Value) (b : Value) →
    same_value (roll-Value x) b ≡ same_step (map-Value Value (Value → Bool) same_value x) b
same_roll x b = λ i. fold-roll-Value (Value → Bool) same_step x i b

pub same_out : (a b : Value) → same_value a b ≡ same_step (map-Value Value (Value → Bool) same_value (out-Value a)) b
same_out a b = λ i. fold_out-Value (Value → Bool) same_step a i b

-- the cells of a value whose outermost layer is x
abbrev pub layer_cells : Value-F Value → List ℤ
layer_cells x = cells_step (map-Value Value (List ℤ) cells_of x)

pub cells_roll : (x : Value-F Value) → cells_of (roll-Value x) ≡ layer_cells x
cells_roll x = fold-roll-Value (List ℤ) cells_step x

pub cells_out : (a : Value) → cells_of a ≡ layer_cells (out-Value a)
cells_out a = fold_out-Value (List ℤ) cells_step a

pub joined_map : (xs : List Value) → flat_map (λ cells. cells) (map cells_of xs) ≡ flat_map cells_of xs
joined_map [] = refl
joined_map (x ∷ xs) = ap (λ cells. cells_of x ++ cells) (joined_map xs)

-- ---- what a layer is that is of a kind

pub logic_layer : (x : Value-F Value) → IsLogic x → (y : S9) × (x ≡ v.Logic y)
logic_layer (v.Logic y) is = (y, refl)
logic_layer (v.Bool y) is = absurd is
logic_layer (v.Int y) is = absurd is
logic_layer (v.Enum y) is = absurd is
logic_layer (v.Array y) is = absurd is

pub bool_layer : (x : Value-F Value) → IsBool x → (y : Bool) × (x ≡ v.Bool y)
bool_layer (v.Bool y) is = (y, refl)
bool_layer (v.Logic y) is = absurd is
bool_layer (v.Int y) is = absurd is
bool_layer (v.Enum y) is = absurd is
bool_layer (v.Array y) is = absurd is

pub int_layer : (x : Value-F Value) → IsInt x → (y : ℤ) × (x ≡ v.Int y)
int_layer (v.Int y) is = (y, refl)
int_layer (v.Logic y) is = absurd is
int_layer (v.Bool y) is = absurd is
int_layer (v.Enum y) is = absurd is
int_layer (v.Array y) is = absurd is

pub position_layer : (x : Value-F Value) → IsPosition x → (y : ℕ) × (x ≡ v.Enum y)
position_layer (v.Enum y) is = (y, refl)
position_layer (v.Logic y) is = absurd is
position_layer (v.Bool y) is = absurd is
position_layer (v.Int y) is = absurd is
position_layer (v.Array y) is = absurd is

pub array_layer : (P : Value → Type 0) (x : Value-F Value) → IsArrayWith P x →
    (ys : List Value) × (x ≡ v.Array ys) × AllByRecursion P ys
array_layer P (v.Array ys) is = (ys, refl, is)
array_layer P (v.Logic y) is = absurd is
array_layer P (v.Bool y) is = absurd is
array_layer P (v.Int y) is = absurd is
array_layer P (v.Enum y) is = absurd is
