-- Which of several flags an order takes.
use Rattle.std.specs.Prelude.{◌≡◌, ℕ, ◌<◌, Bool, true, false, List, slice_index_or}
use Rattle.vv_gate_run.specs.declared.order.Order.{Order}
use Rattle.vv_gate_run.specs.declared.order.Order.TheVariants.{First, Last}

abbrev pub IsSet : List Bool → ℕ → Type 0
IsSet flags i = slice_index_or flags i false ≡ true

abbrev pub IsUnset : List Bool → ℕ → Type 0
IsUnset flags i = slice_index_or flags i false ≡ false

abbrev pub NoneSet : List Bool → Type 0
NoneSet flags = (i : ℕ) → IsUnset flags i

pub record IsFirstSet (flags : List Bool) (i : ℕ) : Type 0 where
  pub here : IsSet flags i
  pub before : (k : ℕ) → k < i → IsUnset flags k

pub record IsLastSet (flags : List Bool) (i : ℕ) : Type 0 where
  pub here : IsSet flags i
  pub behind : (k : ℕ) → i < k → IsUnset flags k

-- the first flag that is set, or the last one
abbrev pub IsChosen : Order → List Bool → ℕ → Type 0
IsChosen First flags i = IsFirstSet flags i
IsChosen Last flags i = IsLastSet flags i
