-- The equations of the continuous assignments.
use Rattle.std.specs.Prelude.{◌≡◌, ℕ, ◌<◌, Bool, true, false, ◌||◌, List, [], ◌∷◌, ◌++◌, length, slice_index_or, slice_get, Option, Some, None}
use Rattle.vv_bits.specs.declared.four.V4.{V4}
use Rattle.vv_bits.specs.declared.four.V4.TheVariants.{Z}
use Rattle.vv_bits.specs.Resolution.{resolve4_rule}
use Rattle.vv_events.specs.Items.{has, Item, Drives, Assign, Always}
use Rattle.vv_events.specs.Steps.{State, bit, pick, drivers_of}

-- bit b; a bit that isn't there is z
abbrev pub at : List V4 → ℕ → V4
at bits b = slice_index_or bits b Z

-- the bits that an item drives as a continuous assignment
abbrev pub assigned : Item → List ℕ
assigned (Assign reads targets value) = targets
assigned (Always events assigns f) = []

-- some continuous assignment drives b
abbrev pub is_wire : List Item → ℕ → Bool
is_wire [] b = false
is_wire (item ∷ items) b = has (assigned item) b || is_wire items b

-- what an item gives to b, by its expression
abbrev pub item_values : Item → List V4 → ℕ → List V4
item_values (Assign reads targets value) bits b = pick targets (value bits) b
item_values (Always events assigns f) bits b = []

-- what the assignments give to b, by their expressions
abbrev pub values_of : List Item → List V4 → ℕ → List V4
values_of [] bits b = []
values_of (item ∷ items) bits b = item_values item bits b ++ values_of items bits b

-- each wire bit is what its assignments give
abbrev pub Solves : List Item → List V4 → Type 0
Solves d bits = (b : ℕ) → is_wire d b ≡ true → at bits b ≡ resolve4_rule (values_of d bits b)

-- the value rests on what is read alone
abbrev pub Local : Item → Type 0
Local (Assign reads targets value) = (x y : List V4) → ((b : ℕ) → has reads b ≡ true → at x b ≡ at y b) → value x ≡ value y
Local (Always events assigns f) = Unit {0}

-- an assignment's driver bits are what its expression gives now
abbrev pub IsUpToDate : Option Item → State → ℕ → Type 0
IsUpToDate None s i = Unit {0}
IsUpToDate (Some (Assign reads targets value)) s i = slice_get s.drivers i ≡ Some (value s.bits)
IsUpToDate (Some (Always events assigns f)) s i = Unit {0}

-- what holds between steps: idle assignments are up to date, and each wire bit is what its drivers give
pub record Holds (d : List Item) (s : State) : Type 0 where
  pub flags : length s.active ≡ length d
  pub outs : length s.drivers ≡ length d
  pub inside : (i b : ℕ) → Drives d i b → b < length s.bits
  pub fresh : (i : ℕ) → slice_index_or s.active i false ≡ false → IsUpToDate (slice_get d i) s i
  pub joined : (b : ℕ) → is_wire d b ≡ true → bit s b ≡ resolve4_rule (drivers_of d s.drivers b)
