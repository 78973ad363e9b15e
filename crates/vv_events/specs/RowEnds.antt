-- One row of a design whose always constructs only append updates: what it ends in.
use Rattle.std.specs.Prelude.{◌≡◌, ℕ, nat_eq, Bool, true, false, ◌||◌, cond, List, [], ◌∷◌, slice_index_or, slice_get, Option, Some, None}
use Rattle.vv_bits.specs.declared.four.V4.{V4}
use Rattle.vv_bits.specs.Resolution.{resolve4_rule}
use Rattle.vv_events.specs.Items.{Always, Assign, Drives, IfItem, IsAlways, Item, Senses, has, senses, wakes}
use Rattle.vv_events.specs.Steps.{IsActive, State, bit}
use Rattle.vv_events.specs.Equations.{Holds, assigned, at, is_wire, values_of}

-- the last value that the updates give to b, or v
abbrev pub last_or : List (ℕ × V4) → ℕ → V4 → V4
last_or [] b v = v
last_or (u ∷ us) b v = last_or us b (cond (nat_eq u.0 b) u.1 v)

abbrev pub names : List (ℕ × V4) → ℕ → Bool
names [] b = false
names (u ∷ us) b = nat_eq u.0 b || names us b

-- b once all waiting updates are made
abbrev pub soon : State → ℕ → V4
soon s b = last_or s.updates b (bit s b)

abbrev pub updates_by : Option Item → List V4 → List (ℕ × V4)
updates_by None x = []
updates_by (Some (Assign reads targets value)) x = []
updates_by (Some (Always events assigns f)) x = (f x).updates

abbrev pub AppendsOnly : Item → Type 0
AppendsOnly (Assign reads targets value) = Unit {0}
AppendsOnly (Always events assigns f) = (x : List V4) → (f x).writes ≡ []

abbrev pub reads_of : Option Item → ℕ → Bool
reads_of None b = false
reads_of (Some (Assign reads targets value)) b = has reads b
reads_of (Some (Always events assigns f)) b = false

abbrev pub targets_of : Option Item → ℕ → Bool
targets_of None b = false
targets_of (Some item) b = has (assigned item) b

-- any change of a sensed bit makes the item active
abbrev pub IsPlain : Item → Type 0
IsPlain item = (b : ℕ) (old new : V4) → has (senses item) b ≡ true → wakes item b old new ≡ true

abbrev pub Undriven : List Item → ℕ → Type 0
Undriven d b = (j : ℕ) → Drives d j b → ⊥

-- what the writer's designs guarantee; edge tells the constructs that inputs alone trigger
pub record Written (d : List Item) (edge : ℕ → Bool) : Type 0 where
  pub appends : (i : ℕ) → IfItem (slice_get d i) AppendsOnly
  pub by_inputs : (i b : ℕ) → edge i ≡ true → Senses d i b → Undriven d b
  pub plain : (i : ℕ) → edge i ≡ false → IfItem (slice_get d i) IsPlain
  pub level : (i : ℕ) → edge i ≡ false → (x y : List V4) → ((b : ℕ) → Senses d i b → at x b ≡ at y b) → updates_by (slice_get d i) x ≡ updates_by (slice_get d i) y
  -- whether a level construct assigns a bit is settled by the inputs
  pub moded : (i b : ℕ) → edge i ≡ false → Drives d i b → (x y : List V4) → ((c : ℕ) → Undriven d c → at x c ≡ at y c) → names (updates_by (slice_get d i) x) b ≡ names (updates_by (slice_get d i) y) b

-- what holds when the row's inputs have changed; moves tells the bits that may change before the first batch
pub record RowStart (d : List Item) (edge : ℕ → Bool) (moves : ℕ → Bool) (s : State) : Type 0 where
  pub holds : Holds d s
  pub none_waits : s.updates ≡ []
  pub level_kept : (i b : ℕ) → edge i ≡ false → IsAlways (slice_get d i) → Drives d i b → slice_index_or s.active i false ≡ false → bit s b ≡ last_or (updates_by (slice_get d i) s.bits) b (bit s b)
  pub first_move : (j b : ℕ) → IsActive s j → targets_of (slice_get d j) b ≡ true → moves b ≡ true
  pub then_move : (j b c : ℕ) → reads_of (slice_get d j) c ≡ true → moves c ≡ true → targets_of (slice_get d j) b ≡ true → moves b ≡ true
  -- an edge construct that the row triggers looks at nothing that moves
  pub steady : (i : ℕ) → edge i ≡ true → IsActive s i → (x : List V4) → ((b : ℕ) → moves b ≡ false → at x b ≡ bit s b) → updates_by (slice_get d i) x ≡ updates_by (slice_get d i) s.bits

-- what an edge construct's bit is after the row
abbrev pub next : List Item → State → ℕ → ℕ → V4
next d s i b = cond (slice_index_or s.active i false) (last_or (updates_by (slice_get d i) s.bits) b (bit s b)) (bit s b)

-- the equations of the row's end
pub record Ends (d : List Item) (edge : ℕ → Bool) (start : State) (x : List V4) : Type 0 where
  pub inputs : (b : ℕ) → Undriven d b → at x b ≡ bit start b
  pub edges : (i b : ℕ) → edge i ≡ true → IsAlways (slice_get d i) → Drives d i b → at x b ≡ next d start i b
  pub levels : (i b : ℕ) → edge i ≡ false → IsAlways (slice_get d i) → Drives d i b → at x b ≡ last_or (updates_by (slice_get d i) x) b (bit start b)
  pub wires : (b : ℕ) → is_wire d b ≡ true → at x b ≡ resolve4_rule (values_of d x b)
