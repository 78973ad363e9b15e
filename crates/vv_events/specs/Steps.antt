-- States of a design, and the steps between them (IEEE 1364-2005, clause 11).
use Rattle.std.specs.Prelude.{◌≡◌, ◌≢◌, ℕ, ◌<◌, nat_eq, Bool, true, false, cond, ◌||◌, List, [], ◌∷◌, ◌++◌, length, slice_index_or, slice_get, slice_set, Option, Some, None}
use Rattle.vv_bits.specs.declared.four.V4.{V4}
use Rattle.vv_bits.specs.declared.four.V4.TheVariants.{Z}
use Rattle.vv_bits.specs.Four.{is4}
use Rattle.vv_bits.specs.Resolution.{resolve4_rule}
use Rattle.vv_events.specs.Items.{Item, wakes, Assign, Always}

-- all bits, and what is still to be done
pub record State : Type 0 where
  pub bits : List V4
  pub drivers : List (List V4)  -- of each item
  pub active : List Bool  -- of each item: pending, or triggered
  pub updates : List (ℕ × V4)  -- waiting, in order

-- the flags after the change of bit b
abbrev pub woken : List Item → ℕ → V4 → V4 → List Bool → List Bool
woken [] b old new flags = flags
woken (item ∷ items) b old new [] = []
woken (item ∷ items) b old new (flag ∷ flags) = (flag || wakes item b old new) ∷ woken items b old new flags

abbrev pub bit : State → ℕ → V4
bit s b = slice_index_or s.bits b Z

-- the bit has another value from now on, which makes items active
abbrev pub changed : List Item → State → ℕ × V4 → State
changed d s w =
    record { bits = slice_set s.bits w.0 w.1; drivers = s.drivers; active = woken d w.0 (bit s w.0) w.1 s.active; updates = s.updates }

-- a bit takes a value; the same value again is no change
abbrev pub write : List Item → State → ℕ × V4 → State
write d s w = cond (is4 (bit s w.0) w.1) s (changed d s w)

-- bits take values, one after another
abbrev pub writes : List Item → State → List (ℕ × V4) → State
writes d s [] = s
writes d s (w ∷ ws) = writes d (write d s w) ws

-- the driver bits of b in one item
abbrev pub pick : List ℕ → List V4 → ℕ → List V4
pick [] outs b = []
pick (t ∷ ts) [] b = []
pick (t ∷ ts) (v ∷ outs) b = cond (nat_eq t b) (v ∷ pick ts outs b) (pick ts outs b)

abbrev pub driver_bits : Item → List V4 → ℕ → List V4
driver_bits (Assign reads targets value) outs b = pick targets outs b
driver_bits (Always events assigns run) outs b = []

-- all driver bits of b
abbrev pub drivers_of : List Item → List (List V4) → ℕ → List V4
drivers_of [] outs b = []
drivers_of (item ∷ items) [] b = []
drivers_of (item ∷ items) (out ∷ outs) b = driver_bits item out b ++ drivers_of items outs b

-- what an active item does: new driver bits, bits that it writes at once, updates that it appends
pub record Effect : Type 0 where
  pub drivers : List (List V4)
  pub writes : List (ℕ × V4)
  pub updates : List (ℕ × V4)

-- each of the bits with what its drivers give together
abbrev pub resolved : List Item → List (List V4) → List ℕ → List (ℕ × V4)
resolved d outs [] = []
resolved d outs (b ∷ bs) = (b, resolve4_rule (drivers_of d outs b)) ∷ resolved d outs bs

-- an assignment evaluates and writes its targets; an always construct runs once
abbrev pub effect : List Item → State → ℕ → Item → Effect
effect d s i (Assign reads targets value) =
    record {
      drivers = slice_set s.drivers i (value s.bits);
      writes = resolved d (slice_set s.drivers i (value s.bits)) targets;
      updates = [];
    }
effect d s i (Always events assigns run) =
    record { drivers = s.drivers; writes = (run s.bits).writes; updates = (run s.bits).updates }

-- the effect, and the item is active no longer
abbrev pub done : List Item → State → ℕ → Effect → State
done d s i e =
    let t = writes d (record { bits = s.bits; drivers = e.drivers; active = s.active; updates = s.updates }) e.writes in
    record { bits = t.bits; drivers = t.drivers; active = slice_set t.active i false; updates = t.updates ++ e.updates }

-- the item numbered i acts
abbrev pub act : List Item → State → ℕ → Option Item → State
act d s i None = s
act d s i (Some item) = done d s i (effect d s i item)

-- all waiting updates, as one batch
abbrev pub batch : List Item → State → State
batch d s = writes d (record { bits = s.bits; drivers = s.drivers; active = s.active; updates = [] }) s.updates

-- the next step: an item acts, or all waiting updates are made
pub data Choice : Type 0 where
  Act : (item : ℕ) → Choice
  Batch : Choice

-- the state after a step
abbrev pub step : List Item → State → Choice → State
step d s (Act i) = act d s i (slice_get d i)
step d s Batch = batch d s

abbrev pub IsActive : State → ℕ → Type 0
IsActive s i = slice_index_or s.active i false ≡ true

-- no assignment is pending, and no construct is triggered
abbrev pub NoneActive : State → Type 0
NoneActive s = (i : ℕ) → slice_index_or s.active i false ≡ false

-- this step is possible: any active item may act, and the updates are made where no item is active
abbrev pub CanStep : List Item → State → Choice → Type 0
CanStep d s (Act i) = (i < length d) × IsActive s i
CanStep d s Batch = NoneActive s × (s.updates ≢ [])

-- a list of steps, each possible where it is taken
abbrev pub CanRun : List Item → State → List Choice → Type 0
CanRun d s [] = Unit {0}
CanRun d s (c ∷ cs) = CanStep d s c × CanRun d (step d s c) cs

-- the state after a list of steps
abbrev pub run : List Item → State → List Choice → State
run d s [] = s
run d s (c ∷ cs) = run d (step d s c) cs

-- nothing is active, and no update waits
abbrev pub Quiet : State → Type 0
Quiet s = NoneActive s × (s.updates ≡ [])
