-- What contracts see of the states of the Verilog side.
use Rattle.std.specs.Prelude.{◌≡◌, ◌≤◌, ◌<◌, ◌^◌, ℕ, length, Bool, false, List, [], ◌∷◌, map, slice_set, Option, Some, None}
use Rattle.vv_bits.specs.declared.four.V4.{V4}
use Rattle.vv_events.specs.Items.{has, Item}
use Rattle.vv_events.specs.Steps as steps
use Rattle.vv_vast.specs.Flat as flat
use Rattle.vv_vast.specs.Tree as vast
use Rattle.vv_gate_run.specs.Order.{IsChosen}
use Rattle.vv_gate_run.specs.declared.order.Order.{Order}
use Rattle.vv_gate_run.specs.declared.verilog.Change.{Change}
use Rattle.vv_gate_run.specs.declared.verilog.State.{State}

-- an item has one driver, and no update waits
abbrev pub state_of : State → steps.State
state_of s = record { bits = s.bits.items; drivers = map (λ v. v ∷ []) s.drivers.items; active = s.active.items; updates = [] }

abbrev pub change_of : Change → ℕ × V4
change_of c = (c.object, c.value)

-- the item is there, and reads object b
abbrev pub is_woken : Option (vast.Item ℕ) → ℕ → Bool
is_woken None b = false
is_woken (Some item) b = has (vast.reads_of item) b

-- the state in which item i has the driver v
abbrev pub with_driver : steps.State → ℕ → V4 → steps.State
with_driver s i v = record s { drivers = slice_set s.drivers i (v ∷ []) }

-- the state in which item i is pending no more
abbrev pub rested : steps.State → ℕ → steps.State
rested s i = record s { active = slice_set s.active i false }

-- of the items that are pending, this is the one that the order takes
abbrev pub IsNext : Order → steps.State → steps.Choice → Type 0
IsNext order s (steps.Act i) = IsChosen order s.active i
IsNext order s steps.Batch = Unit {0}

-- each step is the one that the order takes
abbrev pub AllNext : Order → List Item → steps.State → List steps.Choice → Type 0
AllNext order d s [] = Unit {0}
AllNext order d s (c ∷ cs) = IsNext order s c × AllNext order d (steps.step d s c) cs

-- there are no more flags than items
abbrev pub HasFlags : flat.Flat → steps.State → Type 0
HasFlags f s = length s.active ≤ length f.items

-- as many steps are possible, one after another
abbrev pub HasSteps : List Item → steps.State → ℕ → Type 0
HasSteps d s n = (cs : List steps.Choice) × steps.CanRun d s cs × (length cs ≡ n) × (n < 2 ^ 63)
