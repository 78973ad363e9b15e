-- What contracts see of the states and turns of the VHDL side.
use Rattle.std.specs.Prelude.{◌≡◌, ◌<◌, ◌^◌, ℕ, false, List, [], ◌∷◌, map, length, Option, Some, None}
use Rattle.vv_cycle.specs.Processes as cycle
use Rattle.vv_cycle.specs.Rows as rows
use Rattle.vv_cycle.specs.Turns as turns
use Rattle.vv_gate_run.specs.Order.{IsChosen}
use Rattle.vv_gate_run.specs.declared.order.Order.{Order}
use Rattle.vv_gate_run.specs.declared.vhdl.Entry.{Entry}
use Rattle.vv_gate_run.specs.declared.vhdl.Nets.{Nets}
use Rattle.vv_gate_run.specs.declared.vhdl.Part.{Part}
use Rattle.vv_gate_run.specs.declared.vhdl.State.{State}
use Rattle.vv_gate_run.specs.declared.vhdl.Turn.{Turn}
use Rattle.vv_gate_run.specs.declared.vhdl.Turn.TheVariants.{Resume, Update}

-- a process of a file of gates has one driver, no variable, and never meets a clash
abbrev pub part_of : Part → cycle.Part
part_of p = record { ready = p.ready; drivers = p.driver ∷ []; variables = []; clash = false }

abbrev pub nets_of : Nets → cycle.Nets
nets_of n = record { values = n.values.items; before = n.before.items; events = n.events.items }

abbrev pub state_of : State → turns.VState
state_of s = record { nets = nets_of s.nets; parts = map part_of s.parts.items }

abbrev pub turn_of : Turn → turns.Turn
turn_of (Resume i) = turns.Resume i
turn_of Update = turns.Update

-- an input of a file of gates has one bit
abbrev pub entry_of : Entry → rows.Entry
entry_of e = record { input = e.input; bits = e.value ∷ [] }

-- as many turns are possible, one after another
abbrev pub HasTurns : cycle.Design → turns.VState → ℕ → Type 0
HasTurns d s n = (ts : List turns.Turn) × turns.CanTurns d (Some s) ts × (length ts ≡ n) × (n < 2 ^ 63)

-- of the processes that are ready, this is the one that the order takes
abbrev pub IsNext : Order → turns.VState → turns.Turn → Type 0
IsNext order s (turns.Resume i) = IsChosen order (map (λ (p : cycle.Part). p.ready) s.parts) i
IsNext order s turns.Update = Unit {0}

-- each turn is the one that the order takes
abbrev pub AllNext : Order → cycle.Design → Option turns.VState → List turns.Turn → Type 0
AllNext order d o [] = Unit {0}
AllNext order d None (t ∷ ts) = ⊥
AllNext order d (Some s) (t ∷ ts) = IsNext order s t × AllNext order d (turns.turn d s t) ts
