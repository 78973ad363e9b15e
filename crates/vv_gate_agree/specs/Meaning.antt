-- What it means that a flat Verilog design keeps the meaning of a file of gates: in every order of VHDL turns and every order of Verilog events, after every list of rows.
use Rattle.std.specs.Prelude.{◌≡◌, ◌+◌, ◌*◌, ◌^◌, ◌≤◌, List, length, map, Some}
use Rattle.vv_vast.specs.Flat.{Flat}
use Rattle.vv_gate.specs.Tree.{GateFile, ports_of}
use Rattle.vv_cycle.specs.Turns.{VState, Turn, CanTurn, CanTurns, IsSettled, IsClean, after_turns}
use Rattle.vv_cycle.specs.Rows.{Entry, LawfulRow, power_on, row}
use Rattle.vv_events.specs.Steps.{State, Choice, Quiet}
use Rattle.vv_gate_vhdl.specs.Design.{gate_design}
use Rattle.vv_gate_verilog.specs.Events.{start_of, row_of, CanTake, IsStuck, after}
use Rattle.vv_gate_text.specs.Made.{made_port}
use Rattle.vv_gate_agree.specs.Agreement.{InputsAgree, Agrees, row4}

-- these turns are possible from s, one after another, and end settled in t
pub record SettlesIn (f : GateFile) (s : VState) (ts : List Turn) (t : VState) : Type 0 where
  pub can : CanTurns (gate_design f) (Some s) ts
  pub to : after_turns (gate_design f) (Some s) ts ≡ Some t
  pub settled : IsSettled (gate_design f) t

-- these steps are possible from v, one after another, and end quiet
pub record EndsQuiet (flat : Flat) (v : State) (cs : List Choice) : Type 0 where
  pub can : CanTake flat v cs
  pub quiet : Quiet (after flat v cs)

-- The states in which power-on or a row begins on both sides, after any list of lawful rows. In each row before, VHDL took its turns in some order until it was settled,
-- and Verilog its steps in some order until it was quiet.
pub data Begins (f : GateFile) (flat : Flat) : VState → State → Type 0 where
  PowerOn : Begins f flat (power_on (gate_design f)) (start_of flat)
  Row : (s t : VState) (ts : List Turn) (v : State) (cs : List Choice) (es : List Entry) → Begins f flat s v → SettlesIn f s ts t → EndsQuiet flat v cs → LawfulRow (gate_design f) es → Begins f flat (row (gate_design f) t es) (row_of flat (after flat v cs) (row4 f es))

-- every order of turns from s settles
pub record AlwaysSettles (f : GateFile) (s : VState) : Type 0 where
  -- it comes to an end
  pub short : (ts : List Turn) → CanTurns (gate_design f) (Some s) ts → length ts ≤ (length f.assignments + 1) * 3
  -- it meets no range error and no clash
  pub clean : (ts : List Turn) → CanTurns (gate_design f) (Some s) ts → IsClean (after_turns (gate_design f) (Some s) ts)
  -- where no further turn is possible, the state is settled
  pub settled : (ts : List Turn) (t : VState) → CanTurns (gate_design f) (Some s) ts → after_turns (gate_design f) (Some s) ts ≡ Some t → ((u : Turn) → CanTurn (gate_design f) t u → ⊥) → IsSettled (gate_design f) t

-- every order of steps from v ends quiet
pub record AlwaysQuiet (flat : Flat) (v : State) : Type 0 where
  -- it comes to an end
  pub short : (cs : List Choice) → CanTake flat v cs → length cs ≤ 3 ^ length flat.items
  -- where no further step is possible, the state is quiet
  pub quiet : (cs : List Choice) → CanTake flat v cs → IsStuck flat (after flat v cs) → Quiet (after flat v cs)

pub record KeepsMeaning (f : GateFile) (flat : Flat) : Type 0 where
  -- the object numbered k is the port numbered k, under its Verilog name
  pub objects : flat.objects ≡ map made_port (ports_of f)
  -- wherever power-on or a row begins, every order ends on both sides
  pub vhdl : (s : VState) (v : State) → Begins f flat s v → AlwaysSettles f s
  pub verilog : (s : VState) (v : State) → Begins f flat s v → AlwaysQuiet flat v
  -- and when both sides have ended, in whatever orders, Verilog has on each port what it sees of the VHDL value
  pub agree : (s t : VState) (ts : List Turn) (v : State) (cs : List Choice) → Begins f flat s v → SettlesIn f s ts t → EndsQuiet flat v cs → InputsAgree f t.nets.values (after flat v cs).bits × Agrees f t.nets.values (after flat v cs).bits

-- the same, as one fact that callers hand on
unfoldable pub MeaningKept : GateFile → Flat → Type 0
MeaningKept f flat = KeepsMeaning f flat
