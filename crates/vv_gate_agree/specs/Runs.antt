-- Runs of a flat Verilog design over rows, and runs of both sides that agree.
use Rattle.std.specs.Prelude.{ℕ, List, [], ◌∷◌, Option, Some, None}
use Rattle.vv_bits.specs.declared.four.V4.{V4}
use Rattle.vv_vast.specs.Flat.{Flat}
use Rattle.vv_gate.specs.Tree.{GateFile}
use Rattle.vv_cycle.specs.Turns.{VState, Turn, after_turns}
use Rattle.vv_cycle.specs.Rows.{Entry, row}
use Rattle.vv_events.specs.Steps.{State, Choice, Quiet}
use Rattle.vv_gate_vhdl.specs.Design.{gate_design}
use Rattle.vv_gate_verilog.specs.Events.{start_of, row_of, CanTake, after}
use Rattle.vv_gate_agree.specs.Agreement.{InputsAgree, Agrees, row4}

-- the Verilog rows of VHDL rows
abbrev pub rows4 : GateFile → List (List Entry) → List (List (ℕ × V4))
rows4 f [] = []
rows4 f (es ∷ rows) = row4 f es ∷ rows4 f rows

-- the state after these rows, each with its steps
abbrev pub after_rows : Flat → State → List (List (ℕ × V4)) → List (List Choice) → State
after_rows flat s [] orders = s
after_rows flat s (ws ∷ rows) [] = s
after_rows flat s (ws ∷ rows) (cs ∷ orders) = after_rows flat (after flat (row_of flat s ws) cs) rows orders

-- each row has its steps, which go on until the state is quiet
abbrev pub CanRows : Flat → State → List (List (ℕ × V4)) → List (List Choice) → Type 0
CanRows flat s [] [] = Unit {0}
CanRows flat s [] (cs ∷ orders) = ⊥
CanRows flat s (ws ∷ rows) [] = ⊥
CanRows flat s (ws ∷ rows) (cs ∷ orders) = CanTake flat (row_of flat s ws) cs × (Quiet (after flat (row_of flat s ws) cs) × CanRows flat (after flat (row_of flat s ws) cs) rows orders)

-- a run over these rows: the steps from power-on, then those of each row
pub record VerilogRun (flat : Flat) (rows : List (List (ℕ × V4))) : Type 0 where
  pub first : List Choice
  pub later : List (List Choice)
  pub can_first : CanTake flat (start_of flat) first
  pub quiet_first : Quiet (after flat (start_of flat) first)
  pub can_later : CanRows flat (after flat (start_of flat) first) rows later

-- the state at the run's end
abbrev pub verilog_end : (flat : Flat) (rows : List (List (ℕ × V4))) → VerilogRun flat rows → State
verilog_end flat rows run = after_rows flat (after flat (start_of flat) run.first) rows run.later

-- ---- both sides

-- VHDL has met no range error, and all ports agree
abbrev pub AgreeIn : GateFile → Option VState → State → Type 0
AgreeIn f None s = ⊥
AgreeIn f (Some t) s = InputsAgree f t.nets.values s.bits × Agrees f t.nets.values s.bits

-- both sides agree after each of these rows, with these turns of VHDL and these steps of Verilog
abbrev pub AgreeAfter : GateFile → Flat → Option VState → State → List (List Entry) → List (List Turn) → List (List Choice) → Type 0
AgreeAfter f flat None s rows orders choices = ⊥
AgreeAfter f flat (Some t) s [] orders choices = Unit {0}
AgreeAfter f flat (Some t) s (es ∷ rows) [] choices = ⊥
AgreeAfter f flat (Some t) s (es ∷ rows) (ts ∷ orders) [] = ⊥
AgreeAfter f flat (Some t) s (es ∷ rows) (ts ∷ orders) (cs ∷ choices) =
    AgreeIn f (after_turns (gate_design f) (Some (row (gate_design f) t es)) ts) (after flat (row_of flat s (row4 f es)) cs)
    × AgreeAfter f flat (after_turns (gate_design f) (Some (row (gate_design f) t es)) ts) (after flat (row_of flat s (row4 f es)) cs) rows orders choices
