-- An output without a source: y <= a, with the ports a, y and w. Nothing drives w.
use Rattle.std.specs.Prelude.{true, false, List, [], ◌∷◌, None, codes}
use Rattle.vv_bits.specs.declared.nine.S9.TheVariants.{U, One}
use Rattle.vv_vast.specs.Flat.{Flat}
use Rattle.vv_vast.specs.Tree.{input, output, bitx, literal, name, assign}
use Rattle.vv_gate.specs.Tree.{Ident, port, GateFile}
use Rattle.vv_gate.specs.declared.tree.Operator.TheVariants.{And}
use Rattle.vv_cycle.specs.Turns.{VState, Turn, Resume, Update}
use Rattle.vv_cycle.specs.Rows.{Entry, row}
use Rattle.vv_events.specs.Steps.{State, Choice, Act}
use Rattle.vv_gate_vhdl.specs.Design.{gate_design}
use Rattle.vv_gate_verilog.specs.Events.{start_of, row_of, after}
use Rattle.vv_gate_agree.specs.Agreement.{row4}

abbrev pub ident_a : Ident
ident_a = record { text = codes "a"; at = 0 }

abbrev pub ident_y : Ident
ident_y = record { text = codes "y"; at = 0 }

abbrev pub ident_w : Ident
ident_w = record { text = codes "w"; at = 0 }

abbrev pub idle_gate : GateFile
idle_gate =
    record {
      logic = record { text = codes "std_logic_1164"; at = 0 };
      numeric = None;
      entity = record { text = codes "e"; at = 0 };
      groups = record { idents = ident_a ∷ []; input = true } ∷ record { idents = ident_y ∷ ident_w ∷ []; input = false } ∷ [];
      architecture = record { text = codes "r"; at = 0 };
      of = record { text = codes "e"; at = 0 };
      assignments = record { target = ident_y; operator = And; terms = record { negated = false; operand = port ident_a } ∷ [] } ∷ [];
    }

-- assign y = a; and assign w = 1'bx;
abbrev pub idle_flat : Flat
idle_flat =
    record {
      objects = record { direction = input; name = codes "a" } ∷ record { direction = output; name = codes "y" } ∷ record { direction = output; name = codes "w" } ∷ [];
      items = assign 1 (name 0) ∷ assign 2 (literal bitx) ∷ [];
    }

-- ---- power-on

abbrev pub first_turns : List Turn
first_turns = Resume 0 ∷ []

abbrev pub first_state : VState
first_state =
    record {
      nets = record { values = U ∷ U ∷ U ∷ []; before = U ∷ U ∷ U ∷ []; events = false ∷ false ∷ false ∷ [] };
      parts = record { ready = false; drivers = U ∷ []; variables = []; clash = false } ∷ [];
    }

abbrev pub first_steps : List Choice
first_steps = Act 1 ∷ Act 0 ∷ []

abbrev pub first_bits : State
first_bits = after idle_flat (start_of idle_flat) first_steps

-- ---- the row that sets a to 1

abbrev pub set_a : List Entry
set_a = record { input = 0; bits = One ∷ [] } ∷ []

abbrev pub row_state : VState
row_state = row (gate_design idle_gate) first_state set_a

abbrev pub row_turns : List Turn
row_turns = Resume 0 ∷ Update ∷ []

abbrev pub end_state : VState
end_state =
    record {
      nets = record { values = One ∷ One ∷ U ∷ []; before = One ∷ U ∷ U ∷ []; events = false ∷ true ∷ false ∷ [] };
      parts = record { ready = false; drivers = One ∷ []; variables = []; clash = false } ∷ [];
    }

abbrev pub row_bits : State
row_bits = row_of idle_flat first_bits (row4 idle_gate set_a)

abbrev pub row_steps : List Choice
row_steps = Act 0 ∷ []
