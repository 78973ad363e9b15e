-- One design: assign y = (a & (~b)).
use Rattle.std.specs.Prelude.{List, [], ◌∷◌}
use Rattle.vv_vast.specs.Tree.{input, output, Port, Module, assign, name, unary, binary, not', and'}
use Rattle.vv_vast.specs.Flat.{Flat}
use Rattle.vv_bits.specs.declared.four.V4.TheVariants.{Zero, One}
use Rattle.vv_events.specs.Steps.{State, Choice, Act, run}
use Rattle.vv_events.specs.Rows.{row}
use Rattle.vv_gate_verilog.specs.Events.{events_of, start_of}

-- a, b and y
abbrev pub ports : List Port
ports =
    record { direction = input; name = 97 ∷ [] }
    ∷ record { direction = input; name = 98 ∷ [] }
    ∷ record { direction = output; name = 121 ∷ [] }
    ∷ []

abbrev pub and_not : Module
and_not =
    record {
      name = 109 ∷ [];
      ports = ports;
      items = assign (121 ∷ []) (binary and' (name (97 ∷ [])) (unary not' (name (98 ∷ [])))) ∷ [];
    }

abbrev pub and_not_flat : Flat
and_not_flat = record { objects = ports; items = assign 2 (binary and' (name 0) (unary not' (name 1))) ∷ [] }

-- the one item acts
abbrev pub one_step : List Choice
one_step = Act 0 ∷ []

abbrev pub after_power_on : State
after_power_on = run (events_of and_not_flat) (start_of and_not_flat) one_step

-- the row a = 1, b = 0
abbrev pub row_begin : State
row_begin = row (events_of and_not_flat) after_power_on ((0, One) ∷ (1, Zero) ∷ [])

abbrev pub row_end : State
row_end = run (events_of and_not_flat) row_begin one_step
