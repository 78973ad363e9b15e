use Rattle.std.proofs.Common.{◌≡◌, map, length, Some}
use Rattle.vv_cycle.specs.Turns as turns
use Rattle.vv_gate_run.specs.Circuit.{design_of}
use Rattle.vv_gate_run.specs.Vhdl.{state_of, turn_of, AllNext}
use Rattle.vv_gate_run.proofs.vhdl.run.Given as goal

abbrev pub invariant-turns : goal.invariant-turns
invariant-turns l =
    record {
      can : turns.CanTurns (design_of l.circuit) (Some (state_of l.fn.start)) (map turn_of l.turns.items);
      after : turns.after_turns (design_of l.circuit) (Some (state_of l.fn.start)) (map turn_of l.turns.items) ≡ Some (state_of l.state);
      ordered : AllNext l.order (design_of l.circuit) (Some (state_of l.fn.start)) (map turn_of l.turns.items);
      taken : length l.turns.items ≡ l._taken;
    }
