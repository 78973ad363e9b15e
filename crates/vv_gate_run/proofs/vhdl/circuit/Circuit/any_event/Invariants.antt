use Rattle.std.proofs.Common.{◌≡◌, map, drop}
use Rattle.vv_gate.specs.View.{term_of}
use Rattle.vv_gate_vhdl.specs.Design as design
use Rattle.vv_gate_run.specs.Circuit.{ports_in}
use Rattle.vv_cycle.specs.Turns as turns
use Rattle.vv_gate_run.proofs.vhdl.circuit.Circuit.any_event.Given as goal

abbrev pub invariant-loop-term : goal.invariant-loop-term
invariant-loop-term l =
    turns.any_at (design.term_nets (ports_in l.self) (map term_of (drop l.term-index l.terms))) l.events ≡ turns.any_at (design.term_nets (ports_in l.self) (map term_of l.terms)) l.events
