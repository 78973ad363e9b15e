use Rattle.std.proofs.Common.{◌≡◌, map, drop}
use Rattle.vv_gate.specs.View.{assignment_of}
use Rattle.vv_gate_vhdl.specs.Design as design
use Rattle.vv_gate_run.specs.Circuit.{ports_in, assignments_in}
use Rattle.vv_gate_run.proofs.vhdl.circuit.Circuit.is_assigned.Given as goal

abbrev pub invariant-loop-assignment : goal.invariant-loop-assignment
invariant-loop-assignment l =
    design.is_assigned (ports_in l.self) (map assignment_of (drop l.assignment-index l.self.assignments.now)) l.net ≡ design.is_assigned (ports_in l.self) (assignments_in l.self) l.net
