use Rattle.std.proofs.Common.{◌≡◌, ◌++◌, map, drop}
use Rattle.vv_gate.specs.View.{assignment_of}
use Rattle.vv_gate_vhdl.specs.Design as design
use Rattle.vv_gate_run.specs.Circuit.{ports_in, design_of}
use Rattle.vv_gate_run.specs.Vhdl.{part_of}
use Rattle.vv_cycle.specs.Rows as rows
use Rattle.vv_gate_run.proofs.vhdl.circuit.Circuit.first_parts.Given as goal

abbrev pub invariant-loop-assignment : goal.invariant-loop-assignment
invariant-loop-assignment l =
    map part_of l.parts.items ++ rows.first_parts (map (design.gate_process (ports_in l.self)) (map assignment_of (drop l._assignment-index l.self.assignments.now)))
    ≡ rows.first_parts (design_of l.self).processes
