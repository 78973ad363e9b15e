use Rattle.std.proofs.Common.{◌≡◌, ◌++◌, map, drop, length}
use Rattle.vv_gate.specs.View.{assignment_of}
use Rattle.vv_gate_vhdl.specs.Design as design
use Rattle.vv_gate_run.specs.Circuit.{ports_in, design_of}
use Rattle.vv_gate_run.specs.Vhdl.{part_of}
use Rattle.vv_cycle.specs.Processes as processes
use Rattle.vv_gate_run.proofs.vhdl.circuit.Circuit.drivers.Given as goal

abbrev pub invariant-loop-assignment : goal.invariant-loop-assignment
invariant-loop-assignment l =
    l.drivers.items ++ processes.drivers_of (map (design.gate_process (ports_in l.self)) (map assignment_of (drop (length l.yielded) l.self.assignments.now))) (map part_of (drop (length l.yielded) l.parts)) l.net
    ≡ processes.drivers_of (design_of l.self).processes (map part_of l.parts) l.net
