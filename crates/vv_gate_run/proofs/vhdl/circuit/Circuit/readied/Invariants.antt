use Rattle.std.proofs.Common.{◌≡◌, ◌++◌, map, drop}
use Rattle.vv_gate_run.specs.Circuit.{design_of}
use Rattle.vv_gate_run.specs.Vhdl.{part_of}
use Rattle.vv_cycle.specs.Turns as turns
use Rattle.vv_gate_run.proofs.vhdl.circuit.Circuit.readied.Given as goal

abbrev pub invariant-loop-process : goal.invariant-loop-process
invariant-loop-process l =
    map part_of l.readied.items ++ turns.readied (drop l.process (design_of l.self).processes) l.events (drop l.process (map part_of l.parts))
    ≡ turns.readied (design_of l.self).processes l.events (map part_of l.parts)
