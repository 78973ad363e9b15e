use Rattle.std.proofs.Common.{◌≡◌, ◌++◌, map, drop}
use Rattle.vv_gate_run.specs.Circuit.{design_of}
use Rattle.vv_gate_run.specs.Vhdl.{part_of}
use Rattle.vv_cycle.specs.Turns as turns
use Rattle.vv_gate_run.proofs.vhdl.circuit.Circuit.resolutions.Given as goal

abbrev pub invariant-loop-net : goal.invariant-loop-net
invariant-loop-net l =
    l.resolved.items ++ turns.resolutions (design_of l.self) (map part_of l.parts) l.net (drop l.net l.values) ≡ turns.resolutions (design_of l.self) (map part_of l.parts) 0 l.values
