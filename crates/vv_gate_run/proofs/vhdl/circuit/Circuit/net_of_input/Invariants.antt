use Rattle.std.proofs.Common.{◌≡◌, map, drop, slice_get}
use Rattle.vv_gate_vhdl.specs.Design as design
use Rattle.vv_gate_run.specs.Circuit.{port_of, design_of}
use Rattle.vv_gate_run.proofs.vhdl.circuit.Circuit.net_of_input.Given as goal

abbrev pub invariant-loop-net : goal.invariant-loop-net
invariant-loop-net l =
    slice_get (design.inputs_from (map port_of (drop l.net l.self.ports.items)) l.net) l.left ≡ slice_get (design_of l.self).inputs l.input
