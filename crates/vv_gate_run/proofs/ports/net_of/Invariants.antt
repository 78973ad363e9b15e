use Rattle.std.proofs.Common.{◌≡◌, ◌+◌, map, drop}
use Rattle.vv_gate_vhdl.specs.Design.{net_of}
use Rattle.vv_gate_run.specs.Circuit.{port_of}
use Rattle.vv_gate_run.proofs.ports.net_of.Given as goal

abbrev pub invariant-loop-net : goal.invariant-loop-net
invariant-loop-net l =
    l.net + net_of (map port_of (drop l.net l.ports)) l.name ≡ net_of (map port_of l.ports) l.name
