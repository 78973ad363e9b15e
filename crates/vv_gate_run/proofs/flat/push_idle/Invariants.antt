use Rattle.std.proofs.Common.{◌≡◌, ◌++◌, map, drop}
use Rattle.vv_gate_vhdl.specs.Design.{is_assigned}
use Rattle.vv_gate_run.specs.Circuit.{port_of, ports_in, assignments_in}
use Rattle.vv_gate_run.specs.Numbered.{idle_items}
use Rattle.vv_gate_run.specs.Flat.{item_of}
use Rattle.vv_gate_run.proofs.flat.push_idle.Given as goal

abbrev pub invariant-loop-net : goal.invariant-loop-net
invariant-loop-net l =
    map item_of l.items.items ++ idle_items (is_assigned (ports_in l.circuit) (assignments_in l.circuit)) (map port_of (drop l.net l.circuit.ports.items)) l.net
    ≡ map item_of l.initial.items.items ++ idle_items (is_assigned (ports_in l.circuit) (assignments_in l.circuit)) (ports_in l.circuit) 0
