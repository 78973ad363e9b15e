use Rattle.std.proofs.Common.{◌≡◌, ◌++◌, map, take}
use Rattle.vv_gate.specs.View.{assignment_of}
use Rattle.vv_gate_run.specs.Circuit.{port_of}
use Rattle.vv_gate_run.specs.Numbered.{numbered_item}
use Rattle.vv_gate_run.specs.Flat.{item_of}
use Rattle.vv_gate_run.proofs.flat.push_items.Given as goal

abbrev pub invariant-loop-assignment : goal.invariant-loop-assignment
invariant-loop-assignment l =
    map item_of l.items.items ≡ map item_of l.initial.items.items ++ map (numbered_item (map port_of l.ports)) (map assignment_of (take l.assignment-index l.assignments))
