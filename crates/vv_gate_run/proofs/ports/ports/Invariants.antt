use Rattle.std.proofs.Common.{◌≡◌, map, take}
use Rattle.std.specs.List.{flat_map}
use Rattle.vv_gate.specs.Tree.{ports_of_group}
use Rattle.vv_gate.specs.View.{group_of}
use Rattle.vv_gate_run.specs.Circuit.{port_of}
use Rattle.vv_gate_run.proofs.ports.ports.Given as goal

abbrev pub invariant-loop-group : goal.invariant-loop-group
invariant-loop-group l = map port_of l.all.items ≡ flat_map ports_of_group (map group_of (take l.group-index l.file.groups.items))
