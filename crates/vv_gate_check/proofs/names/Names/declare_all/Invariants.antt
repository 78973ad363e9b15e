use Rattle.std.proofs.Common.{None, take, flat_map}
use Rattle.vv_gate.specs.Tree.{ports_of_group}
use Rattle.vv_gate.specs.View.{group_of}
use Rattle.vv_gate_check.specs.Names.{Declares}
use Rattle.vv_gate_check.proofs.names.Names.declare_all.Given as goal

abbrev pub invariant-loop-group : goal.invariant-loop-group
invariant-loop-group l = Declares (flat_map (λ g. ports_of_group (group_of g)) (take l.group-index l.groups)) l.fn.self l.self None
