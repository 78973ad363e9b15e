use Rattle.std.proofs.Common.{◌≡◌, map, take}
use Rattle.vv_nodes.specs.Nodes.{node_tree}
use Rattle.vv_tree.specs.View.{interface_tree}
use Rattle.vv_psubtype.proofs.interface.interfaces.Given as goal

abbrev pub invariant-loop-each : goal.invariant-loop-each
invariant-loop-each l = map interface_tree l.all.items ≡ map node_tree (take l.each-index l.nodes)
