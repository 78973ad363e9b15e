use Rattle.std.proofs.Common.{◌≡◌, map, take}
use Rattle.vv_nodes.specs.Nodes.{node_tree}
use Rattle.vv_tree.specs.View.{association_tree}
use Rattle.vv_pinstance.proofs.instance.associations.Given as goal

abbrev pub invariant-loop-each : goal.invariant-loop-each
invariant-loop-each l = map association_tree l.all.items ≡ map node_tree (take l.each-index l.nodes)
