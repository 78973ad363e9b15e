use Rattle.std.proofs.Common.{◌≡◌, map, take}
use Rattle.vv_nodes.specs.Nodes.{node_tree}
use Rattle.vv_tree.specs.View.{selection_tree}
use Rattle.vv_pconc.proofs.concurrent.selections.Given as goal

abbrev pub invariant-loop-each : goal.invariant-loop-each
invariant-loop-each l = map selection_tree l.all.items ≡ map node_tree (take l.each-index l.nodes)
