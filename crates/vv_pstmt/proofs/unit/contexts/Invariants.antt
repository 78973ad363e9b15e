use Rattle.std.proofs.Common.{◌≡◌, map, take}
use Rattle.vv_nodes.specs.Nodes.{node_tree}
use Rattle.vv_tree.specs.View.{context_tree}
use Rattle.vv_pstmt.proofs.unit.contexts.Given as goal

abbrev pub invariant-loop-each : goal.invariant-loop-each
invariant-loop-each l = map context_tree l.all.items ≡ map node_tree (take l.each-index l.nodes)
