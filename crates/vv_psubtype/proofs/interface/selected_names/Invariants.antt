use Rattle.std.proofs.Common.{◌≡◌, map, take}
use Rattle.vv_nodes.specs.Nodes.{node_tree}
use Rattle.vv_tree.specs.View.{selected_tree}
use Rattle.vv_psubtype.proofs.interface.selected_names.Given as goal

abbrev pub invariant-loop-each : goal.invariant-loop-each
invariant-loop-each l = map selected_tree l.all.items ≡ map node_tree (take l.each-index l.nodes)
