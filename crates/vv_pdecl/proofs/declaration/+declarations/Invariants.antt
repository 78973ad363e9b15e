use Rattle.std.proofs.Common.{◌≡◌, map, take}
use Rattle.vv_nodes.specs.Nodes.{node_tree}
use Rattle.vv_tree.specs.View.{decl_tree}
use Rattle.vv_pdecl.proofs.declaration.+declarations.Given as goal

abbrev pub invariant-declarations-loop-each : goal.invariant-declarations-loop-each
invariant-declarations-loop-each l = map decl_tree l.all.items ≡ map node_tree (take l.each-index l.nodes)
