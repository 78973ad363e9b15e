use Rattle.std.proofs.Common.{◌≡◌, map, take}
use Rattle.vv_nodes.specs.Nodes.{node_tree}
use Rattle.vv_tree.specs.View.{operand_tree, part_tree, argument_tree, element_tree, choice_tree}
use Rattle.vv_pexpr.proofs.expression.+expressions.Given as goal

abbrev pub invariant-arguments-loop-each : goal.invariant-arguments-loop-each
invariant-arguments-loop-each l = map argument_tree l.all.items ≡ map node_tree (take l.each-index l.nodes)

abbrev pub invariant-choices-loop-each : goal.invariant-choices-loop-each
invariant-choices-loop-each l = map choice_tree l.all.items ≡ map node_tree (take l.each-index l.nodes)

abbrev pub invariant-elements-loop-each : goal.invariant-elements-loop-each
invariant-elements-loop-each l = map element_tree l.all.items ≡ map node_tree (take l.each-index l.nodes)

abbrev pub invariant-operands-loop-each : goal.invariant-operands-loop-each
invariant-operands-loop-each l = map operand_tree l.all.items ≡ map node_tree (take l.each-index l.nodes)

abbrev pub invariant-parts-loop-each : goal.invariant-parts-loop-each
invariant-parts-loop-each l = map part_tree l.all.items ≡ map node_tree (take l.each-index l.nodes)
