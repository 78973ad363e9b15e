use Rattle.std.proofs.Common.{◌≡◌, map, take}
use Rattle.vv_nodes.specs.Nodes.{node_tree}
use Rattle.vv_tree.specs.View.{stmt_tree, if_arm_tree, case_arm_tree}
use Rattle.vv_pseq.proofs.statement.+statements.Given as goal

abbrev pub invariant-statements-loop-each : goal.invariant-statements-loop-each
invariant-statements-loop-each l = map stmt_tree l.all.items ≡ map node_tree (take l.each-index l.nodes)

abbrev pub invariant-if_arms-loop-each : goal.invariant-if_arms-loop-each
invariant-if_arms-loop-each l = map if_arm_tree l.all.items ≡ map node_tree (take l.each-index l.nodes)

abbrev pub invariant-case_arms-loop-each : goal.invariant-case_arms-loop-each
invariant-case_arms-loop-each l = map case_arm_tree l.all.items ≡ map node_tree (take l.each-index l.nodes)
