use Rattle.vv_nodes.specs.Nodes.{node_tree}
use Rattle.vv_pseq.proofs.Arms.{if_arm_as, case_arm_as}
use Rattle.vv_pseq.proofs.statement.+statements.Goals as goal

pub if_arm-returns : goal.if_arm-returns
if_arm-returns t c =
    if_arm_as c.in_ok-expr.field-0 c.in_ok-statements.field-0 c.in_ok-condition.span (node_tree c.in_ok-condition.condition) (node_tree c.in_ok-condition.list)
    (node_tree c.args.node) c.in_ok-expr.ensures c.in_ok-statements.ensures c.in_ok-condition.ensures.tree

pub case_arm-returns : goal.case_arm-returns
case_arm-returns t c =
    case_arm_as c.in_ok-choices.field-0 c.in_ok-statements.field-0 c.in_ok-list.span (node_tree c.in_ok-list.list) (node_tree c.in_ok-list.inner)
    (node_tree c.args.node) c.in_ok-choices.ensures c.in_ok-statements.ensures c.in_ok-list.ensures.tree
