use Rattle.vv_nodes.specs.Nodes.{node_tree}
use Rattle.vv_pexpr.proofs.Operands.{operand_as}
use Rattle.vv_pexpr.proofs.expression.+expressions.Goals as goal

pub operand-returns : goal.operand-returns
operand-returns t c =
    operand_as c.in_ok-operator.field-0 c.in_ok-expr.field-0 c.in_ok-sign.span (node_tree c.in_ok-sign.sign) (node_tree c.in_ok-sign.right)
    (node_tree c.args.node) c.in_ok-operator.ensures c.in_ok-expr.ensures c.in_ok-sign.ensures.tree
