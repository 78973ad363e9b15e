-- What an operator with the operand behind it stands for, by its parts.
use Rattle.std.proofs.Common.{◌≡◌, ◌∙◌, sym}
use Rattle.vv_base.specs.declared.fault.Span.{Span}
use Rattle.vv_grammar.specs.Trees.{Tree}
use Rattle.vv_grammar.specs.declared.form.Form.TheVariants as form
use Rattle.vv_tree.specs.View.{operator_tree, expr_tree, operand_tree, node2}
use Rattle.vv_tree.specs.declared.leaf.Operator.{Operator}
use Rattle.vv_tree.specs.declared.expression.Expr.{Expr}
use Rattle.vv_tree.specs.declared.expression.Operand.{roll-Operand}
use Rattle.vv_tree.proofs.Expressions.{operand_is}

pub operand_as : (x : Operator) (y : Expr) (s : Span) (t u v : Tree) → operator_tree x ≡ t → expr_tree y ≡ u → v ≡ node2 form.Operand t u s
    → operand_tree (roll-Operand (record { operator = x; operand = y; span = s })) ≡ v
operand_as x y s t u v p q h =
    let step : node2 form.Operand (operator_tree x) (expr_tree y) s ≡ v = rw (p, q) (sym h) in
    operand_is (record { operator = x; operand = y; span = s }) ∙ step
