-- What arms of if and case statements stand for, by their parts.
use Rattle.std.proofs.Common.{◌≡◌, ◌∙◌, sym, Bor, List}
use Rattle.vv_base.specs.declared.fault.Span.{Span}
use Rattle.vv_grammar.specs.Trees.{Tree}
use Rattle.vv_grammar.specs.declared.form.Form.TheVariants as form
use Rattle.vv_tree.specs.View.{trees_of, expr_tree, choice_tree, stmt_tree, if_arm_tree, case_arm_tree, node2}
use Rattle.vv_tree.specs.declared.expression.Choice.{Choice}
use Rattle.vv_tree.specs.declared.expression.Expr.{Expr}
use Rattle.vv_tree.specs.declared.statement.Stmt.{Stmt}
use Rattle.vv_tree.specs.declared.statement.IfArm.{roll-IfArm}
use Rattle.vv_tree.specs.declared.statement.CaseArm.{roll-CaseArm}
use Rattle.vv_tree.proofs.Statements.{if_arm_is, case_arm_is}

pub if_arm_as : (x : Expr) (ys : Bor (List Stmt)) (s : Span) (t u v : Tree) → expr_tree x ≡ t → trees_of stmt_tree ys.now ≡ u → v ≡ node2 form.IfArm t u s
    → if_arm_tree (roll-IfArm (record { condition = x; statements = ys; span = s })) ≡ v
if_arm_as x ys s t u v p q h =
    let step : node2 form.IfArm (expr_tree x) (trees_of stmt_tree ys.now) s ≡ v = rw (p, q) (sym h) in
    if_arm_is (record { condition = x; statements = ys; span = s }) ∙ step

pub case_arm_as : (xs : Bor (List Choice)) (ys : Bor (List Stmt)) (s : Span) (t u v : Tree) → trees_of choice_tree xs.now ≡ t → trees_of stmt_tree ys.now ≡ u
    → v ≡ node2 form.CaseArm t u s → case_arm_tree (roll-CaseArm (record { choices = xs; statements = ys; span = s })) ≡ v
case_arm_as xs ys s t u v p q h =
    let step : node2 form.CaseArm (trees_of choice_tree xs.now) (trees_of stmt_tree ys.now) s ≡ v = rw (p, q) (sym h) in
    case_arm_is (record { choices = xs; statements = ys; span = s }) ∙ step
