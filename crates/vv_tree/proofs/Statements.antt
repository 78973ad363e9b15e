-- What each kind of sequential statement, and each part of one, stands for.
use Rattle.std.proofs.Common.{◌≡◌, ◌∙◌, ap, sym, Some, None}
use Rattle.vv_grammar.specs.Trees.{Tree}
use Rattle.vv_base.specs.declared.fault.Span.{Span}
use Rattle.vv_grammar.specs.declared.form.Form.TheVariants as form
use Rattle.vv_tree.specs.Leaves.{ident_tree, assignment_tree, trees_of, tree_or_absent, node0, node1, node2, node3, node4}
use Rattle.vv_tree.specs.Expressions.{expr_tree, choice_tree}
use Rattle.vv_tree.specs.Subtypes.{discrete_tree}
use Rattle.vv_tree.specs.Statements.{assertion_tree, stmt_tree, stmt_kind_tree, if_arm_tree, case_arm_tree, stmt_kind_step, case_arm_step, if_arm_step, stmt_step}
use Rattle.vv_tree.specs.declared.statement.StmtKind.TheOpen.{StmtKind-F}
use Rattle.vv_tree.specs.declared.statement.StmtKind.{fold-roll-StmtKind}
use Rattle.vv_tree.specs.declared.statement.IfArm.{fold-roll-IfArm}
use Rattle.vv_tree.specs.declared.statement.CaseArm.{fold-roll-CaseArm}
use Rattle.vv_tree.specs.declared.statement.IfArm.{roll-IfArm}
use Rattle.vv_tree.specs.declared.statement.CaseArm.{roll-CaseArm}
use Rattle.vv_tree.specs.declared.statement.StmtKind.TheVariants as kind

pub labelled_is : (i : _) (x : _) (s : Span) → stmt_kind_tree (kind.Labelled i x s) ≡ node2 form.LabelledStatement (ident_tree i) (stmt_tree x) s
unfolding stmt_tree stmt_kind_tree if_arm_tree case_arm_tree
labelled_is i x s =
    ap stmt_kind_tree (sym (kind.rolls-Labelled i x s)) ∙ fold-roll-StmtKind Tree Tree Tree Tree stmt_kind_step case_arm_step if_arm_step stmt_step (StmtKind-F.Labelled i x s)

pub assignment_is : (t : _) (a : _) (v : _) (s : Span) → stmt_kind_tree (kind.Assignment t a v s) ≡ node3 form.Assignment (expr_tree t) (assignment_tree a) (expr_tree v) s
unfolding stmt_tree stmt_kind_tree if_arm_tree case_arm_tree
assignment_is t a v s =
    ap stmt_kind_tree (sym (kind.rolls-Assignment t a v s)) ∙ fold-roll-StmtKind Tree Tree Tree Tree stmt_kind_step case_arm_step if_arm_step stmt_step (StmtKind-F.Assignment t a v s)

pub if_is : (xs : _) (o : _) (e : _) (s : Span) → stmt_kind_tree (kind.If xs o e s) ≡ node3 form.If (trees_of if_arm_tree xs.now) (tree_or_absent (λ ys. trees_of stmt_tree ys.now) o) (tree_or_absent ident_tree e) s
unfolding stmt_tree stmt_kind_tree if_arm_tree case_arm_tree
if_is xs None e s =
    ap stmt_kind_tree (sym (kind.rolls-If xs None e s)) ∙ fold-roll-StmtKind Tree Tree Tree Tree stmt_kind_step case_arm_step if_arm_step stmt_step (StmtKind-F.If xs None e s)
if_is xs (Some ys) e s =
    ap stmt_kind_tree (sym (kind.rolls-If xs (Some ys) e s)) ∙ fold-roll-StmtKind Tree Tree Tree Tree stmt_kind_step case_arm_step if_arm_step stmt_step (StmtKind-F.If xs (Some ys) e s)

pub case_is : (x : _) (xs : _) (e : _) (s : Span) → stmt_kind_tree (kind.Case x xs e s) ≡ node3 form.Case (expr_tree x) (trees_of case_arm_tree xs.now) (tree_or_absent ident_tree e) s
unfolding stmt_tree stmt_kind_tree if_arm_tree case_arm_tree
case_is x xs e s =
    ap stmt_kind_tree (sym (kind.rolls-Case x xs e s)) ∙ fold-roll-StmtKind Tree Tree Tree Tree stmt_kind_step case_arm_step if_arm_step stmt_step (StmtKind-F.Case x xs e s)

pub for_is : (i : _) (d : _) (xs : _) (e : _) (s : Span) → stmt_kind_tree (kind.For i d xs e s) ≡ node4 form.For (ident_tree i) (discrete_tree d) (trees_of stmt_tree xs.now) (tree_or_absent ident_tree e) s
unfolding stmt_tree stmt_kind_tree if_arm_tree case_arm_tree
for_is i d xs e s =
    ap stmt_kind_tree (sym (kind.rolls-For i d xs e s)) ∙ fold-roll-StmtKind Tree Tree Tree Tree stmt_kind_step case_arm_step if_arm_step stmt_step (StmtKind-F.For i d xs e s)

pub while_is : (c : _) (xs : _) (e : _) (s : Span) → stmt_kind_tree (kind.While c xs e s) ≡ node3 form.While (expr_tree c) (trees_of stmt_tree xs.now) (tree_or_absent ident_tree e) s
unfolding stmt_tree stmt_kind_tree if_arm_tree case_arm_tree
while_is c xs e s =
    ap stmt_kind_tree (sym (kind.rolls-While c xs e s)) ∙ fold-roll-StmtKind Tree Tree Tree Tree stmt_kind_step case_arm_step if_arm_step stmt_step (StmtKind-F.While c xs e s)

pub loop_is : (xs : _) (e : _) (s : Span) → stmt_kind_tree (kind.Loop xs e s) ≡ node2 form.Loop (trees_of stmt_tree xs.now) (tree_or_absent ident_tree e) s
unfolding stmt_tree stmt_kind_tree if_arm_tree case_arm_tree
loop_is xs e s =
    ap stmt_kind_tree (sym (kind.rolls-Loop xs e s)) ∙ fold-roll-StmtKind Tree Tree Tree Tree stmt_kind_step case_arm_step if_arm_step stmt_step (StmtKind-F.Loop xs e s)

pub exit_is : (l : _) (c : _) (s : Span) → stmt_kind_tree (kind.Exit l c s) ≡ node2 form.Exit (tree_or_absent ident_tree l) (tree_or_absent expr_tree c) s
unfolding stmt_tree stmt_kind_tree if_arm_tree case_arm_tree
exit_is l c s =
    ap stmt_kind_tree (sym (kind.rolls-Exit l c s)) ∙ fold-roll-StmtKind Tree Tree Tree Tree stmt_kind_step case_arm_step if_arm_step stmt_step (StmtKind-F.Exit l c s)

pub next_is : (l : _) (c : _) (s : Span) → stmt_kind_tree (kind.Next l c s) ≡ node2 form.Next (tree_or_absent ident_tree l) (tree_or_absent expr_tree c) s
unfolding stmt_tree stmt_kind_tree if_arm_tree case_arm_tree
next_is l c s =
    ap stmt_kind_tree (sym (kind.rolls-Next l c s)) ∙ fold-roll-StmtKind Tree Tree Tree Tree stmt_kind_step case_arm_step if_arm_step stmt_step (StmtKind-F.Next l c s)

pub return_is : (v : _) (s : Span) → stmt_kind_tree (kind.Return v s) ≡ node1 form.Return (expr_tree v) s
unfolding stmt_tree stmt_kind_tree if_arm_tree case_arm_tree
return_is v s =
    ap stmt_kind_tree (sym (kind.rolls-Return v s)) ∙ fold-roll-StmtKind Tree Tree Tree Tree stmt_kind_step case_arm_step if_arm_step stmt_step (StmtKind-F.Return v s)

pub null_is : (s : Span) → stmt_kind_tree (kind.Null s) ≡ node0 form.Null s
unfolding stmt_tree stmt_kind_tree if_arm_tree case_arm_tree
null_is s =
    ap stmt_kind_tree (sym (kind.rolls-Null s)) ∙ fold-roll-StmtKind Tree Tree Tree Tree stmt_kind_step case_arm_step if_arm_step stmt_step (StmtKind-F.Null s)

pub wait_is : (c : _) (s : Span) → stmt_kind_tree (kind.Wait c s) ≡ node1 form.Wait (expr_tree c) s
unfolding stmt_tree stmt_kind_tree if_arm_tree case_arm_tree
wait_is c s =
    ap stmt_kind_tree (sym (kind.rolls-Wait c s)) ∙ fold-roll-StmtKind Tree Tree Tree Tree stmt_kind_step case_arm_step if_arm_step stmt_step (StmtKind-F.Wait c s)

pub assertion_is : (a : _) → stmt_kind_tree (kind.Assertion a) ≡ assertion_tree a
unfolding stmt_tree stmt_kind_tree if_arm_tree case_arm_tree
assertion_is a =
    ap stmt_kind_tree (sym (kind.rolls-Assertion a)) ∙ fold-roll-StmtKind Tree Tree Tree Tree stmt_kind_step case_arm_step if_arm_step stmt_step (StmtKind-F.Assertion a)

pub report_is : (m : _) (v : _) (s : Span) → stmt_kind_tree (kind.Report m v s) ≡ node2 form.ReportStatement (expr_tree m) (tree_or_absent expr_tree v) s
unfolding stmt_tree stmt_kind_tree if_arm_tree case_arm_tree
report_is m v s =
    ap stmt_kind_tree (sym (kind.rolls-Report m v s)) ∙ fold-roll-StmtKind Tree Tree Tree Tree stmt_kind_step case_arm_step if_arm_step stmt_step (StmtKind-F.Report m v s)

pub if_arm_is : (a : _) → if_arm_tree (roll-IfArm a) ≡ node2 form.IfArm (expr_tree a.condition) (trees_of stmt_tree a.statements.now) a.span
unfolding stmt_tree stmt_kind_tree if_arm_tree case_arm_tree
if_arm_is a =
    fold-roll-IfArm Tree Tree Tree Tree stmt_kind_step case_arm_step if_arm_step stmt_step a

pub case_arm_is : (a : _) → case_arm_tree (roll-CaseArm a) ≡ node2 form.CaseArm (trees_of choice_tree a.choices.now) (trees_of stmt_tree a.statements.now) a.span
unfolding stmt_tree stmt_kind_tree if_arm_tree case_arm_tree
case_arm_is a =
    fold-roll-CaseArm Tree Tree Tree Tree stmt_kind_step case_arm_step if_arm_step stmt_step a
