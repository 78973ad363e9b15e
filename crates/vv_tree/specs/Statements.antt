-- What contracts see of sequential statements: the tree that each stands for.
use Rattle.std.specs.Prelude.{List, [], ◌∷◌, map, option_map, Option}
use Rattle.vv_grammar.specs.Trees.{Tree, list}
use Rattle.vv_grammar.specs.declared.form.Form.TheVariants as form
use Rattle.vv_tree.specs.Leaves.{ident_tree, assignment_tree, trees, trees_of, tree_or_absent, node0, node1, node2, node3, node4}
use Rattle.vv_tree.specs.Expressions.{expr_tree, choice_tree}
use Rattle.vv_tree.specs.Subtypes.{discrete_tree}
use Rattle.vv_tree.specs.declared.statement.Assertion.{Assertion}
use Rattle.vv_tree.specs.declared.statement.Stmt.{Stmt, fold-Stmt}
use Rattle.vv_tree.specs.declared.statement.StmtKind.{StmtKind, fold-StmtKind}
use Rattle.vv_tree.specs.declared.statement.IfArm.{IfArm, fold-IfArm}
use Rattle.vv_tree.specs.declared.statement.CaseArm.{CaseArm, fold-CaseArm}
use Rattle.vv_tree.specs.declared.statement.StmtKind.TheOpen.{Stmt-F, StmtKind-F, IfArm-F, CaseArm-F}

abbrev pub assertion_tree : Assertion → Tree
assertion_tree a = node3 form.Assertion (expr_tree a.condition) (tree_or_absent expr_tree a.report) (tree_or_absent expr_tree a.severity) a.span

abbrev pub stmt_step : Stmt-F Tree Tree Tree Tree → Tree
stmt_step x = x.node.now.value

abbrev pub stmt_kind_step : StmtKind-F Tree Tree Tree Tree → Tree
stmt_kind_step (StmtKind-F.Labelled i x s) = node2 form.LabelledStatement (ident_tree i) x s
stmt_kind_step (StmtKind-F.Assignment t a v s) = node3 form.Assignment (expr_tree t) (assignment_tree a) (expr_tree v) s
stmt_kind_step (StmtKind-F.If xs o e s) = node3 form.If (list (trees xs.now)) (tree_or_absent (λ ys. list (trees ys.now)) o) (tree_or_absent ident_tree e) s
stmt_kind_step (StmtKind-F.Case x xs e s) = node3 form.Case (expr_tree x) (list (trees xs.now)) (tree_or_absent ident_tree e) s
stmt_kind_step (StmtKind-F.For i d xs e s) = node4 form.For (ident_tree i) (discrete_tree d) (list (trees xs.now)) (tree_or_absent ident_tree e) s
stmt_kind_step (StmtKind-F.While c xs e s) = node3 form.While (expr_tree c) (list (trees xs.now)) (tree_or_absent ident_tree e) s
stmt_kind_step (StmtKind-F.Loop xs e s) = node2 form.Loop (list (trees xs.now)) (tree_or_absent ident_tree e) s
stmt_kind_step (StmtKind-F.Exit l c s) = node2 form.Exit (tree_or_absent ident_tree l) (tree_or_absent expr_tree c) s
stmt_kind_step (StmtKind-F.Next l c s) = node2 form.Next (tree_or_absent ident_tree l) (tree_or_absent expr_tree c) s
stmt_kind_step (StmtKind-F.Return v s) = node1 form.Return (expr_tree v) s
stmt_kind_step (StmtKind-F.Null s) = node0 form.Null s
stmt_kind_step (StmtKind-F.Wait c s) = node1 form.Wait (expr_tree c) s
stmt_kind_step (StmtKind-F.Assertion a) = assertion_tree a
stmt_kind_step (StmtKind-F.Report m v s) = node2 form.ReportStatement (expr_tree m) (tree_or_absent expr_tree v) s

abbrev pub if_arm_step : IfArm-F Tree Tree Tree Tree → Tree
if_arm_step a = node2 form.IfArm (expr_tree a.condition) (list (trees a.statements.now)) a.span

abbrev pub case_arm_step : CaseArm-F Tree Tree Tree Tree → Tree
case_arm_step a = node2 form.CaseArm (trees_of choice_tree a.choices.now) (list (trees a.statements.now)) a.span

unfoldable pub stmt_tree : Stmt → Tree
stmt_tree = fold-Stmt Tree Tree Tree Tree stmt_kind_step case_arm_step if_arm_step stmt_step

unfoldable pub stmt_kind_tree : StmtKind → Tree
stmt_kind_tree = fold-StmtKind Tree Tree Tree Tree stmt_kind_step case_arm_step if_arm_step stmt_step

unfoldable pub if_arm_tree : IfArm → Tree
if_arm_tree = fold-IfArm Tree Tree Tree Tree stmt_kind_step case_arm_step if_arm_step stmt_step

unfoldable pub case_arm_tree : CaseArm → Tree
case_arm_tree = fold-CaseArm Tree Tree Tree Tree stmt_kind_step case_arm_step if_arm_step stmt_step
