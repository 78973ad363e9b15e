-- What contracts see of expressions, names and ranges: the tree that each stands for.
use Rattle.std.specs.Prelude.{List, [], ◌∷◌}
use Rattle.vv_grammar.specs.Trees.{Tree, list}
use Rattle.vv_grammar.specs.declared.form.Form.TheVariants as form
use Rattle.vv_tree.specs.Leaves.{ident_tree, literal_tree, operator_tree, direction_tree, trees, node0, node1, node2, node3}
use Rattle.vv_tree.specs.declared.expression.Argument.{Argument, fold-Argument}
use Rattle.vv_tree.specs.declared.expression.Choice.{Choice, fold-Choice}
use Rattle.vv_tree.specs.declared.expression.Element.{Element, fold-Element}
use Rattle.vv_tree.specs.declared.expression.Expr.{Expr, fold-Expr}
use Rattle.vv_tree.specs.declared.expression.ExprKind.{ExprKind, fold-ExprKind}
use Rattle.vv_tree.specs.declared.expression.Operand.{Operand, fold-Operand}
use Rattle.vv_tree.specs.declared.expression.Part.{Part, fold-Part}
use Rattle.vv_tree.specs.declared.expression.Range.{Range, fold-Range}
use Rattle.vv_tree.specs.declared.expression.Argument.TheOpen.{Expr-F, ExprKind-F, Part-F, Argument-F, Element-F, Choice-F, Range-F, Operand-F}

abbrev pub expr_step : Expr-F Tree Tree Tree Tree Tree Tree Tree Tree → Tree
expr_step e = e.node.now.value

abbrev pub expr_kind_step : ExprKind-F Tree Tree Tree Tree Tree Tree Tree Tree → Tree
expr_kind_step (ExprKind-F.Name i ps s) = node2 form.Name (ident_tree i) (list (trees ps.now)) s
expr_kind_step (ExprKind-F.Literal l) = literal_tree l
expr_kind_step (ExprKind-F.Parentheses e s) = node1 form.Parentheses e s
expr_kind_step (ExprKind-F.Aggregate es s) = node1 form.Aggregate (list (trees es.now)) s
expr_kind_step (ExprKind-F.Power a b s) = node2 form.Power a b s
expr_kind_step (ExprKind-F.Abs e s) = node1 form.Abs e s
expr_kind_step (ExprKind-F.Not e s) = node1 form.Not e s
expr_kind_step (ExprKind-F.Product e os s) = node2 form.Product e (list (trees os.now)) s
expr_kind_step (ExprKind-F.Signed o e s) = node2 form.Signed (operator_tree o) e s
expr_kind_step (ExprKind-F.Sum e os s) = node2 form.Sum e (list (trees os.now)) s
expr_kind_step (ExprKind-F.Shift a o b s) = node3 form.Shift a (operator_tree o) b s
expr_kind_step (ExprKind-F.Relation a o b s) = node3 form.Relation a (operator_tree o) b s
expr_kind_step (ExprKind-F.Logic e os s) = node2 form.Logic e (list (trees os.now)) s

abbrev pub part_step : Part-F Tree Tree Tree Tree Tree Tree Tree Tree → Tree
part_step (Part-F.Selected i) = ident_tree i
part_step (Part-F.Arguments xs s) = node1 form.Arguments (list (trees xs.now)) s
part_step (Part-F.Attribute i s) = node1 form.Attribute (ident_tree i) s
part_step (Part-F.RangeAttribute s) = node0 form.RangeAttribute s
part_step (Part-F.Qualified e s) = node1 form.Qualified e s

abbrev pub argument_step : Argument-F Tree Tree Tree Tree Tree Tree Tree Tree → Tree
argument_step (Argument-F.«Argument::Positional» r) = r
argument_step (Argument-F.Named i r s) = node2 form.Named (ident_tree i) r s

abbrev pub element_step : Element-F Tree Tree Tree Tree Tree Tree Tree Tree → Tree
element_step (Element-F.«Element::Positional» e) = e
element_step (Element-F.Bound cs e s) = node2 form.BoundElement (list (trees cs.now)) e s

abbrev pub choice_step : Choice-F Tree Tree Tree Tree Tree Tree Tree Tree → Tree
choice_step (Choice-F.Range r) = r
choice_step (Choice-F.Others s) = node0 form.Others s

abbrev pub range_step : Range-F Tree Tree Tree Tree Tree Tree Tree Tree → Tree
range_step (Range-F.Value e) = e
range_step (Range-F.Bounds a d b s) = node3 form.Range a (direction_tree d) b s

abbrev pub operand_step : Operand-F Tree Tree Tree Tree Tree Tree Tree Tree → Tree
operand_step o = node2 form.Operand (operator_tree o.operator) o.operand o.span

unfoldable pub expr_tree : Expr → Tree
expr_tree = fold-Expr Tree Tree Tree Tree Tree Tree Tree Tree argument_step choice_step element_step expr_kind_step part_step range_step expr_step operand_step

unfoldable pub expr_kind_tree : ExprKind → Tree
expr_kind_tree = fold-ExprKind Tree Tree Tree Tree Tree Tree Tree Tree argument_step choice_step element_step expr_kind_step part_step range_step expr_step operand_step

unfoldable pub part_tree : Part → Tree
part_tree = fold-Part Tree Tree Tree Tree Tree Tree Tree Tree argument_step choice_step element_step expr_kind_step part_step range_step expr_step operand_step

unfoldable pub argument_tree : Argument → Tree
argument_tree = fold-Argument Tree Tree Tree Tree Tree Tree Tree Tree argument_step choice_step element_step expr_kind_step part_step range_step expr_step operand_step

unfoldable pub element_tree : Element → Tree
element_tree = fold-Element Tree Tree Tree Tree Tree Tree Tree Tree argument_step choice_step element_step expr_kind_step part_step range_step expr_step operand_step

unfoldable pub choice_tree : Choice → Tree
choice_tree = fold-Choice Tree Tree Tree Tree Tree Tree Tree Tree argument_step choice_step element_step expr_kind_step part_step range_step expr_step operand_step

unfoldable pub range_tree : Range → Tree
range_tree = fold-Range Tree Tree Tree Tree Tree Tree Tree Tree argument_step choice_step element_step expr_kind_step part_step range_step expr_step operand_step

unfoldable pub operand_tree : Operand → Tree
operand_tree = fold-Operand Tree Tree Tree Tree Tree Tree Tree Tree argument_step choice_step element_step expr_kind_step part_step range_step expr_step operand_step
