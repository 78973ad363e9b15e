-- What each kind of expression, and each part of one, stands for.
use Rattle.std.proofs.Common.{◌≡◌, ◌∙◌, ap, sym}
use Rattle.vv_grammar.specs.Trees.{Tree}
use Rattle.vv_base.specs.declared.fault.Span.{Span}
use Rattle.vv_grammar.specs.declared.form.Form.TheVariants as form
use Rattle.vv_tree.specs.Leaves.{ident_tree, literal_tree, operator_tree, direction_tree, trees_of, node0, node1, node2, node3}
use Rattle.vv_tree.specs.Expressions.{expr_tree, expr_kind_tree, part_tree, argument_tree, element_tree, choice_tree, range_tree, operand_tree, argument_step, choice_step, element_step, expr_kind_step, part_step, range_step, expr_step, operand_step}
use Rattle.vv_tree.specs.declared.expression.Argument.TheOpen.{ExprKind-F, Part-F, Argument-F, Element-F, Choice-F, Range-F}
use Rattle.vv_tree.specs.declared.expression.ExprKind.{fold-roll-ExprKind}
use Rattle.vv_tree.specs.declared.expression.Part.{fold-roll-Part}
use Rattle.vv_tree.specs.declared.expression.Argument.{fold-roll-Argument}
use Rattle.vv_tree.specs.declared.expression.Element.{fold-roll-Element}
use Rattle.vv_tree.specs.declared.expression.Choice.{fold-roll-Choice}
use Rattle.vv_tree.specs.declared.expression.Range.{fold-roll-Range}
use Rattle.vv_tree.specs.declared.expression.Operand.{fold-roll-Operand}
use Rattle.vv_tree.specs.declared.expression.Operand.{roll-Operand}
use Rattle.vv_tree.specs.declared.expression.ExprKind.TheVariants as kind
use Rattle.vv_tree.specs.declared.expression.Part.TheVariants as part
use Rattle.vv_tree.specs.declared.expression.Argument.TheVariants as argument
use Rattle.vv_tree.specs.declared.expression.Element.TheVariants as element
use Rattle.vv_tree.specs.declared.expression.Choice.TheVariants as choice
use Rattle.vv_tree.specs.declared.expression.Range.TheVariants as range

pub name_is : (i : _) (ps : _) (s : Span) → expr_kind_tree (kind.Name i ps s) ≡ node2 form.Name (ident_tree i) (trees_of part_tree ps.now) s
unfolding expr_tree expr_kind_tree part_tree argument_tree element_tree choice_tree range_tree operand_tree
name_is i ps s =
    ap expr_kind_tree (sym (kind.rolls-Name i ps s)) ∙ fold-roll-ExprKind Tree Tree Tree Tree Tree Tree Tree Tree argument_step choice_step element_step expr_kind_step part_step range_step expr_step operand_step (ExprKind-F.Name i ps s)

pub literal_is : (l : _) → expr_kind_tree (kind.Literal l) ≡ literal_tree l
unfolding expr_tree expr_kind_tree part_tree argument_tree element_tree choice_tree range_tree operand_tree
literal_is l =
    ap expr_kind_tree (sym (kind.rolls-Literal l)) ∙ fold-roll-ExprKind Tree Tree Tree Tree Tree Tree Tree Tree argument_step choice_step element_step expr_kind_step part_step range_step expr_step operand_step (ExprKind-F.Literal l)

pub parentheses_is : (e : _) (s : Span) → expr_kind_tree (kind.Parentheses e s) ≡ node1 form.Parentheses (expr_tree e) s
unfolding expr_tree expr_kind_tree part_tree argument_tree element_tree choice_tree range_tree operand_tree
parentheses_is e s =
    ap expr_kind_tree (sym (kind.rolls-Parentheses e s)) ∙ fold-roll-ExprKind Tree Tree Tree Tree Tree Tree Tree Tree argument_step choice_step element_step expr_kind_step part_step range_step expr_step operand_step (ExprKind-F.Parentheses e s)

pub aggregate_is : (es : _) (s : Span) → expr_kind_tree (kind.Aggregate es s) ≡ node1 form.Aggregate (trees_of element_tree es.now) s
unfolding expr_tree expr_kind_tree part_tree argument_tree element_tree choice_tree range_tree operand_tree
aggregate_is es s =
    ap expr_kind_tree (sym (kind.rolls-Aggregate es s)) ∙ fold-roll-ExprKind Tree Tree Tree Tree Tree Tree Tree Tree argument_step choice_step element_step expr_kind_step part_step range_step expr_step operand_step (ExprKind-F.Aggregate es s)

pub power_is : (a : _) (b : _) (s : Span) → expr_kind_tree (kind.Power a b s) ≡ node2 form.Power (expr_tree a) (expr_tree b) s
unfolding expr_tree expr_kind_tree part_tree argument_tree element_tree choice_tree range_tree operand_tree
power_is a b s =
    ap expr_kind_tree (sym (kind.rolls-Power a b s)) ∙ fold-roll-ExprKind Tree Tree Tree Tree Tree Tree Tree Tree argument_step choice_step element_step expr_kind_step part_step range_step expr_step operand_step (ExprKind-F.Power a b s)

pub abs_is : (e : _) (s : Span) → expr_kind_tree (kind.Abs e s) ≡ node1 form.Abs (expr_tree e) s
unfolding expr_tree expr_kind_tree part_tree argument_tree element_tree choice_tree range_tree operand_tree
abs_is e s =
    ap expr_kind_tree (sym (kind.rolls-Abs e s)) ∙ fold-roll-ExprKind Tree Tree Tree Tree Tree Tree Tree Tree argument_step choice_step element_step expr_kind_step part_step range_step expr_step operand_step (ExprKind-F.Abs e s)

pub not_is : (e : _) (s : Span) → expr_kind_tree (kind.Not e s) ≡ node1 form.Not (expr_tree e) s
unfolding expr_tree expr_kind_tree part_tree argument_tree element_tree choice_tree range_tree operand_tree
not_is e s =
    ap expr_kind_tree (sym (kind.rolls-Not e s)) ∙ fold-roll-ExprKind Tree Tree Tree Tree Tree Tree Tree Tree argument_step choice_step element_step expr_kind_step part_step range_step expr_step operand_step (ExprKind-F.Not e s)

pub product_is : (e : _) (os : _) (s : Span) → expr_kind_tree (kind.Product e os s) ≡ node2 form.Product (expr_tree e) (trees_of operand_tree os.now) s
unfolding expr_tree expr_kind_tree part_tree argument_tree element_tree choice_tree range_tree operand_tree
product_is e os s =
    ap expr_kind_tree (sym (kind.rolls-Product e os s)) ∙ fold-roll-ExprKind Tree Tree Tree Tree Tree Tree Tree Tree argument_step choice_step element_step expr_kind_step part_step range_step expr_step operand_step (ExprKind-F.Product e os s)

pub signed_is : (o : _) (e : _) (s : Span) → expr_kind_tree (kind.Signed o e s) ≡ node2 form.Signed (operator_tree o) (expr_tree e) s
unfolding expr_tree expr_kind_tree part_tree argument_tree element_tree choice_tree range_tree operand_tree
signed_is o e s =
    ap expr_kind_tree (sym (kind.rolls-Signed o e s)) ∙ fold-roll-ExprKind Tree Tree Tree Tree Tree Tree Tree Tree argument_step choice_step element_step expr_kind_step part_step range_step expr_step operand_step (ExprKind-F.Signed o e s)

pub sum_is : (e : _) (os : _) (s : Span) → expr_kind_tree (kind.Sum e os s) ≡ node2 form.Sum (expr_tree e) (trees_of operand_tree os.now) s
unfolding expr_tree expr_kind_tree part_tree argument_tree element_tree choice_tree range_tree operand_tree
sum_is e os s =
    ap expr_kind_tree (sym (kind.rolls-Sum e os s)) ∙ fold-roll-ExprKind Tree Tree Tree Tree Tree Tree Tree Tree argument_step choice_step element_step expr_kind_step part_step range_step expr_step operand_step (ExprKind-F.Sum e os s)

pub shift_is : (a : _) (o : _) (b : _) (s : Span) → expr_kind_tree (kind.Shift a o b s) ≡ node3 form.Shift (expr_tree a) (operator_tree o) (expr_tree b) s
unfolding expr_tree expr_kind_tree part_tree argument_tree element_tree choice_tree range_tree operand_tree
shift_is a o b s =
    ap expr_kind_tree (sym (kind.rolls-Shift a o b s)) ∙ fold-roll-ExprKind Tree Tree Tree Tree Tree Tree Tree Tree argument_step choice_step element_step expr_kind_step part_step range_step expr_step operand_step (ExprKind-F.Shift a o b s)

pub relation_is : (a : _) (o : _) (b : _) (s : Span) → expr_kind_tree (kind.Relation a o b s) ≡ node3 form.Relation (expr_tree a) (operator_tree o) (expr_tree b) s
unfolding expr_tree expr_kind_tree part_tree argument_tree element_tree choice_tree range_tree operand_tree
relation_is a o b s =
    ap expr_kind_tree (sym (kind.rolls-Relation a o b s)) ∙ fold-roll-ExprKind Tree Tree Tree Tree Tree Tree Tree Tree argument_step choice_step element_step expr_kind_step part_step range_step expr_step operand_step (ExprKind-F.Relation a o b s)

pub logic_is : (e : _) (os : _) (s : Span) → expr_kind_tree (kind.Logic e os s) ≡ node2 form.Logic (expr_tree e) (trees_of operand_tree os.now) s
unfolding expr_tree expr_kind_tree part_tree argument_tree element_tree choice_tree range_tree operand_tree
logic_is e os s =
    ap expr_kind_tree (sym (kind.rolls-Logic e os s)) ∙ fold-roll-ExprKind Tree Tree Tree Tree Tree Tree Tree Tree argument_step choice_step element_step expr_kind_step part_step range_step expr_step operand_step (ExprKind-F.Logic e os s)

pub selected_is : (i : _) → part_tree (part.Selected i) ≡ ident_tree i
unfolding expr_tree expr_kind_tree part_tree argument_tree element_tree choice_tree range_tree operand_tree
selected_is i =
    ap part_tree (sym (part.rolls-Selected i)) ∙ fold-roll-Part Tree Tree Tree Tree Tree Tree Tree Tree argument_step choice_step element_step expr_kind_step part_step range_step expr_step operand_step (Part-F.Selected i)

pub arguments_is : (xs : _) (s : Span) → part_tree (part.Arguments xs s) ≡ node1 form.Arguments (trees_of argument_tree xs.now) s
unfolding expr_tree expr_kind_tree part_tree argument_tree element_tree choice_tree range_tree operand_tree
arguments_is xs s =
    ap part_tree (sym (part.rolls-Arguments xs s)) ∙ fold-roll-Part Tree Tree Tree Tree Tree Tree Tree Tree argument_step choice_step element_step expr_kind_step part_step range_step expr_step operand_step (Part-F.Arguments xs s)

pub attribute_is : (i : _) (s : Span) → part_tree (part.Attribute i s) ≡ node1 form.Attribute (ident_tree i) s
unfolding expr_tree expr_kind_tree part_tree argument_tree element_tree choice_tree range_tree operand_tree
attribute_is i s =
    ap part_tree (sym (part.rolls-Attribute i s)) ∙ fold-roll-Part Tree Tree Tree Tree Tree Tree Tree Tree argument_step choice_step element_step expr_kind_step part_step range_step expr_step operand_step (Part-F.Attribute i s)

pub range_attribute_is : (s : Span) → part_tree (part.RangeAttribute s) ≡ node0 form.RangeAttribute s
unfolding expr_tree expr_kind_tree part_tree argument_tree element_tree choice_tree range_tree operand_tree
range_attribute_is s =
    ap part_tree (sym (part.rolls-RangeAttribute s)) ∙ fold-roll-Part Tree Tree Tree Tree Tree Tree Tree Tree argument_step choice_step element_step expr_kind_step part_step range_step expr_step operand_step (Part-F.RangeAttribute s)

pub qualified_is : (e : _) (s : Span) → part_tree (part.Qualified e s) ≡ node1 form.Qualified (expr_tree e) s
unfolding expr_tree expr_kind_tree part_tree argument_tree element_tree choice_tree range_tree operand_tree
qualified_is e s =
    ap part_tree (sym (part.rolls-Qualified e s)) ∙ fold-roll-Part Tree Tree Tree Tree Tree Tree Tree Tree argument_step choice_step element_step expr_kind_step part_step range_step expr_step operand_step (Part-F.Qualified e s)

pub positional_is : (r : _) → argument_tree (argument.Positional r) ≡ range_tree r
unfolding expr_tree expr_kind_tree part_tree argument_tree element_tree choice_tree range_tree operand_tree
positional_is r =
    ap argument_tree (sym (argument.rolls-Positional r)) ∙ fold-roll-Argument Tree Tree Tree Tree Tree Tree Tree Tree argument_step choice_step element_step expr_kind_step part_step range_step expr_step operand_step (Argument-F.«Argument::Positional» r)

pub named_is : (i : _) (r : _) (s : Span) → argument_tree (argument.Named i r s) ≡ node2 form.Named (ident_tree i) (range_tree r) s
unfolding expr_tree expr_kind_tree part_tree argument_tree element_tree choice_tree range_tree operand_tree
named_is i r s =
    ap argument_tree (sym (argument.rolls-Named i r s)) ∙ fold-roll-Argument Tree Tree Tree Tree Tree Tree Tree Tree argument_step choice_step element_step expr_kind_step part_step range_step expr_step operand_step (Argument-F.Named i r s)

pub element_is : (e : _) → element_tree (element.Positional e) ≡ expr_tree e
unfolding expr_tree expr_kind_tree part_tree argument_tree element_tree choice_tree range_tree operand_tree
element_is e =
    ap element_tree (sym (element.rolls-Positional e)) ∙ fold-roll-Element Tree Tree Tree Tree Tree Tree Tree Tree argument_step choice_step element_step expr_kind_step part_step range_step expr_step operand_step (Element-F.«Element::Positional» e)

pub bound_is : (cs : _) (e : _) (s : Span) → element_tree (element.Bound cs e s) ≡ node2 form.BoundElement (trees_of choice_tree cs.now) (expr_tree e) s
unfolding expr_tree expr_kind_tree part_tree argument_tree element_tree choice_tree range_tree operand_tree
bound_is cs e s =
    ap element_tree (sym (element.rolls-Bound cs e s)) ∙ fold-roll-Element Tree Tree Tree Tree Tree Tree Tree Tree argument_step choice_step element_step expr_kind_step part_step range_step expr_step operand_step (Element-F.Bound cs e s)

pub single_is : (r : _) → choice_tree (choice.Range r) ≡ range_tree r
unfolding expr_tree expr_kind_tree part_tree argument_tree element_tree choice_tree range_tree operand_tree
single_is r =
    ap choice_tree (sym (choice.rolls-Range r)) ∙ fold-roll-Choice Tree Tree Tree Tree Tree Tree Tree Tree argument_step choice_step element_step expr_kind_step part_step range_step expr_step operand_step (Choice-F.Range r)

pub others_is : (s : Span) → choice_tree (choice.Others s) ≡ node0 form.Others s
unfolding expr_tree expr_kind_tree part_tree argument_tree element_tree choice_tree range_tree operand_tree
others_is s =
    ap choice_tree (sym (choice.rolls-Others s)) ∙ fold-roll-Choice Tree Tree Tree Tree Tree Tree Tree Tree argument_step choice_step element_step expr_kind_step part_step range_step expr_step operand_step (Choice-F.Others s)

pub value_is : (e : _) → range_tree (range.Value e) ≡ expr_tree e
unfolding expr_tree expr_kind_tree part_tree argument_tree element_tree choice_tree range_tree operand_tree
value_is e =
    ap range_tree (sym (range.rolls-Value e)) ∙ fold-roll-Range Tree Tree Tree Tree Tree Tree Tree Tree argument_step choice_step element_step expr_kind_step part_step range_step expr_step operand_step (Range-F.Value e)

pub bounds_is : (a : _) (d : _) (b : _) (s : Span) → range_tree (range.Bounds a d b s) ≡ node3 form.Range (expr_tree a) (direction_tree d) (expr_tree b) s
unfolding expr_tree expr_kind_tree part_tree argument_tree element_tree choice_tree range_tree operand_tree
bounds_is a d b s =
    ap range_tree (sym (range.rolls-Bounds a d b s)) ∙ fold-roll-Range Tree Tree Tree Tree Tree Tree Tree Tree argument_step choice_step element_step expr_kind_step part_step range_step expr_step operand_step (Range-F.Bounds a d b s)

pub operand_is : (o : _) → operand_tree (roll-Operand o) ≡ node2 form.Operand (operator_tree o.operator) (expr_tree o.operand) o.span
unfolding expr_tree expr_kind_tree part_tree argument_tree element_tree choice_tree range_tree operand_tree
operand_is o =
    fold-roll-Operand Tree Tree Tree Tree Tree Tree Tree Tree argument_step choice_step element_step expr_kind_step part_step range_step expr_step operand_step o
