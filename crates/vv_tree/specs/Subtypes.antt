-- What contracts see of subtypes: the tree that each part stands for.
use Rattle.vv_grammar.specs.Trees.{Tree}
use Rattle.vv_grammar.specs.declared.form.Form.TheVariants as form
use Rattle.vv_tree.specs.Leaves.{ident_tree, trees_of, tree_or_absent, node1, node2}
use Rattle.vv_tree.specs.Expressions.{range_tree}
use Rattle.vv_tree.specs.declared.declaration.Mark.{Mark}
use Rattle.vv_tree.specs.declared.declaration.DiscreteRange.{DiscreteRange}
use Rattle.vv_tree.specs.declared.declaration.DiscreteRange.TheVariants as discrete
use Rattle.vv_tree.specs.declared.declaration.Constraint.{Constraint}
use Rattle.vv_tree.specs.declared.declaration.Constraint.TheVariants as constraint
use Rattle.vv_tree.specs.declared.declaration.SubtypeIndication.{SubtypeIndication}

abbrev pub mark_tree : Mark → Tree
mark_tree m = node2 form.Mark (ident_tree m.first) (trees_of ident_tree m.others.now) m.span

abbrev pub discrete_tree : DiscreteRange → Tree
discrete_tree (discrete.Range r) = range_tree r
discrete_tree (discrete.Marked m r s) = node2 form.MarkRange (mark_tree m) (range_tree r) s

abbrev pub constraint_tree : Constraint → Tree
constraint_tree (constraint.Index d s) = node1 form.IndexConstraint (discrete_tree d) s
constraint_tree (constraint.Range r s) = node1 form.RangeConstraint (range_tree r) s

abbrev pub subtype_tree : SubtypeIndication → Tree
subtype_tree t = node2 form.Subtype (mark_tree t.mark) (tree_or_absent constraint_tree t.constraint) t.span
