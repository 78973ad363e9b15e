-- What contracts see of concurrent statements and of units: the tree that each stands for.
use Rattle.std.specs.Prelude.{List, [], ◌∷◌, map}
use Rattle.vv_grammar.specs.Trees.{Tree, list, absent}
use Rattle.vv_grammar.specs.declared.form.Form.TheVariants as form
use Rattle.vv_tree.specs.Leaves.{ident_tree, trees, trees_of, tree_or_absent, node0, node1, node2, node3, node4, node5}
use Rattle.vv_tree.specs.Expressions.{expr_tree, choice_tree}
use Rattle.vv_tree.specs.Subtypes.{mark_tree, discrete_tree}
use Rattle.vv_tree.specs.Statements.{stmt_tree, assertion_tree}
use Rattle.vv_tree.specs.Declarations.{decl_tree, interface_tree, use_tree}
use Rattle.vv_tree.specs.declared.concurrent.Sensitivity.{Sensitivity}
use Rattle.vv_tree.specs.declared.concurrent.Sensitivity.TheVariants as sensitivity
use Rattle.vv_tree.specs.declared.concurrent.Waveform.{Waveform}
use Rattle.vv_tree.specs.declared.concurrent.Waveform.TheVariants as waveform
use Rattle.vv_tree.specs.declared.concurrent.Selection.{Selection}
use Rattle.vv_tree.specs.declared.concurrent.InstanceUnit.{InstanceUnit}
use Rattle.vv_tree.specs.declared.concurrent.InstanceUnit.TheVariants as instance
use Rattle.vv_tree.specs.declared.concurrent.Actual.{Actual}
use Rattle.vv_tree.specs.declared.concurrent.Actual.TheVariants as actual
use Rattle.vv_tree.specs.declared.concurrent.Association.{Association}
use Rattle.vv_tree.specs.declared.concurrent.Association.TheVariants as association
use Rattle.vv_tree.specs.declared.concurrent.Conc.{Conc, fold-Conc}
use Rattle.vv_tree.specs.declared.concurrent.ConcKind.{ConcKind, fold-ConcKind}
use Rattle.vv_tree.specs.declared.concurrent.ConcKind.TheOpen.{Conc-F, ConcKind-F}
use Rattle.vv_tree.specs.declared.unit.Context.{Context}
use Rattle.vv_tree.specs.declared.unit.Context.TheVariants as context
use Rattle.vv_tree.specs.declared.unit.Unit.{Unit as FileUnit}
use Rattle.vv_tree.specs.declared.unit.UnitKind.{UnitKind}
use Rattle.vv_tree.specs.declared.unit.UnitKind.TheVariants as unit

abbrev pub sensitivity_tree : Sensitivity → Tree
sensitivity_tree sensitivity.Absent = absent
sensitivity_tree (sensitivity.Listed ns s) = node1 form.Listed (trees_of expr_tree ns.now) s
sensitivity_tree (sensitivity.All s) = node0 form.AllSignals s

abbrev pub waveform_tree : Waveform → Tree
waveform_tree (waveform.Always v) = expr_tree v
waveform_tree (waveform.When v c s) = node2 form.ConditionalWaveform (expr_tree v) (expr_tree c) s

abbrev pub selection_tree : Selection → Tree
selection_tree x = node2 form.Selection (expr_tree x.value) (trees_of choice_tree x.choices.now) x.span

abbrev pub instance_tree : InstanceUnit → Tree
instance_tree (instance.Component m) = mark_tree m
instance_tree (instance.Entity m a s) = node2 form.EntityInstance (mark_tree m) (tree_or_absent ident_tree a) s

abbrev pub actual_tree : Actual → Tree
actual_tree (actual.Open s) = node0 form.Open s
actual_tree (actual.Given e) = expr_tree e

abbrev pub association_tree : Association → Tree
association_tree (association.Positional a) = actual_tree a
association_tree (association.Named f a s) = node2 form.NamedAssociation (ident_tree f) (actual_tree a) s

abbrev pub conc_step : Conc-F Tree Tree → Tree
conc_step x = x.node.now.value

abbrev pub conc_kind_step : ConcKind-F Tree Tree → Tree
conc_kind_step (ConcKind-F.Labelled i x s) = node2 form.Labelled (ident_tree i) x s
conc_kind_step (ConcKind-F.Process l ds ss e s) =
    node4 form.Process (sensitivity_tree l) (trees_of decl_tree ds.now) (trees_of stmt_tree ss.now) (tree_or_absent ident_tree e) s
conc_kind_step (ConcKind-F.Conditional t ws s) = node2 form.Conditional (expr_tree t) (trees_of waveform_tree ws.now) s
conc_kind_step (ConcKind-F.Selected x t ss s) = node3 form.Select (expr_tree x) (expr_tree t) (trees_of selection_tree ss.now) s
conc_kind_step (ConcKind-F.Assertion a) = assertion_tree a
conc_kind_step (ConcKind-F.Instance u gs ps s) =
    node3 form.Instance (instance_tree u) (trees_of association_tree gs.now) (trees_of association_tree ps.now) s
conc_kind_step (ConcKind-F.ForGenerate i d ds cs e s) =
    node5 form.ForGenerate (ident_tree i) (discrete_tree d) (trees_of decl_tree ds.now) (list (trees cs.now)) (tree_or_absent ident_tree e) s
conc_kind_step (ConcKind-F.IfGenerate c ds cs e s) =
    node4 form.IfGenerate (expr_tree c) (trees_of decl_tree ds.now) (list (trees cs.now)) (tree_or_absent ident_tree e) s

unfoldable pub conc_tree : Conc → Tree
conc_tree = fold-Conc Tree Tree conc_kind_step conc_step

unfoldable pub conc_kind_tree : ConcKind → Tree
conc_kind_tree = fold-ConcKind Tree Tree conc_kind_step conc_step

abbrev pub context_tree : Context → Tree
context_tree (context.Library is s) = node1 form.Library (trees_of ident_tree is.now) s
context_tree (context.Use u) = use_tree u

abbrev pub unit_kind_tree : UnitKind → Tree
unit_kind_tree (unit.Entity i gs ps e s) =
    node4 form.Entity (ident_tree i) (trees_of interface_tree gs.now) (trees_of interface_tree ps.now) (tree_or_absent ident_tree e) s
unit_kind_tree (unit.Architecture i n ds cs e s) =
    node5 form.Architecture (ident_tree i) (ident_tree n) (trees_of decl_tree ds.now) (trees_of conc_tree cs.now) (tree_or_absent ident_tree e) s
unit_kind_tree (unit.Package i ds e s) = node3 form.Package (ident_tree i) (trees_of decl_tree ds.now) (tree_or_absent ident_tree e) s
unit_kind_tree (unit.PackageBody i ds e s) = node3 form.PackageBody (ident_tree i) (trees_of decl_tree ds.now) (tree_or_absent ident_tree e) s

abbrev pub unit_tree : FileUnit → Tree
unit_tree u = node2 form.Unit (trees_of context_tree u.contexts.now) (unit_kind_tree u.kind) u.span
