-- What each kind of concurrent statement stands for.
use Rattle.std.proofs.Common.{◌≡◌, ◌∙◌, ap, sym}
use Rattle.vv_grammar.specs.Trees.{Tree}
use Rattle.vv_base.specs.declared.fault.Span.{Span}
use Rattle.vv_grammar.specs.declared.form.Form.TheVariants as form
use Rattle.vv_tree.specs.Leaves.{ident_tree, trees_of, tree_or_absent, node2, node3, node4, node5}
use Rattle.vv_tree.specs.Expressions.{expr_tree}
use Rattle.vv_tree.specs.Statements.{assertion_tree, stmt_tree}
use Rattle.vv_tree.specs.Subtypes.{discrete_tree}
use Rattle.vv_tree.specs.Declarations.{decl_tree}
use Rattle.vv_tree.specs.Concurrents.{sensitivity_tree, waveform_tree, selection_tree, instance_tree, association_tree, conc_tree, conc_kind_tree, conc_kind_step, conc_step}
use Rattle.vv_tree.specs.declared.concurrent.ConcKind.TheOpen.{ConcKind-F}
use Rattle.vv_tree.specs.declared.concurrent.ConcKind.{fold-roll-ConcKind}
use Rattle.vv_tree.specs.declared.concurrent.ConcKind.TheVariants as kind

pub labelled_is : (i : _) (x : _) (s : Span) → conc_kind_tree (kind.Labelled i x s) ≡ node2 form.Labelled (ident_tree i) (conc_tree x) s
unfolding conc_tree conc_kind_tree
labelled_is i x s =
    ap conc_kind_tree (sym (kind.rolls-Labelled i x s)) ∙ fold-roll-ConcKind Tree Tree conc_kind_step conc_step (ConcKind-F.Labelled i x s)

pub process_is : (l : _) (ds : _) (ss : _) (e : _) (s : Span) → conc_kind_tree (kind.Process l ds ss e s) ≡ node4 form.Process (sensitivity_tree l) (trees_of decl_tree ds.now) (trees_of stmt_tree ss.now) (tree_or_absent ident_tree e) s
unfolding conc_tree conc_kind_tree
process_is l ds ss e s =
    ap conc_kind_tree (sym (kind.rolls-Process l ds ss e s)) ∙ fold-roll-ConcKind Tree Tree conc_kind_step conc_step (ConcKind-F.Process l ds ss e s)

pub conditional_is : (t : _) (ws : _) (s : Span) → conc_kind_tree (kind.Conditional t ws s) ≡ node2 form.Conditional (expr_tree t) (trees_of waveform_tree ws.now) s
unfolding conc_tree conc_kind_tree
conditional_is t ws s =
    ap conc_kind_tree (sym (kind.rolls-Conditional t ws s)) ∙ fold-roll-ConcKind Tree Tree conc_kind_step conc_step (ConcKind-F.Conditional t ws s)

pub selected_is : (x : _) (t : _) (ss : _) (s : Span) → conc_kind_tree (kind.Selected x t ss s) ≡ node3 form.Select (expr_tree x) (expr_tree t) (trees_of selection_tree ss.now) s
unfolding conc_tree conc_kind_tree
selected_is x t ss s =
    ap conc_kind_tree (sym (kind.rolls-Selected x t ss s)) ∙ fold-roll-ConcKind Tree Tree conc_kind_step conc_step (ConcKind-F.Selected x t ss s)

pub assertion_is : (a : _) → conc_kind_tree (kind.Assertion a) ≡ assertion_tree a
unfolding conc_tree conc_kind_tree
assertion_is a =
    ap conc_kind_tree (sym (kind.rolls-Assertion a)) ∙ fold-roll-ConcKind Tree Tree conc_kind_step conc_step (ConcKind-F.Assertion a)

pub instance_is : (u : _) (gs : _) (ps : _) (s : Span) → conc_kind_tree (kind.Instance u gs ps s) ≡ node3 form.Instance (instance_tree u) (trees_of association_tree gs.now) (trees_of association_tree ps.now) s
unfolding conc_tree conc_kind_tree
instance_is u gs ps s =
    ap conc_kind_tree (sym (kind.rolls-Instance u gs ps s)) ∙ fold-roll-ConcKind Tree Tree conc_kind_step conc_step (ConcKind-F.Instance u gs ps s)

pub for_is : (i : _) (d : _) (ds : _) (cs : _) (e : _) (s : Span) → conc_kind_tree (kind.ForGenerate i d ds cs e s) ≡ node5 form.ForGenerate (ident_tree i) (discrete_tree d) (trees_of decl_tree ds.now) (trees_of conc_tree cs.now) (tree_or_absent ident_tree e) s
unfolding conc_tree conc_kind_tree
for_is i d ds cs e s =
    ap conc_kind_tree (sym (kind.rolls-ForGenerate i d ds cs e s)) ∙ fold-roll-ConcKind Tree Tree conc_kind_step conc_step (ConcKind-F.ForGenerate i d ds cs e s)

pub if_is : (c : _) (ds : _) (cs : _) (e : _) (s : Span) → conc_kind_tree (kind.IfGenerate c ds cs e s) ≡ node4 form.IfGenerate (expr_tree c) (trees_of decl_tree ds.now) (trees_of conc_tree cs.now) (tree_or_absent ident_tree e) s
unfolding conc_tree conc_kind_tree
if_is c ds cs e s =
    ap conc_kind_tree (sym (kind.rolls-IfGenerate c ds cs e s)) ∙ fold-roll-ConcKind Tree Tree conc_kind_step conc_step (ConcKind-F.IfGenerate c ds cs e s)
