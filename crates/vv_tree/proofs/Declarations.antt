-- What each kind of declaration stands for.
use Rattle.std.proofs.Common.{◌≡◌, ◌∙◌, ap, sym}
use Rattle.vv_grammar.specs.Trees.{Tree}
use Rattle.vv_base.specs.declared.fault.Span.{Span}
use Rattle.vv_grammar.specs.declared.form.Form.TheVariants as form
use Rattle.vv_tree.specs.Leaves.{ident_tree, keyword_tree, designator_tree, trees_of, tree_or_absent, node1, node2, node3, node4}
use Rattle.vv_tree.specs.Expressions.{expr_tree}
use Rattle.vv_tree.specs.Statements.{stmt_tree}
use Rattle.vv_tree.specs.Subtypes.{mark_tree, subtype_tree}
use Rattle.vv_tree.specs.Declarations.{definition_tree, interface_tree, specification_tree, use_tree, decl_tree, decl_kind_tree, decl_kind_step, decl_step}
use Rattle.vv_tree.specs.declared.declaration.DeclKind.TheOpen.{DeclKind-F}
use Rattle.vv_tree.specs.declared.declaration.DeclKind.{fold-roll-DeclKind}
use Rattle.vv_tree.specs.declared.declaration.DeclKind.TheVariants as kind

pub type_is : (i : _) (d : _) (s : Span) → decl_kind_tree (kind.Type i d s) ≡ node2 form.Type (ident_tree i) (definition_tree d) s
unfolding decl_tree decl_kind_tree
type_is i d s =
    ap decl_kind_tree (sym (kind.rolls-Type i d s)) ∙ fold-roll-DeclKind Tree Tree decl_kind_step decl_step (DeclKind-F.Type i d s)

pub subtype_is : (i : _) (t : _) (s : Span) → decl_kind_tree (kind.Subtype i t s) ≡ node2 form.SubtypeDeclaration (ident_tree i) (subtype_tree t) s
unfolding decl_tree decl_kind_tree
subtype_is i t s =
    ap decl_kind_tree (sym (kind.rolls-Subtype i t s)) ∙ fold-roll-DeclKind Tree Tree decl_kind_step decl_step (DeclKind-F.Subtype i t s)

pub constant_is : (is : _) (t : _) (v : _) (s : Span) → decl_kind_tree (kind.Constant is t v s) ≡ node3 form.Constant (trees_of ident_tree is.now) (subtype_tree t) (tree_or_absent expr_tree v) s
unfolding decl_tree decl_kind_tree
constant_is is t v s =
    ap decl_kind_tree (sym (kind.rolls-Constant is t v s)) ∙ fold-roll-DeclKind Tree Tree decl_kind_step decl_step (DeclKind-F.Constant is t v s)

pub signal_is : (is : _) (t : _) (v : _) (s : Span) → decl_kind_tree (kind.Signal is t v s) ≡ node3 form.Signal (trees_of ident_tree is.now) (subtype_tree t) (tree_or_absent expr_tree v) s
unfolding decl_tree decl_kind_tree
signal_is is t v s =
    ap decl_kind_tree (sym (kind.rolls-Signal is t v s)) ∙ fold-roll-DeclKind Tree Tree decl_kind_step decl_step (DeclKind-F.Signal is t v s)

pub variable_is : (is : _) (t : _) (v : _) (s : Span) → decl_kind_tree (kind.Variable is t v s) ≡ node3 form.Variable (trees_of ident_tree is.now) (subtype_tree t) (tree_or_absent expr_tree v) s
unfolding decl_tree decl_kind_tree
variable_is is t v s =
    ap decl_kind_tree (sym (kind.rolls-Variable is t v s)) ∙ fold-roll-DeclKind Tree Tree decl_kind_step decl_step (DeclKind-F.Variable is t v s)

pub function_is : (f : _) (s : Span) → decl_kind_tree (kind.Function f s) ≡ node1 form.FunctionDeclaration (specification_tree f) s
unfolding decl_tree decl_kind_tree
function_is f s =
    ap decl_kind_tree (sym (kind.rolls-Function f s)) ∙ fold-roll-DeclKind Tree Tree decl_kind_step decl_step (DeclKind-F.Function f s)

pub body_is : (f : _) (ds : _) (ss : _) (e : _) (s : Span) → decl_kind_tree (kind.FunctionBody f ds ss e s) ≡ node4 form.FunctionBody (specification_tree f) (trees_of decl_tree ds.now) (trees_of stmt_tree ss.now) (tree_or_absent designator_tree e) s
unfolding decl_tree decl_kind_tree
body_is f ds ss e s =
    ap decl_kind_tree (sym (kind.rolls-FunctionBody f ds ss e s)) ∙ fold-roll-DeclKind Tree Tree decl_kind_step decl_step (DeclKind-F.FunctionBody f ds ss e s)

pub component_is : (i : _) (gs : _) (ps : _) (e : _) (s : Span) → decl_kind_tree (kind.Component i gs ps e s) ≡ node4 form.ComponentDeclaration (ident_tree i) (trees_of interface_tree gs.now) (trees_of interface_tree ps.now) (tree_or_absent ident_tree e) s
unfolding decl_tree decl_kind_tree
component_is i gs ps e s =
    ap decl_kind_tree (sym (kind.rolls-Component i gs ps e s)) ∙ fold-roll-DeclKind Tree Tree decl_kind_step decl_step (DeclKind-F.Component i gs ps e s)

pub attribute_is : (i : _) (m : _) (s : Span) → decl_kind_tree (kind.Attribute i m s) ≡ node2 form.AttributeDeclaration (ident_tree i) (mark_tree m) s
unfolding decl_tree decl_kind_tree
attribute_is i m s =
    ap decl_kind_tree (sym (kind.rolls-Attribute i m s)) ∙ fold-roll-DeclKind Tree Tree decl_kind_step decl_step (DeclKind-F.Attribute i m s)

pub specification_is : (i : _) (ds : _) (c : _) (v : _) (s : Span) → decl_kind_tree (kind.AttributeSpecification i ds c v s) ≡ node4 form.AttributeSpecification (ident_tree i) (trees_of designator_tree ds.now) (keyword_tree c) (expr_tree v) s
unfolding decl_tree decl_kind_tree
specification_is i ds c v s =
    ap decl_kind_tree (sym (kind.rolls-AttributeSpecification i ds c v s)) ∙ fold-roll-DeclKind Tree Tree decl_kind_step decl_step (DeclKind-F.AttributeSpecification i ds c v s)

pub use_is : (u : _) → decl_kind_tree (kind.Use u) ≡ use_tree u
unfolding decl_tree decl_kind_tree
use_is u =
    ap decl_kind_tree (sym (kind.rolls-Use u)) ∙ fold-roll-DeclKind Tree Tree decl_kind_step decl_step (DeclKind-F.Use u)
