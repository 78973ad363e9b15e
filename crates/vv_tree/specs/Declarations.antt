-- What contracts see of subtypes and declarations: the tree that each stands for.
use Rattle.std.specs.Prelude.{List, [], ◌∷◌, map}
use Rattle.vv_grammar.specs.Trees.{Tree, list}
use Rattle.vv_grammar.specs.declared.form.Form.TheVariants as form
use Rattle.vv_tree.specs.Leaves.{ident_tree, keyword_tree, mode_tree, designator_tree, trees, trees_of, tree_or_absent, node0, node1, node2, node3, node4, node5}
use Rattle.vv_tree.specs.Expressions.{expr_tree, range_tree}
use Rattle.vv_tree.specs.Statements.{stmt_tree}
use Rattle.vv_tree.specs.Subtypes.{mark_tree, discrete_tree, subtype_tree}
use Rattle.vv_tree.specs.declared.declaration.TypeDefinition.{TypeDefinition}
use Rattle.vv_tree.specs.declared.declaration.TypeDefinition.TheVariants as definition
use Rattle.vv_tree.specs.declared.declaration.ArrayIndex.{ArrayIndex}
use Rattle.vv_tree.specs.declared.declaration.ArrayIndex.TheVariants as index
use Rattle.vv_tree.specs.declared.declaration.Interface.{Interface}
use Rattle.vv_tree.specs.declared.declaration.Interface.TheVariants as interface
use Rattle.vv_tree.specs.declared.declaration.FunctionSpecification.{FunctionSpecification}
use Rattle.vv_tree.specs.declared.declaration.SelectedName.{SelectedName}
use Rattle.vv_tree.specs.declared.declaration.UseClause.{UseClause}
use Rattle.vv_tree.specs.declared.declaration.Decl.{Decl, fold-Decl}
use Rattle.vv_tree.specs.declared.declaration.DeclKind.{DeclKind, fold-DeclKind}
use Rattle.vv_tree.specs.declared.declaration.DeclKind.TheOpen.{Decl-F, DeclKind-F}

abbrev pub index_tree : ArrayIndex → Tree
index_tree (index.Bounded d) = discrete_tree d
index_tree (index.Unbounded m s) = node1 form.Unbounded (mark_tree m) s

abbrev pub definition_tree : TypeDefinition → Tree
definition_tree (definition.Enumeration ls s) = node1 form.Enumeration (trees_of designator_tree ls.now) s
definition_tree (definition.Array i t s) = node2 form.Array (index_tree i) (subtype_tree t) s

abbrev pub interface_tree : Interface → Tree
interface_tree (interface.Constant is t v s) = node3 form.ConstantInterface (trees_of ident_tree is.now) (subtype_tree t) (tree_or_absent expr_tree v) s
interface_tree (interface.Port is m t v s) =
    node4 form.PortInterface (trees_of ident_tree is.now) (tree_or_absent mode_tree m) (subtype_tree t) (tree_or_absent expr_tree v) s

abbrev pub specification_tree : FunctionSpecification → Tree
specification_tree f =
    node4 form.FunctionSpecification (keyword_tree f.keyword) (designator_tree f.designator) (trees_of interface_tree f.parameters.now) (mark_tree f.result) f.span

abbrev pub selected_tree : SelectedName → Tree
selected_tree n = node3 form.SelectedName (ident_tree n.library) (ident_tree n.package) (tree_or_absent designator_tree n.suffix) n.span

abbrev pub use_tree : UseClause → Tree
use_tree u = node1 form.Use (trees_of selected_tree u.names.now) u.span

abbrev pub decl_step : Decl-F Tree Tree → Tree
decl_step d = d.node.now.value

abbrev pub decl_kind_step : DeclKind-F Tree Tree → Tree
decl_kind_step (DeclKind-F.Type i d s) = node2 form.Type (ident_tree i) (definition_tree d) s
decl_kind_step (DeclKind-F.Subtype i t s) = node2 form.SubtypeDeclaration (ident_tree i) (subtype_tree t) s
decl_kind_step (DeclKind-F.Constant is t v s) = node3 form.Constant (trees_of ident_tree is.now) (subtype_tree t) (tree_or_absent expr_tree v) s
decl_kind_step (DeclKind-F.Signal is t v s) = node3 form.Signal (trees_of ident_tree is.now) (subtype_tree t) (tree_or_absent expr_tree v) s
decl_kind_step (DeclKind-F.Variable is t v s) = node3 form.Variable (trees_of ident_tree is.now) (subtype_tree t) (tree_or_absent expr_tree v) s
decl_kind_step (DeclKind-F.Function f s) = node1 form.FunctionDeclaration (specification_tree f) s
decl_kind_step (DeclKind-F.FunctionBody f ds ss e s) =
    node4 form.FunctionBody (specification_tree f) (list (trees ds.now)) (trees_of stmt_tree ss.now) (tree_or_absent designator_tree e) s
decl_kind_step (DeclKind-F.Component i gs ps e s) =
    node4 form.ComponentDeclaration (ident_tree i) (trees_of interface_tree gs.now) (trees_of interface_tree ps.now) (tree_or_absent ident_tree e) s
decl_kind_step (DeclKind-F.Attribute i m s) = node2 form.AttributeDeclaration (ident_tree i) (mark_tree m) s
decl_kind_step (DeclKind-F.AttributeSpecification i ds c v s) =
    node4 form.AttributeSpecification (ident_tree i) (trees_of designator_tree ds.now) (keyword_tree c) (expr_tree v) s
decl_kind_step (DeclKind-F.Use u) = use_tree u

unfoldable pub decl_tree : Decl → Tree
decl_tree = fold-Decl Tree Tree decl_kind_step decl_step

unfoldable pub decl_kind_tree : DeclKind → Tree
decl_kind_tree = fold-DeclKind Tree Tree decl_kind_step decl_step
