use Rattle.vv_tree.proofs.Declarations.{component_is}
use Rattle.vv_pdecl.proofs.Parts.{by_four}
use Rattle.vv_pdecl.proofs.declaration.component.Goals as goal

pub returns : goal.returns
returns c =
    by_four (component_is _ _ _ _ _) c.in_ok-ident.ensures c.in_ok-interfaces.ensures c.in_ok-interfaces-2.ensures c.in_ok-optional_ident.ensures
    c.in_ok-identifier.ensures.tree
