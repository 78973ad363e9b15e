use Rattle.vv_tree.proofs.Concurrents.{selected_is}
use Rattle.vv_pdecl.proofs.Parts.{by_three}
use Rattle.vv_pconc.proofs.concurrent.selected.Goals as goal

pub returns : goal.returns
returns c = by_three (selected_is _ _ _ _) c.in_ok-expr.ensures c.in_ok-expr-2.ensures c.in_ok-selections.ensures c.in_ok-selector.ensures.tree
