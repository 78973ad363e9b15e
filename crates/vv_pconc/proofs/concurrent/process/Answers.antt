use Rattle.vv_tree.proofs.Concurrents.{process_is}
use Rattle.vv_pdecl.proofs.Parts.{by_four}
use Rattle.vv_pconc.proofs.concurrent.process.Goals as goal

pub returns : goal.returns
returns c = by_four (process_is _ _ _ _ _) c.in_ok-sensitivity.ensures c.in_ok-declarations.ensures c.in_ok-statements.ensures c.in_ok-optional_ident.ensures c.in_ok-signals.ensures.tree
