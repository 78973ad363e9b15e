use Rattle.vv_tree.proofs.Concurrents.{conditional_is}
use Rattle.vv_pdecl.proofs.Parts.{by_two}
use Rattle.vv_pconc.proofs.concurrent.conditional.Goals as goal

pub returns : goal.returns
returns c = by_two (conditional_is _ _ _) c.in_ok-expr.ensures c.in_ok-waveforms.ensures c.in_ok-target.ensures.tree
