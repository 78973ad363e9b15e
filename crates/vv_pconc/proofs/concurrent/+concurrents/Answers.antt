use Rattle.vv_tree.proofs.Concurrents.{labelled_is, for_is, if_is}
use Rattle.vv_pdecl.proofs.Parts.{by_two, by_four, by_five}
use Rattle.vv_pconc.proofs.concurrent.+concurrents.Goals as goal

pub labelled-returns : goal.labelled-returns
labelled-returns t c = by_two (labelled_is _ _ _) c.in_ok-ident.ensures c.in_ok-concurrent.ensures c.in_ok-label.ensures.tree

pub for_generate-returns : goal.for_generate-returns
for_generate-returns t c =
    by_five (for_is _ _ _ _ _ _) c.in_ok-ident.ensures c.in_ok-discrete_range.ensures c.in_ok-declarations.ensures c.in_ok-concurrents.ensures
    c.in_ok-optional_ident.ensures c.in_ok-identifier.ensures.tree

pub if_generate-returns : goal.if_generate-returns
if_generate-returns t c =
    by_four (if_is _ _ _ _ _) c.in_ok-expr.ensures c.in_ok-declarations.ensures c.in_ok-concurrents.ensures c.in_ok-optional_ident.ensures
    c.in_ok-condition.ensures.tree
