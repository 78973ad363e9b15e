use Rattle.std.proofs.Common.{◌++◌, ap, ◌∙◌}
use Rattle.vv_std_decls.specs.Declarations.{std_declarations}
use Rattle.vv_std_decls.proofs.declarations.std_decls.Goals as goal

pub returns : goal.returns
unfolding std_declarations
returns c =
    c.in_ok-append-2.ensures
    ∙ ap (λ xs. xs ++ c.in_ok-logic.logic) c.in_ok-append.ensures
    ∙ (λ i. (c.in_ok-list.ensures i ++ c.in_ok-operators.ensures i) ++ c.in_ok-logic.ensures i)
