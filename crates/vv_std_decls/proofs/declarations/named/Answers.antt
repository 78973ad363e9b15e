use Rattle.std.proofs.Common.{◌++◌, ◌∙◌}
use Rattle.vv_std_decls.specs.Declarations.{named}
use Rattle.vv_std_decls.proofs.declarations.named.Goals as goal

pub returns : goal.returns
unfolding named
returns c = c.in_ok-append.ensures ∙ (λ i. c.in_ok-list.ensures i ++ c.in_ok-more.ensures i)
