use Rattle.std.proofs.Common.{drop}
use Rattle.vv_grammar_laws.proofs.Deep.{whole, deep_in}
use Rattle.vv_productions.proofs.Main.{derived, too_deep_matches}
use Rattle.vv_productions.proofs.laws.what_matches_is_read.Goals as goal

pub returns-clause-whole : goal.returns-clause-whole
returns-clause-whole c = λ s at es m h.
    let e = c.args.edition in
    let ts = c.args.tokens.now in
    let x = derived e s (drop at ts) es at m in
    whole e s ts at es x.derives (λ n i. h n (too_deep_matches e s (drop at ts) es at n x.derives m x.same i))

pub returns-clause-deep : goal.returns-clause-deep
returns-clause-deep c = λ s at n es m h.
    let e = c.args.edition in
    let ts = c.args.tokens.now in
    let x = derived e s (drop at ts) es at m in
    too_deep_matches e s (drop at ts) es at n x.derives m x.same (deep_in e s ts at n es x.derives h)
