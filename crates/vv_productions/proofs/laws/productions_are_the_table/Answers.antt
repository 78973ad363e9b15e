use Rattle.vv_productions.proofs.Main.{admitted, derived, too_deep_matches, too_deep_derives}
use Rattle.vv_productions.proofs.laws.productions_are_the_table.Goals as goal

pub returns-clause-admitted : goal.returns-clause-admitted
returns-clause-admitted c = λ s u es at d.
    let e = c.args.edition in
    let x = admitted e s u es at d in
    (x.matches, λ n. (too_deep_matches e s u es at n d x.matches x.same, too_deep_derives e s u es at n d x.matches x.same))

pub returns-clause-derived : goal.returns-clause-derived
returns-clause-derived c = λ s u es at m.
    let e = c.args.edition in
    let x = derived e s u es at m in
    (x.derives, λ n. (too_deep_matches e s u es at n x.derives m x.same, too_deep_derives e s u es at n x.derives m x.same))
