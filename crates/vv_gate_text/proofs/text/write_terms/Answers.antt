use Rattle.std.proofs.Common.{◌≡◌, ◌∷◌, ◌++◌, map, length, arith, ap}
use Rattle.std.proofs.Math.ListN.{replicate}
use Rattle.std.proofs.lemmas.Grind.{common_steps}
use Rattle.std.proofs.lemmas.List.{length-map}
use Rattle.std.specs.List.{flat_map}
use Rattle.vv_gate.specs.View.{term_of}
use Rattle.vv_gate_text.proofs.Chains.{link, written_terms}
use Rattle.vv_gate_text.specs.Made.{binary_of}
use Rattle.vv_gate_text.proofs.text.write_terms.Goals as goal

pub returns : goal.returns
returns c =
    let rest = c.in-Some.rest.now in
    let all : map term_of c.args.terms.now ≡ term_of c.in-Some.first.now ∷ map term_of rest = ap (map term_of) c.in-Some.ensures.cases.0 in
    let opened : c.opened.out.items ≡ c.args.out.now.items ++ replicate (length (map term_of rest)) 40 = grind (arith, common_steps, length-map) in
    let linked : c.chained.out.items ≡ c.write_term.new.out.items ++ flat_map (link (binary_of c.args.operator)) (map term_of rest) = grind (arith, common_steps) in
    written_terms (binary_of c.args.operator) _ (term_of c.in-Some.first.now) (map term_of rest) _ _ _ _ all opened c.in_ok-write_term.ensures linked
