use Rattle.std.proofs.Common.{rules, ◌≡◌, [], ◌∷◌, ◌++◌, map, ap, ◌∙◌, arith}
use Rattle.std.proofs.lemmas.List.{take_all}
use Rattle.vv_types.specs.declared.value.Value.{the_lemmas}
use Rattle.vv_vectors.specs.Vectors.{vector_at}
use Rattle.vv_vectors.proofs.Places.{length-vector_at}
use Rattle.vv_num.specs.Values.{logic}
use Rattle.vv_num.proofs.Elements.{grown}
use Rattle.vv_num.proofs.results.vector_in.Goals as goal

pub loop-k-preserved : goal.loop-k-preserved
loop-k-preserved c =
    let xs = vector_at c.args.cells.now c.args.place in
    c.in_ok-push.ensures.ok ∙ ap (λ item. c.loop-k.elements ++ item ∷ []) c.logic.ensures
    ∙ grown xs c.loop-k.k c.bit.result c.loop-k.elements c.loop-k.invariant c.bit.ensures

pub returns : goal.returns
returns c =
    let xs = vector_at c.args.cells.now c.args.place in
    let all : c.loop-k.elements ≡ map logic xs
    = c.loop-k.invariant ∙ ap (map logic) (take_all c.loop-k.k xs (omega (arith, length-vector_at c.args.cells.now c.args.place (omega (arith, c.requires)), c.loop-k-test.false))) in
    rw all (search (rules, the_lemmas))
