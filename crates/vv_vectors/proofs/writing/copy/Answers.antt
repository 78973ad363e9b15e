use Rattle.std.proofs.Common.{◌≡◌, ◌+◌, ◌<◌, length, set, get_or, ap, sym, ◌∙◌, arith, pos, w32}
use Rattle.std.proofs.lemmas.Int.{to_z-of_z}
use Rattle.std.proofs.lemmas.Option.{get_or_from_slice_get}
use Rattle.vv_vectors.specs.Vectors.{cells_at}
use Rattle.vv_vectors.proofs.Places.{length-cells_at, get_or-cells_at, apart_element}
use Rattle.vv_vectors.proofs.Written.{written_more}
use Rattle.vv_vectors.proofs.writing.copy.Goals as goal

pub loop-k-preserved : goal.loop-k-preserved
loop-k-preserved c =
    let old = c.args.cells.now in
    let from = c.args.from in
    let to = c.args.to in
    let k = c.loop-k.k in
    let v = c.get-v.result in
    let zs = cells_at old from in
    let within : k < from.size = omega (arith, c.loop-k-test.true, c.requires.size) in
    let count : length zs ≡ from.size = length-cells_at old from (omega (arith, c.requires.from)) in
    let read : get_or c.loop-k.cells (from.first + k) (pos 0) ≡ v = get_or_from_slice_get c.loop-k.cells (from.first + k) v (pos 0) c.get-v.ensures in
    let kept : get_or zs k (pos 0) ≡ v
    = get_or-cells_at old from k (pos 0) within
    ∙ sym (apart_element old zs from to k k (pos 0) c.requires.to (count ∙ c.requires.size) c.requires.apart c.loop-k.auto.k-end within)
    ∙ ap (λ ys. get_or ys (from.first + k) (pos 0)) (sym c.loop-k.invariant)
    ∙ read in
    c.set.ensures
    ∙ (λ i. set (c.loop-k.invariant i) (to.first + k) (to_z-of_z w32 v (record { sfits = c.get-v.type_inv }) i))
    ∙ written_more old to.first zs k v (pos 0) (omega (arith, count, within)) (omega (arith, count, c.requires.size, c.requires.to)) kept
