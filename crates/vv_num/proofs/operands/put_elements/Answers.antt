use Rattle.std.proofs.Common.{◌≡◌, ◌+◌, ◌<◌, length, map, set, get_or, ap, sym, ◌∙◌, arith, pos, w32}
use Rattle.std.proofs.lemmas.Int.{to_z-of_z}
use Rattle.std.proofs.lemmas.List.{get_or-map, length-map}
use Rattle.vv_vectors.proofs.Written.{written_more}
use Rattle.vv_num.specs.Values.{cell}
use Rattle.vv_num.proofs.operands.put_elements.Goals as goal

pub loop-k-preserved : goal.loop-k-preserved
loop-k-preserved c =
    let old = c.args.cells.now in
    let to = c.args.to in
    let k = c.loop-k.k in
    let values = c.args.values.now in
    let zs = map cell values in
    let count : length zs ≡ to.size = length-map values cell ∙ sym c.requires.size in
    let within : k < length values = c.loop-k-test.true in
    let here : get_or zs k (pos 0) ≡ c.cell.result
    = get_or-map cell values k c.index-values-k.result (pos 0) within ∙ ap cell (sym c.index-values-k.is) ∙ sym c.cell.ensures in
    c.set.ensures
    ∙ (λ i. set (c.loop-k.invariant i) (to.first + k) (to_z-of_z w32 c.cell.result (record { sfits = c.cell.type_inv }) i))
    ∙ written_more old to.first zs k c.cell.result (pos 0) (omega (arith, within, length-map values cell)) (omega (arith, count, c.requires.lies)) here
