use Rattle.std.proofs.Common.{◌≡◌, ◌<◌, ◌||◌, false, length, ap, sym, ◌∙◌, arith, get_or}
use Rattle.std.proofs.lemmas.List.Folds.{list_any_at, list_any_more}
use Rattle.std.proofs.lemmas.Option.{get_or_from_slice_get}
use Rattle.vv_bits.specs.declared.nine.S9.TheVariants.{Dash}
use Rattle.vv_types.specs.Number.{is_meta}
use Rattle.vv_vectors.specs.Vectors.{vector_at}
use Rattle.vv_vectors.proofs.Places.{length-vector_at}
use Rattle.vv_vectors.proofs.reading.any_meta.Goals as goal

pub returns-then-is_meta : goal.returns-then-is_meta
returns-then-is_meta c =
    let xs = vector_at c.args.cells.now c.args.place in
    let k = c.loop-k.k in
    let same : get_or xs k Dash ≡ c.bit.result = get_or_from_slice_get xs k c.bit.result Dash c.bit.ensures in
    let within : k < length xs = omega (arith, length-vector_at c.args.cells.now c.args.place (omega (arith, c.requires)), c.loop-k-test.true) in
    sym (list_any_at is_meta xs k Dash within (ap is_meta same ∙ sym c.is_meta.ensures ∙ c.if-is_meta.true))

pub loop-k-preserved : goal.loop-k-preserved
loop-k-preserved c =
    let xs = vector_at c.args.cells.now c.args.place in
    let k = c.loop-k.k in
    let same : get_or xs k Dash ≡ c.bit.result = get_or_from_slice_get xs k c.bit.result Dash c.bit.ensures in
    let within : k < length xs = omega (arith, length-vector_at c.args.cells.now c.args.place (omega (arith, c.requires)), c.loop-k-test.true) in
    let no : is_meta (get_or xs k Dash) ≡ false = ap is_meta same ∙ sym c.is_meta.ensures ∙ c.if-is_meta.false in
    list_any_more is_meta xs k Dash within ∙ (λ i. c.loop-k.invariant i || no i)
