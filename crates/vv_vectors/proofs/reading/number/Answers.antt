use Rattle.std.proofs.Common.{◌≡◌, ◌+◌, ◌<◌, length, ap, arith, get_or}
use Rattle.std.proofs.lemmas.Option.{get_or_from_slice_get}
use Rattle.vv_bits.specs.declared.nine.S9.TheVariants.{Dash}
use Rattle.vv_types.specs.Number.{bit}
use Rattle.vv_types.proofs.Numbers.{number_step, number_fits, front_le}
use Rattle.vv_vectors.specs.Vectors.{vector_at}
use Rattle.vv_vectors.proofs.Places.{length-vector_at}
use Rattle.vv_vectors.proofs.reading.number.Goals as goal

pub overflow_mul-n : goal.overflow_mul-n
overflow_mul-n c =
    let xs = vector_at c.args.cells.now c.args.place in
    let k = c.loop-k.k in
    let size = length-vector_at c.args.cells.now c.args.place (omega (arith, c.requires.lies)) in
    let within : k < length xs = omega (arith, size, c.loop-k-test.true) in
    omega (arith, c.loop-k.invariant, number_step xs k Dash within, front_le xs (k + 1), number_fits xs 128 (omega (arith, size, c.requires.few)))

pub overflow_add-n : goal.overflow_add-n
overflow_add-n c =
    let xs = vector_at c.args.cells.now c.args.place in
    let k = c.loop-k.k in
    let size = length-vector_at c.args.cells.now c.args.place (omega (arith, c.requires.lies)) in
    let within : k < length xs = omega (arith, size, c.loop-k-test.true) in
    let same : bit (get_or xs k Dash) ≡ bit c.bit.result = ap bit (get_or_from_slice_get xs k c.bit.result Dash c.bit.ensures) in
    omega (arith, c.loop-k.invariant, number_step xs k Dash within, front_le xs (k + 1), number_fits xs 128 (omega (arith, size, c.requires.few)), same, c.from.ensures, c.counts.ensures.value)

pub loop-k-preserved : goal.loop-k-preserved
loop-k-preserved c =
    let xs = vector_at c.args.cells.now c.args.place in
    let k = c.loop-k.k in
    let size = length-vector_at c.args.cells.now c.args.place (omega (arith, c.requires.lies)) in
    let within : k < length xs = omega (arith, size, c.loop-k-test.true) in
    let same : bit (get_or xs k Dash) ≡ bit c.bit.result = ap bit (get_or_from_slice_get xs k c.bit.result Dash c.bit.ensures) in
    omega (arith, c.loop-k.invariant, number_step xs k Dash within, same, c.from.ensures, c.counts.ensures.value)
