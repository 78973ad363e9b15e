use Rattle.std.proofs.Common.{◌≡◌, ◌-◌, ◌++◌, min, length, take, drop, replicate, unsigned_abs, ap, sym, ◌∙◌, arith}
use Rattle.vv_bits.specs.declared.nine.S9.TheVariants.{Zero}
use Rattle.vv_vectors.specs.Vectors.{vector_at, with_vector}
use Rattle.vv_vectors.proofs.Places.{length-vector_at}
use Rattle.vv_num_vectors.specs.Rows.{shifted_left}
use Rattle.vv_num_vectors.proofs.Moved.{left_shift}
use Rattle.vv_num_vectors.proofs.movement.shift_left.Goals as goal

pub returns-clause-value : goal.returns-clause-value
returns-clause-value c =
    let old = c.args.cells.now in
    let to = c.args.to in
    let n = c.args.a.size in
    let k = c.min-count.result in
    let xs = vector_at old c.args.a in
    let size : length xs ≡ n = length-vector_at old c.args.a (omega (arith, c.requires.a)) in
    let least : k ≡ min c.count_in.result n = omega (arith, c.min-count.ensures) in
    c.put_parts.ensures.value
    ∙ (λ i. with_vector old to (take (n - k) (drop k xs) ++ replicate (sym c.requires.size i - (n - k)) Zero))
    ∙ ap (with_vector old to) (left_shift xs n c.count_in.result k size least ∙ ap (λ z. shifted_left xs (unsigned_abs z)) c.count_in.ensures)
