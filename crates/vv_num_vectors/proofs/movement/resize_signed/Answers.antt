use Rattle.std.proofs.Common.{◌≡◌, min, ◌-◌, length, ap, ◌∙◌, arith, replicate, take, drop, ◌++◌}
use Rattle.vv_vectors.specs.Vectors.{vector_at, with_vector}
use Rattle.vv_vectors.proofs.Places.{length-vector_at}
use Rattle.vv_num_vectors.proofs.Moved.{signed_size}
use Rattle.vv_num_vectors.proofs.movement.resize_signed.Goals as goal

pub returns-clause-value : goal.returns-clause-value
returns-clause-value c =
    let old = c.args.cells.now in
    let xs = vector_at old c.args.a in
    let count = c.args.a.size in
    let n = c.args.to.size in
    let kept = c.min-kept.result in
    let size : length xs ≡ count = length-vector_at old c.args.a (omega (arith, c.requires.a)) in
    let is : kept ≡ min (count - 1) (n - 1) = omega (arith, c.min-kept.ensures, c.saturating_sub.ensures, c.saturating_sub-2.ensures) in
    c.put_parts.ensures.value
    ∙ ap (λ x. with_vector old c.args.to (replicate (n - kept) x ++ take (n - (n - kept)) (drop (count - kept) xs))) c.first_element-sign.ensures
    ∙ ap (with_vector old c.args.to) (signed_size xs count n kept size is)
