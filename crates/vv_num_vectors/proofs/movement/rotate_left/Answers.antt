use Rattle.std.proofs.Common.{◌≡◌, take, drop, map, unsigned_abs, ap, sym, ◌∙◌, arith}
use Rattle.vv_vectors.specs.Vectors.{bit_of, number_at, with_vector}
use Rattle.vv_num_vectors.specs.Rows.{rotated_left}
use Rattle.vv_num_vectors.proofs.Turned.{left_none, nothing_put}
use Rattle.vv_num_vectors.proofs.movement.rotate_left.Goals as goal

pub returns-else-a-ne0-clause-value : goal.returns-else-a-ne0-clause-value
returns-else-a-ne0-clause-value c =
    let old = c.args.cells.now in
    let a = c.args.a in
    let to = c.args.to in
    let count = unsigned_abs (number_at old c.args.count) in
    let none : a.size ≡ 0 = omega (arith, c.if-a-ne0.false) in
    let empty : to.size ≡ 0 = omega (arith, none, c.requires.size) in
    nothing_put old to empty
    ∙ ap (with_vector old to) (sym (ap (λ n. rotated_left (map bit_of (take n (drop a.first old))) count) none ∙ left_none count))
