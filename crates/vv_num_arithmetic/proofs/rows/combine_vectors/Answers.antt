use Rattle.std.proofs.Common.{◌≡◌, ◌||◌, length, ap, sym, ◌∙◌, arith}
use Rattle.vv_types.specs.Number.{has_meta}
use Rattle.vv_vectors.specs.Vectors.{vector_at, with_vector}
use Rattle.vv_vectors.proofs.Places.{length-vector_at}
use Rattle.vv_num_arithmetic.specs.Arithmetic.{apply, size_of, value_of}
use Rattle.vv_num_arithmetic.proofs.Results.{all_known, all_unknown, left_size, right_size}
use Rattle.vv_num_arithmetic.proofs.rows.combine_vectors.Goals as goal

pub digits_at-x-requires-clause-few : goal.digits_at-x-requires-clause-few
digits_at-x-requires-clause-few c =
    omega (arith, left_size c.args.operator c.args.a.size c.args.b.size, c.requires.size, c.requires.few)

pub digits_at-y-requires-clause-few : goal.digits_at-y-requires-clause-few
digits_at-y-requires-clause-few c =
    omega (arith, right_size c.args.operator c.args.a.size c.args.b.size, c.requires.size, c.requires.few)

pub put_result-requires-clause-x : goal.put_result-requires-clause-x
put_result-requires-clause-x c =
    omega (arith, c.digits_at-x.ensures.size, left_size c.args.operator c.args.a.size c.args.b.size, c.requires.size, c.requires.few)

pub put_result-requires-clause-y : goal.put_result-requires-clause-y
put_result-requires-clause-y c =
    omega (arith, c.digits_at-y.ensures.size, right_size c.args.operator c.args.a.size c.args.b.size, c.requires.size, c.requires.few)

pub returns-then-either_meta-clause-row : goal.returns-then-either_meta-clause-row
returns-then-either_meta-clause-row c =
    let old = c.args.cells.now in
    let operator = c.args.operator in
    let xs = vector_at old c.args.a in
    let ys = vector_at old c.args.b in
    let lx : length xs ≡ c.args.a.size = length-vector_at old c.args.a (omega (arith, c.requires.a)) in
    let ly : length ys ≡ c.args.b.size = length-vector_at old c.args.b (omega (arith, c.requires.b)) in
    let size : c.args.to.size ≡ size_of operator (length xs) (length ys) = c.requires.size ∙ sym (λ i. size_of operator (lx i) (ly i)) in
    c.fill.ensures
    ∙ ap (with_vector old c.args.to)
    (all_unknown (has_meta xs || has_meta ys) c.args.to.size (size_of operator (length xs) (length ys)) (apply operator (value_of c.args.kind xs) (value_of c.args.kind ys))
    (sym c.either_meta.ensures ∙ c.if-either_meta.true) size)

pub returns-else-either_meta-clause-row : goal.returns-else-either_meta-clause-row
returns-else-either_meta-clause-row c =
    let old = c.args.cells.now in
    let operator = c.args.operator in
    let xs = vector_at old c.args.a in
    let ys = vector_at old c.args.b in
    let lx : length xs ≡ c.args.a.size = length-vector_at old c.args.a (omega (arith, c.requires.a)) in
    let ly : length ys ≡ c.args.b.size = length-vector_at old c.args.b (omega (arith, c.requires.b)) in
    let size : c.args.to.size ≡ size_of operator (length xs) (length ys) = c.requires.size ∙ sym (λ i. size_of operator (lx i) (ly i)) in
    c.put_result.ensures.row xs ys c.digits_at-x.ensures.digits c.digits_at-y.ensures.digits
    ∙ ap (with_vector old c.args.to)
    (all_known (has_meta xs || has_meta ys) c.args.to.size (size_of operator (length xs) (length ys)) (apply operator (value_of c.args.kind xs) (value_of c.args.kind ys))
    (sym c.either_meta.ensures ∙ c.if-either_meta.false) size)
