use Rattle.std.proofs.Common.{◌≡◌, ◌||◌, length, true, false, ap, subst, sym, ◌∙◌, arith}
use Rattle.vv_types.specs.Number.{has_meta, residue, signed_vector_of}
use Rattle.vv_types.proofs.Numbers.{length-vector_of}
use Rattle.vv_vectors.specs.Vectors.{number_at, vector_at, with_vector}
use Rattle.vv_vectors.proofs.Places.{length-vector_at}
use Rattle.vv_num_arithmetic.specs.Arithmetic.{apply, as_long_as, size_of, value_of}
use Rattle.vv_num_arithmetic.specs.Operands.{HasDigits}
use Rattle.vv_num_arithmetic.proofs.Results.{all_known, all_unknown, left_size, no_meta}
use Rattle.vv_num_arithmetic.proofs.rows.combine_number_with_vector.Goals as goal

pub digits_at-y-requires-clause-few : goal.digits_at-y-requires-clause-few
digits_at-y-requires-clause-few c =
    omega (arith, left_size c.args.operator c.args.b.size c.args.b.size, c.requires.size, c.requires.few)

pub digits_of_number-x-requires-clause-few : goal.digits_of_number-x-requires-clause-few
digits_of_number-x-requires-clause-few c =
    omega (arith, left_size c.args.operator c.args.b.size c.args.b.size, c.requires.size, c.requires.few)

pub put_result-requires-clause-x : goal.put_result-requires-clause-x
put_result-requires-clause-x c =
    omega (arith, c.digits_of_number-x.ensures.size, left_size c.args.operator c.args.b.size c.args.b.size, c.requires.size, c.requires.few)

pub put_result-requires-clause-y : goal.put_result-requires-clause-y
put_result-requires-clause-y c =
    omega (arith, c.digits_at-y.ensures.size, left_size c.args.operator c.args.b.size c.args.b.size, c.requires.size, c.requires.few)

pub returns-then-any_meta-clause-row : goal.returns-then-any_meta-clause-row
returns-then-any_meta-clause-row c =
    let old = c.args.cells.now in
    let operator = c.args.operator in
    let kind = c.args.kind in
    let to = c.args.to in
    let xs = vector_at old c.args.b in
    let z = number_at old c.args.a in
    let ns = as_long_as xs z in
    let lx : length xs ≡ c.args.b.size = length-vector_at old c.args.b (omega (arith, c.requires.b)) in
    let ln : length ns ≡ c.args.b.size = length-vector_of (length xs) (residue (length xs) z) ∙ lx in
    let size : to.size ≡ size_of operator (length ns) (length xs) = c.requires.size ∙ sym (λ i. size_of operator (ln i) (lx i)) in
    let h : has_meta xs ≡ true = sym c.any_meta.ensures ∙ c.if-any_meta.true in
    c.fill.ensures
    ∙ ap (with_vector old to) (all_unknown (has_meta ns || has_meta xs) to.size (size_of operator (length ns) (length xs)) (apply operator (value_of kind ns) (value_of kind xs)) (λ i. no_meta (length xs) z i || h i) size)

pub returns-else-any_meta-clause-row : goal.returns-else-any_meta-clause-row
returns-else-any_meta-clause-row c =
    let old = c.args.cells.now in
    let operator = c.args.operator in
    let kind = c.args.kind in
    let to = c.args.to in
    let xs = vector_at old c.args.b in
    let z = number_at old c.args.a in
    let ns = as_long_as xs z in
    let lx : length xs ≡ c.args.b.size = length-vector_at old c.args.b (omega (arith, c.requires.b)) in
    let ln : length ns ≡ c.args.b.size = length-vector_of (length xs) (residue (length xs) z) ∙ lx in
    let size : to.size ≡ size_of operator (length ns) (length xs) = c.requires.size ∙ sym (λ i. size_of operator (ln i) (lx i)) in
    let h : has_meta xs ≡ false = sym c.any_meta.ensures ∙ c.if-any_meta.false in
    let digits : HasDigits ns c.digits_of_number-x.result
    = subst (λ k. HasDigits (signed_vector_of k z) c.digits_of_number-x.result) (sym lx) c.digits_of_number-x.ensures.digits in
    c.put_result.ensures.row ns xs digits c.digits_at-y.ensures.digits
    ∙ ap (with_vector old to) (all_known (has_meta ns || has_meta xs) to.size (size_of operator (length ns) (length xs)) (apply operator (value_of kind ns) (value_of kind xs)) (λ i. no_meta (length xs) z i || h i) size)
