use Rattle.std.proofs.Common.{◌≡◌, ◌||◌, length, true, false, ap, subst, sym, ◌∙◌, arith}
use Rattle.vv_types.specs.Number.{has_meta, residue, signed_vector_of}
use Rattle.vv_types.proofs.Numbers.{length-vector_of}
use Rattle.vv_vectors.specs.Vectors.{number_at, vector_at, with_vector}
use Rattle.vv_vectors.proofs.Places.{length-vector_at}
use Rattle.vv_num_arithmetic.specs.Arithmetic.{apply, as_long_as, size_of, value_of}
use Rattle.vv_num_arithmetic.specs.Operands.{HasDigits}
use Rattle.vv_num_arithmetic.proofs.Results.{all_known, all_unknown, left_size, no_meta}
use Rattle.vv_num_arithmetic.proofs.rows.combine_vector_with_number.Goals as goal

pub digits_at-x-requires-clause-few : goal.digits_at-x-requires-clause-few
digits_at-x-requires-clause-few c =
    omega (arith, left_size c.args.operator c.args.a.size c.args.a.size, c.requires.size, c.requires.few)

pub digits_of_number-y-requires-clause-few : goal.digits_of_number-y-requires-clause-few
digits_of_number-y-requires-clause-few c =
    omega (arith, left_size c.args.operator c.args.a.size c.args.a.size, c.requires.size, c.requires.few)

pub put_result-requires-clause-x : goal.put_result-requires-clause-x
put_result-requires-clause-x c =
    omega (arith, c.digits_at-x.ensures.size, left_size c.args.operator c.args.a.size c.args.a.size, c.requires.size, c.requires.few)

pub put_result-requires-clause-y : goal.put_result-requires-clause-y
put_result-requires-clause-y c =
    omega (arith, c.digits_of_number-y.ensures.size, left_size c.args.operator c.args.a.size c.args.a.size, c.requires.size, c.requires.few)

pub returns-then-any_meta-clause-row : goal.returns-then-any_meta-clause-row
returns-then-any_meta-clause-row c =
    let old = c.args.cells.now in
    let operator = c.args.operator in
    let kind = c.args.kind in
    let to = c.args.to in
    let xs = vector_at old c.args.a in
    let z = number_at old c.args.b in
    let ns = as_long_as xs z in
    let lx : length xs ≡ c.args.a.size = length-vector_at old c.args.a (omega (arith, c.requires.a)) in
    let ln : length ns ≡ c.args.a.size = length-vector_of (length xs) (residue (length xs) z) ∙ lx in
    let size : to.size ≡ size_of operator (length xs) (length ns) = c.requires.size ∙ sym (λ i. size_of operator (lx i) (ln i)) in
    let h : has_meta xs ≡ true = sym c.any_meta.ensures ∙ c.if-any_meta.true in
    c.fill.ensures
    ∙ ap (with_vector old to) (all_unknown (has_meta xs || has_meta ns) to.size (size_of operator (length xs) (length ns)) (apply operator (value_of kind xs) (value_of kind ns)) (λ i. h i || has_meta ns) size)

pub returns-else-any_meta-clause-row : goal.returns-else-any_meta-clause-row
returns-else-any_meta-clause-row c =
    let old = c.args.cells.now in
    let operator = c.args.operator in
    let kind = c.args.kind in
    let to = c.args.to in
    let xs = vector_at old c.args.a in
    let z = number_at old c.args.b in
    let ns = as_long_as xs z in
    let lx : length xs ≡ c.args.a.size = length-vector_at old c.args.a (omega (arith, c.requires.a)) in
    let ln : length ns ≡ c.args.a.size = length-vector_of (length xs) (residue (length xs) z) ∙ lx in
    let size : to.size ≡ size_of operator (length xs) (length ns) = c.requires.size ∙ sym (λ i. size_of operator (lx i) (ln i)) in
    let h : has_meta xs ≡ false = sym c.any_meta.ensures ∙ c.if-any_meta.false in
    let digits : HasDigits ns c.digits_of_number-y.result
    = subst (λ k. HasDigits (signed_vector_of k z) c.digits_of_number-y.result) (sym lx) c.digits_of_number-y.ensures.digits in
    c.put_result.ensures.row xs ns c.digits_at-x.ensures.digits digits
    ∙ ap (with_vector old to) (all_known (has_meta xs || has_meta ns) to.size (size_of operator (length xs) (length ns)) (apply operator (value_of kind xs) (value_of kind ns)) (λ i. h i || no_meta (length xs) z i) size)
