use Rattle.std.proofs.Common.{rules, ◌≡◌, ◌-◌, ◌*◌, ◌^◌, ◌++◌, pos, ◌-ℤ◌, replicate, ap, sym, arith, subst, FitsSigned, w32, get_or}
use Rattle.vv_types.specs.Number.{bit, number_of, signed_vector_of}
use Rattle.vv_vectors.specs.Vectors.{number_at, vector_at, LiesIn}
use Rattle.vv_vectors.proofs.Places.{length-vector_at}
use Rattle.vv_num_vectors.specs.Rows.{leftmost}
use Rattle.vv_num_vectors.specs.Operands.{IsIn, IsWorth}
use Rattle.vv_num_vectors.proofs.Digits.{number_worth, signed_worth, unsigned_worth}
use Rattle.vv_num_vectors.proofs.operand.Operand.sign.Goals as goal

pub returns-in-Unsigned-clause-worth : goal.returns-in-Unsigned-clause-worth
returns-in-Unsigned-clause-worth c =
    let cells = c.args.cells.now in
    let place = c.in-Unsigned.field-0 in
    subst (λ x. IsWorth cells x) (sym c.in-Unsigned.is) (λ n h. unsigned_worth (vector_at cells place) place.size n)

pub returns-then-place-eq0-clause-worth : goal.returns-then-place-eq0-clause-worth
returns-then-place-eq0-clause-worth c =
    let cells = c.args.cells.now in
    let place = c.in-Signed.place in
    let lies : LiesIn cells place = subst (λ x. IsIn cells x) c.in-Signed.is c.requires in
    subst (λ x. IsWorth cells x) (sym c.in-Signed.is)
    (λ n h. signed_worth (vector_at cells place) place.size n (length-vector_at cells place (omega (arith, lies))) h)

pub returns-else-place-eq0-clause-worth : goal.returns-else-place-eq0-clause-worth
returns-else-place-eq0-clause-worth c =
    let cells = c.args.cells.now in
    let place = c.in-Signed.place in
    let lies : LiesIn cells place = subst (λ x. IsIn cells x) c.in-Signed.is c.requires in
    subst (λ x. IsWorth cells x) (sym c.in-Signed.is)
    (λ n h. signed_worth (vector_at cells place) place.size n (length-vector_at cells place (omega (arith, lies))) h)

pub returns-in-Number-clause-worth : goal.returns-in-Number-clause-worth
returns-in-Number-clause-worth c =
    let cells = c.args.cells.now in
    let place = c.in-Number.place in
    let z = c.scalar.result in
    let fits : FitsSigned w32 z = search rules in
    let number : number_at cells place ≡ z = ap (λ zs. get_or zs 0 (pos 0)) c.scalar.ensures in
    let worth = number_worth z in
    subst (λ x. IsWorth cells x) (sym c.in-Number.is)
    (λ n h. subst (λ v. v ≡ pos (number_of (replicate (n - 32) (leftmost (signed_vector_of 32 v)) ++ signed_vector_of 32 v)) -ℤ pos (bit (leftmost (signed_vector_of 32 v)) * 2 ^ n)) (sym number) (number_worth z n fits h))
