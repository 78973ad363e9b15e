use Rattle.std.proofs.Common.{rules, length, ◌≡◌, ◌+◌, ◌-◌, ◌++◌, replicate, ap, sym, ◌∙◌, arith, FitsSigned, w32, of_z, get_or, pos}
use Rattle.std.proofs.lemmas.Int.{to_z-of_z}
use Rattle.std.proofs.lemmas.List.{length-replicate}
use Rattle.vv_types.specs.Number.{signed_vector_of, vector_of}
use Rattle.vv_types.proofs.Numbers.{length-vector_of, vector_of_bits}
use Rattle.vv_num_vectors.proofs.Reading.{length_of_vector_kept}
use Rattle.vv_vectors.specs.Vectors.{number_at, with_vector}
use Rattle.vv_num_vectors.specs.Rows.{leftmost}
use Rattle.vv_num_vectors.proofs.Joined.{joined, long_number}
use Rattle.vv_num_vectors.proofs.conversion.to_vector.Goals as goal

pub returns-then-to-le32-clause-value : goal.returns-then-to-le32-clause-value
returns-then-to-le32-clause-value c =
    let old = c.args.cells.now in
    let to = c.args.to in
    let z = c.scalar.result in
    let fits : FitsSigned w32 z = search rules in
    let unsigned : c.cast_unsigned.result ≡ of_z w32 z = simp to_z-of_z at c.cast_unsigned.ensures in
    let number : number_at old c.args.number ≡ z = ap (λ zs. get_or zs 0 (pos 0)) c.scalar.ensures in
    c.write_number.ensures
    ∙ ap (λ n. with_vector old to (vector_of to.size n)) (c.from-digits.ensures ∙ unsigned)
    ∙ ap (with_vector old to) (vector_of_bits to.size z c.if-to-le32.true fits ∙ ap (signed_vector_of to.size) (sym number))

pub returns-else-to-le32-clause-value : goal.returns-else-to-le32-clause-value
returns-else-to-le32-clause-value c =
    let old = c.args.cells.now in
    let to = c.args.to in
    let z = c.scalar.result in
    let x = c.sign-sign.result in
    let more = to.size - 32 in
    let fits : FitsSigned w32 z = search rules in
    let unsigned : c.cast_unsigned.result ≡ of_z w32 z = simp to_z-of_z at c.cast_unsigned.ensures in
    let number : number_at old c.args.number ≡ z = ap (λ zs. get_or zs 0 (pos 0)) c.scalar.ensures in
    let sign : x ≡ leftmost (signed_vector_of 32 z) = c.sign-sign.ensures.sign ∙ ap (λ v. leftmost (signed_vector_of 32 v)) number in
    let digits : vector_of 32 c.from-digits.result ≡ signed_vector_of 32 z
    = ap (vector_of 32) (c.from-digits.ensures ∙ unsigned) ∙ vector_of_bits 32 z (omega arith) fits in
    c.write_number-else-to-le32.ensures
    ∙ ap (λ cells. with_vector cells (record { first = to.first + more; size = 32 }) (vector_of 32 c.from-digits.result)) c.fill.ensures
    ∙ joined old to (record { first = to.first; size = more }) (record { first = to.first + more; size = 32 }) (replicate more x) (vector_of 32 c.from-digits.result)
    c.requires.to (length-replicate more x) (omega arith) (omega arith) (omega (arith, c.if-to-le32.false))
    ∙ ap (with_vector old to) ((λ i. replicate more (sign i) ++ digits i) ∙ long_number more to.size z fits (omega (arith, c.if-to-le32.false)) ∙ ap (signed_vector_of to.size) (sym number))

pub returns-then-to-le32-clause-length : goal.returns-then-to-le32-clause-length
returns-then-to-le32-clause-length c =
    length_of_vector_kept c.args.cells.now c.write_number.new.cells c.args.to (vector_of c.args.to.size c.from-digits.result) c.write_number.ensures c.requires.to
    (length-vector_of c.args.to.size c.from-digits.result)

pub returns-else-to-le32-clause-length : goal.returns-else-to-le32-clause-length
returns-else-to-le32-clause-length c =
    let old = c.args.cells.now in
    let to = c.args.to in
    let more = to.size - 32 in
    let first : length c.fill.new.cells ≡ length old
    = length_of_vector_kept old c.fill.new.cells (record { first = to.first; size = more }) (replicate more c.sign-sign.result) c.fill.ensures (omega (arith, c.requires.to))
    (length-replicate more c.sign-sign.result) in
    length_of_vector_kept c.fill.new.cells c.write_number-else-to-le32.new.cells (record { first = to.first + more; size = 32 }) (vector_of 32 c.from-digits.result)
    c.write_number-else-to-le32.ensures (omega (arith, first, c.requires.to, c.if-to-le32.false)) (length-vector_of 32 c.from-digits.result)
    ∙ first
