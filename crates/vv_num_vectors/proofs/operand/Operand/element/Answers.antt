use Rattle.std.proofs.Common.{rules, ◌≡◌, ◌<◌, ap, sym, ◌∙◌, get_or, FitsSigned, w32, of_z, inl, inr, pos}
use Rattle.std.proofs.lemmas.Int.{to_z-of_z}
use Rattle.std.proofs.lemmas.Option.{get_or_from_slice_get}
use Rattle.vv_types.specs.Number.{signed_vector_of}
use Rattle.vv_vectors.specs.Vectors.{number_at, vector_at}
use Rattle.vv_num_vectors.specs.Operands.{elements_of}
use Rattle.vv_num_vectors.proofs.Digits.{number_digit}
use Rattle.vv_num_vectors.proofs.operand.Operand.element.Goals as goal

pub returns-in-Number : goal.returns-in-Number
returns-in-Number c =
    let cells = c.args.cells.now in
    let place = c.in-Number.place in
    let z = c.scalar.result in
    let x = c.digit_of.result in
    let k = c.args.k in
    let fits : FitsSigned w32 z = search rules in
    let unsigned : c.cast_unsigned.result ≡ of_z w32 z = simp to_z-of_z at c.cast_unsigned.ensures in
    let number : number_at cells place ≡ z = ap (λ zs. get_or zs 0 (pos 0)) c.scalar.ensures in
    let within : k < 32 = rw c.in-Number.is at c.requires.within in
    number_digit z c.cast_unsigned.result k x fits unsigned within c.digit_of.ensures
    ∙ ap (λ v. get_or (signed_vector_of 32 v) k x) (sym number)
    ∙ ap (λ y. get_or (elements_of cells y) k x) (sym c.in-Number.is)

pub returns-in-Unsigned : goal.returns-in-Unsigned
returns-in-Unsigned c =
    let cells = c.args.cells.now in
    let x = c.bit.result in
    let k = c.args.k in
    let read : x ≡ get_or (vector_at cells c.in-Unsigned.place) k x = sym (get_or_from_slice_get (vector_at cells c.in-Unsigned.place) k x x c.bit.ensures) in
    elim c.in-Unsigned.is [
      | inl e ↦ read ∙ ap (λ y. get_or (elements_of cells y) k x) (sym e)
      | inr e ↦ read ∙ ap (λ y. get_or (elements_of cells y) k x) (sym e)
    ]
