-- The bits of an array, and of a number.
use Rattle.std.proofs.Common.{rules, ◌≡◌, ◌++◌, length, ap, sym, ◌∙◌, arith, FitsSigned, w32, of_z}
use Rattle.std.proofs.lemmas.Int.{to_z-of_z}
use Rattle.std.proofs.lemmas.Result.{MatchResult-from_err}
use Rattle.vv_types.specs.Codec.{bits_of, int_width}
use Rattle.vv_types.proofs.CodecLaws.{array_bits_by_elements, int_bits_by_digits}
use Rattle.vv_types.proofs.Extended.{extends_through}
use Rattle.vv_types.proofs.codec.Codec.+append_bits.Goals as goal

pub returns-in_err-append_bits-in-Of-Array-clause-err :
    goal.returns-in_err-append_bits-in-Of-Array-clause-err
returns-in_err-append_bits-in-Of-Array-clause-err t c =
    let kept = c.in_err-append_bits-in-Of-Array.ensures.err in
    MatchResult-from_err _ _ _ c.from_residual-in_err-append_bits-in-Of-Array.ensures.0
    (λ _. extends_through _ _ _ c.loop-x.into.items c.loop-x.invariant kept)

pub returns-in_ok-push_digits-in-Int-Int-clause-ok :
    goal.returns-in_ok-push_digits-in-Int-Int-clause-ok
returns-in_ok-push_digits-in-Int-Int-clause-ok t c =
    let low = c.in-Int-Int.low in
    let high = c.in-Int-Int.high in
    let x = c.in-Int-Int.x in
    let low_fits : FitsSigned w32 low = search rules in
    let high_fits : FitsSigned w32 high = search rules in
    let x_fits : FitsSigned w32 x = search rules in
    let width : c.int_width.result ≡ int_width low high = simp to_z-of_z at c.int_width.ensures.value in
    let number : c.cast_unsigned.result ≡ of_z w32 x = simp to_z-of_z at c.cast_unsigned.ensures in
    let digits = int_bits_by_digits low high x c.int_width.result c.cast_unsigned.result c.int_width.ensures.bound x_fits width number in
    c.in_ok-push_digits-in-Int-Int.ensures.ok
    ∙ ap (λ bits. c.args.into.now.items ++ bits) (digits ∙ sym (λ i. bits_of (c.in-Int-Int.is-0 i) (c.in-Int-Int.is-1 i)))

pub returns-after-loop-x-clause-ok : goal.returns-after-loop-x-clause-ok
returns-after-loop-x-clause-ok t c =
    let list = c.as_slice-x-items.result.now in
    let end : c.loop-x.x-index ≡ length list = omega arith in
    let bits = array_bits_by_elements c.in-Of-Array.n-0 c.in-Of-Array.elem c.in-Of-Array.xs list c.loop-x.x-index c.as_slice-x-items.ensures end in
    c.loop-x.invariant
    ∙ ap (λ list. c.args.into.now.items ++ list) (bits ∙ sym (λ i. bits_of (c.in-Of-Array.is-0 i) (c.in-Of-Array.is-1 i)))
