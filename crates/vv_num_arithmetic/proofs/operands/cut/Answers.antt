use Rattle.std.proofs.Common.{◌≡◌, ◌%◌, ap, sym, ◌∙◌, arith, of_z, w32}
use Rattle.std.specs.Int.{w128}
use Rattle.std.proofs.lemmas.Int.{to_z-of_z}
use Rattle.vv_types.specs.Number.{residue}
use Rattle.vv_num_arithmetic.proofs.Residues.{residue_mod, residue_of_bits, one_shifted}
use Rattle.vv_num_arithmetic.proofs.operands.cut.Goals as goal

pub returns-then-size-lt128 : goal.returns-then-size-lt128
returns-then-size-lt128 c =
    let z = c.args.z in
    let from : c.from.result ≡ z = c.from.ensures ∙ to_z-of_z w32 z c.ranges.z in
    let digits : c.cast_unsigned-digits.result ≡ residue 128 z
    = c.cast_unsigned-digits.ensures
    ∙ ap (of_z w128) (to_z-of_z w128 c.from.result (record { sfits = c.from.type_inv }) ∙ from)
    ∙ sym (residue_of_bits z c.ranges.z) in
    (λ i. digits i % one_shifted c.args.size c.if-size-lt128.true i) ∙ residue_mod c.args.size 128 z c.requires

pub returns-else-size-lt128 : goal.returns-else-size-lt128
returns-else-size-lt128 c =
    let z = c.args.z in
    let from : c.from.result ≡ z = c.from.ensures ∙ to_z-of_z w32 z c.ranges.z in
    let digits : c.cast_unsigned-digits.result ≡ residue 128 z
    = c.cast_unsigned-digits.ensures
    ∙ ap (of_z w128) (to_z-of_z w128 c.from.result (record { sfits = c.from.type_inv }) ∙ from)
    ∙ sym (residue_of_bits z c.ranges.z) in
    let all : 128 ≡ c.args.size = omega (arith, c.requires, c.if-size-lt128.false) in
    digits ∙ ap (λ k. residue k z) all
