use Rattle.std.proofs.Common.{◌≡◌, length, pos, ◌-ℤ◌, refl, ap, sym, ◌∙◌, arith}
use Rattle.vv_types.specs.Number.{has_meta, residue, signed_number_of, vector_of}
use Rattle.vv_vectors.specs.Vectors.{vector_at, with_vector}
use Rattle.vv_vectors.proofs.Places.{length-vector_at}
use Rattle.vv_num_arithmetic.proofs.Results.{all_known, all_unknown, length_kept}
use Rattle.vv_num_arithmetic.proofs.Residues.{vector_residue}
use Rattle.vv_num_arithmetic.proofs.rows.negate.Goals as goal

pub returns-then-any_meta-clause-row : goal.returns-then-any_meta-clause-row
returns-then-any_meta-clause-row c =
    let old = c.args.cells.now in
    let to = c.args.to in
    let xs = vector_at old c.args.a in
    let v = signed_number_of xs in
    let lx : length xs ≡ c.args.a.size = length-vector_at old c.args.a (omega (arith, c.requires.a)) in
    c.fill.ensures
    ∙ ap (with_vector old to)
    (all_unknown (has_meta xs) to.size (length xs) (pos 0 -ℤ v) (sym c.any_meta.ensures ∙ c.if-any_meta.true) (c.requires.size ∙ sym lx))

pub returns-else-any_meta-clause-row : goal.returns-else-any_meta-clause-row
returns-else-any_meta-clause-row c =
    let old = c.args.cells.now in
    let to = c.args.to in
    let xs = vector_at old c.args.a in
    let v = signed_number_of xs in
    let lx : length xs ≡ c.args.a.size = length-vector_at old c.args.a (omega (arith, c.requires.a)) in
    let read : c.sign_extended-x.result ≡ residue 128 v = c.sign_extended-x.ensures xs lx (sym c.number.ensures) in
    let is : c.combined.result ≡ residue 128 (pos 0 -ℤ v) = c.combined.ensures (pos 0) v refl read in
    c.write_number.ensures
    ∙ ap (with_vector old to)
    (ap (vector_of to.size) is ∙ vector_residue to.size 128 (pos 0 -ℤ v) c.requires.few
    ∙ all_known (has_meta xs) to.size (length xs) (pos 0 -ℤ v) (sym c.any_meta.ensures ∙ c.if-any_meta.false) (c.requires.size ∙ sym lx))

pub returns-else-any_meta-clause-length : goal.returns-else-any_meta-clause-length
returns-else-any_meta-clause-length c = length_kept c.args.cells.now c.write_number.new.cells c.args.to c.combined.result c.requires.to c.write_number.ensures
