use Rattle.std.proofs.Common.{◌≡◌, pos, get_or, ap, sym, ◌∙◌, arith, w32}
use Rattle.std.proofs.lemmas.Int.{to_z-of_z}
use Rattle.vv_types.specs.Number.{residue}
use Rattle.vv_types.proofs.Numbers.{length-vector_of, number_of_vector}
use Rattle.vv_vectors.specs.Vectors.{number_at}
use Rattle.vv_num_arithmetic.proofs.Residues.{residue_mod}
use Rattle.vv_num_arithmetic.proofs.rows.digits_of_number.Goals as goal

pub returns-clause-digits : goal.returns-clause-digits
returns-clause-digits c =
    let cells = c.args.cells.now in
    let place = c.args.place in
    let size = c.args.size in
    let z = number_at cells place in
    let read : c.scalar.result ≡ z
    = sym (ap (λ ys. get_or ys 0 (pos 0)) c.scalar.ensures) in
    let cut : c.cut.result ≡ residue size z
    = c.cut.ensures ∙ ap (residue size) (to_z-of_z w32 c.scalar.result (record { sfits = c.scalar.type_inv }) ∙ read) in
    (length-vector_of size (residue size z), number_of_vector size (residue size z) ∙ residue_mod size size z (omega arith) ∙ sym cut)
