use Rattle.std.proofs.Common.{◌≡◌, ap, ◌∙◌}
use Rattle.vv_types.specs.Number.{residue, vector_of}
use Rattle.vv_vectors.specs.Vectors.{with_vector}
use Rattle.vv_num_arithmetic.specs.Arithmetic.{apply, value_of}
use Rattle.vv_num_arithmetic.proofs.Residues.{vector_residue}
use Rattle.vv_num_arithmetic.proofs.Results.{length_kept}
use Rattle.vv_num_arithmetic.proofs.rows.put_result.Goals as goal

pub returns-clause-row : goal.returns-clause-row
returns-clause-row c = λ xs ys hx hy.
    let kind = c.args.kind in
    let size = c.args.to.size in
    let z = apply c.args.operator (value_of kind xs) (value_of kind ys) in
    let is : c.combined.result ≡ residue 128 z
    = c.combined.ensures (value_of kind xs) (value_of kind ys) (c.extended-v.ensures xs hx.0 hx.1) (c.extended-w.ensures ys hy.0 hy.1) in
    c.write_number.ensures
    ∙ ap (with_vector c.args.cells.now c.args.to) (ap (vector_of size) is ∙ vector_residue size 128 z c.requires.few)

pub returns-clause-length : goal.returns-clause-length
returns-clause-length c = length_kept c.args.cells.now c.write_number.new.cells c.args.to c.combined.result c.requires.to c.write_number.ensures
