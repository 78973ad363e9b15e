use Rattle.std.proofs.Common.{arith, ◌∙◌}
use Rattle.vv_types.specs.Number.{residue}
use Rattle.vv_types.proofs.Numbers.{number_of_vector}
use Rattle.vv_types.proofs.Widths.{held_read}
use Rattle.vv_num_arithmetic.proofs.Residues.{residue_mod}
use Rattle.vv_num_arithmetic.proofs.laws.results_have_their_numbers.Goals as goal

pub returns : goal.returns
returns c = record {
  modulo = λ size z. number_of_vector size (residue size z) ∙ residue_mod size size z (omega arith);
  signed = λ size z held. held_read size z held;
}
