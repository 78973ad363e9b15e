use Rattle.vv_types.proofs.Numbers.{length-vector_of, number_of_vector, vector_mod, vector_of_number}
use Rattle.vv_types.proofs.Signed.{residue_of_vector}
use Rattle.vv_types.proofs.Widths.{held_read}
use Rattle.vv_types.proofs.laws.vectors_and_numbers.Goals as goal

pub returns : goal.returns
returns c = record {
  length = length-vector_of;
  number = number_of_vector;
  cut = λ k n w le. vector_mod k n w le;
  vector = vector_of_number;
  signed_number = held_read;
  signed_vector = residue_of_vector;
}
