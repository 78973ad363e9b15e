use Rattle.std.proofs.Common.{◌||◌, length, pos, ◌-ℤ◌}
use Rattle.std.specs.Prelude.{unsigned_abs}
use Rattle.vv_types.specs.Number.{has_meta, signed_number_of}
use Rattle.vv_num_arithmetic.specs.Arithmetic.{apply, size_of, value_of}
use Rattle.vv_num_arithmetic.proofs.Results.{length_of_result}
use Rattle.vv_num_arithmetic.proofs.laws.rows_have_their_lengths.Goals as goal

pub returns : goal.returns
returns c = record {
  arithmetic = λ operator kind a b.
      length_of_result (has_meta a || has_meta b) (size_of operator (length a) (length b)) (apply operator (value_of kind a) (value_of kind b));
  absolute = λ a. length_of_result (has_meta a) (length a) (pos (unsigned_abs (signed_number_of a)));
  negate = λ a. length_of_result (has_meta a) (length a) (pos 0 -ℤ signed_number_of a);
}
