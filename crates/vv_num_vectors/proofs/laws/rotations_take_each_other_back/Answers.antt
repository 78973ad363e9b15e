use Rattle.vv_num_vectors.proofs.Resized.{rotated_back}
use Rattle.vv_num_vectors.proofs.laws.rotations_take_each_other_back.Goals as goal

pub returns : goal.returns
returns c = rotated_back
