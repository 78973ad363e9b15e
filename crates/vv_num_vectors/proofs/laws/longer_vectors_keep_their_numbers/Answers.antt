use Rattle.vv_num_vectors.proofs.Resized.{signed_kept, unsigned_kept}
use Rattle.vv_num_vectors.proofs.laws.longer_vectors_keep_their_numbers.Goals as goal

pub returns : goal.returns
returns c = record { unsigned = unsigned_kept; signed = signed_kept }
