use Rattle.std.proofs.Common.{arith}
use Rattle.vv_vectors.proofs.Places.{cells_written, vector_written}
use Rattle.vv_vectors.proofs.laws.place_holds_what_was_written.Goals as goal

pub returns : goal.returns
returns c = record { cells = λ old zs to lies size. cells_written old zs to (omega (arith, lies)) size; vector = λ old to xs lies size. vector_written old to xs lies size }
