use Rattle.vv_vectors.proofs.Places.{length_with_cells, lies_with_cells}
use Rattle.vv_vectors.proofs.laws.cells_stay_as_many.Goals as goal

pub returns : goal.returns
returns c = record { length = λ old zs to lies size. length_with_cells old zs to lies size; lies = λ old zs to p lies size other. lies_with_cells old zs to p lies size other }
