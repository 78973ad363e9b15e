use Rattle.vv_vectors.proofs.Places.{apart_cells, apart_vector}
use Rattle.vv_vectors.proofs.laws.other_places_stay.Goals as goal

pub returns : goal.returns
returns c = record {
  cells = λ old zs p to lies other size apart. apart_cells old zs p to lies other size apart;
  vector = λ old p to xs lies other size apart. apart_vector old p to xs lies other size apart;
}
