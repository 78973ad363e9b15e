use Rattle.std.proofs.Common.{◌≡◌, false, take}
use Rattle.vv_types.specs.Number.{has_meta}
use Rattle.vv_vectors.specs.Vectors.{vector_at}
use Rattle.vv_vectors.proofs.reading.any_meta.Given as goal

abbrev pub invariant-loop-k : goal.invariant-loop-k
invariant-loop-k l = has_meta (take l.k (vector_at l.cells l.place)) ≡ false
