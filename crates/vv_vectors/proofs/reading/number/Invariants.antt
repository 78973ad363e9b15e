use Rattle.std.proofs.Common.{◌≡◌, take}
use Rattle.vv_types.specs.Number.{number_of}
use Rattle.vv_vectors.specs.Vectors.{vector_at}
use Rattle.vv_vectors.proofs.reading.number.Given as goal

abbrev pub invariant-loop-k : goal.invariant-loop-k
invariant-loop-k l = l.n ≡ number_of (take l.k (vector_at l.cells l.place))
