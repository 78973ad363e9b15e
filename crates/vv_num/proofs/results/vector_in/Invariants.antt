use Rattle.std.proofs.Common.{◌≡◌, map, take}
use Rattle.vv_vectors.specs.Vectors.{vector_at}
use Rattle.vv_num.specs.Values.{logic}
use Rattle.vv_num.proofs.results.vector_in.Given as goal

abbrev pub invariant-loop-k : goal.invariant-loop-k
invariant-loop-k l = l.elements ≡ map logic (take l.k (vector_at l.cells l.place))
