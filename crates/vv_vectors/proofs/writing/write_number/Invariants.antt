use Rattle.std.proofs.Common.{◌≡◌, map}
use Rattle.vv_types.specs.Number.{vector_of}
use Rattle.vv_vectors.specs.Vectors.{cell_of}
use Rattle.vv_vectors.proofs.Written.{written}
use Rattle.vv_vectors.proofs.writing.write_number.Given as goal

abbrev pub invariant-loop-k : goal.invariant-loop-k
invariant-loop-k l = l.cells ≡ written l.initial.cells l.to.first (map cell_of (vector_of l.to.size l.n)) l.k
