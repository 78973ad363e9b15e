use Rattle.std.proofs.Common.{◌≡◌, map, replicate}
use Rattle.vv_vectors.specs.Vectors.{cell_of}
use Rattle.vv_vectors.proofs.Written.{written}
use Rattle.vv_vectors.proofs.writing.fill.Given as goal

abbrev pub invariant-loop-k : goal.invariant-loop-k
invariant-loop-k l = l.cells ≡ written l.initial.cells l.to.first (map cell_of (replicate l.to.size l.value)) l.k
