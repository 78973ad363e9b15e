use Rattle.std.proofs.Common.{◌≡◌}
use Rattle.vv_vectors.specs.Vectors.{cells_at}
use Rattle.vv_vectors.proofs.Written.{written}
use Rattle.vv_vectors.proofs.writing.copy.Given as goal

abbrev pub invariant-loop-k : goal.invariant-loop-k
invariant-loop-k l = l.cells ≡ written l.initial.cells l.to.first (cells_at l.initial.cells l.from) l.k
