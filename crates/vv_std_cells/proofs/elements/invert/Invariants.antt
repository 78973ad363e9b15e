use Rattle.std.proofs.Common.{◌≡◌, map}
use Rattle.vv_vectors.specs.Vectors.{cell_of, vector_at}
use Rattle.vv_vectors.proofs.Written.{written}
use Rattle.vv_bits.specs.Nine.{not_rule}
use Rattle.vv_std_cells.proofs.elements.invert.Given as goal

abbrev pub invariant-loop-k : goal.invariant-loop-k
invariant-loop-k l = l.cells ≡ written l.initial.cells l.to.first (map cell_of (map not_rule (vector_at l.initial.cells l.a))) l.k
