use Rattle.std.proofs.Common.{◌≡◌, map}
use Rattle.vv_vectors.specs.Vectors.{cell_of, vector_at}
use Rattle.vv_vectors.proofs.Written.{written}
use Rattle.vv_num_vectors.specs.Parts.{made_of}
use Rattle.vv_num_vectors.proofs.movement.put_parts.Given as goal

abbrev pub invariant-loop-k : goal.invariant-loop-k
invariant-loop-k l = l.cells ≡ written l.initial.cells l.to.first (map cell_of (made_of (vector_at l.initial.cells l.a) l.parts l.to.size)) l.k
