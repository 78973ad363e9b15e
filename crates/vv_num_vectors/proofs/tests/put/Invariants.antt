use Rattle.std.proofs.Common.{◌≡◌, length}
use Rattle.vv_num_vectors.proofs.tests.put.Given as goal

abbrev pub invariant-loop-k : goal.invariant-loop-k
invariant-loop-k l = length l.cells ≡ length l.initial.cells
