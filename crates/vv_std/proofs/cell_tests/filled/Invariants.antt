use Rattle.std.proofs.Common.{◌≡◌, length}
use Rattle.vv_std.proofs.cell_tests.filled.Given as goal

abbrev pub invariant-loop-i : goal.invariant-loop-i
invariant-loop-i l = length l.cells ≡ 32

abbrev pub invariant-loop-k : goal.invariant-loop-k
invariant-loop-k l = length l.cells ≡ 32
