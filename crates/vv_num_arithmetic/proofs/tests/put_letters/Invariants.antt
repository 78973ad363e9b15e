use Rattle.std.proofs.Common.{◌≡◌, length}
use Rattle.vv_num_arithmetic.proofs.tests.put_letters.Given as goal

abbrev pub invariant-loop-k : goal.invariant-loop-k
invariant-loop-k l = length l.cells ≡ 80
