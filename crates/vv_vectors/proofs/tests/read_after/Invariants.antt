use Rattle.std.proofs.Common.{◌≡◌, length}
use Rattle.vv_vectors.proofs.tests.read_after.Given as goal

abbrev pub invariant-loop-step : goal.invariant-loop-step
invariant-loop-step l = length l.cells ≡ 12
