use Rattle.std.proofs.Common.{ℕ, ◌<◌}
use Rattle.vv_gate_run.specs.Order.{IsUnset}
use Rattle.vv_gate_run.proofs.order.first_set.Given as goal

abbrev pub invariant-loop-place : goal.invariant-loop-place
invariant-loop-place l =
    (k : ℕ) → k < l.place → IsUnset l.flags k
