use Rattle.std.proofs.Common.{ℕ, ◌<◌, MatchOption}
use Rattle.vv_gate_run.specs.Order.{IsSet, IsUnset}
use Rattle.vv_gate_run.proofs.order.last_set.Given as goal

abbrev pub invariant-loop-place : goal.invariant-loop-place
invariant-loop-place l =
    MatchOption l.last ((k : ℕ) → k < l.place → IsUnset l.flags k) (λ i. IsSet l.flags i × ((k : ℕ) → i < k → k < l.place → IsUnset l.flags k))
