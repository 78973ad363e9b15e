use Rattle.std.proofs.Common.{◌≡◌, ◌≤◌, ◌*◌, ◌^◌}
use Rattle.vv_vlex.proofs.number.scaled.Given as goal

abbrev pub invariant-loop-turn : goal.invariant-loop-turn
invariant-loop-turn l = record { same : l.product ≡ l.number * l.base ^ l.turn; most : l.product ≤ 2147483647 }
