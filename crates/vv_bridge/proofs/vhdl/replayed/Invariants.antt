use Rattle.std.proofs.Common.{◌≤◌}
use Rattle.vv_bridge.proofs.vhdl.replayed.Given as goal

-- the count of faults did not fall
abbrev pub invariant-loop-row : goal.invariant-loop-row
invariant-loop-row g l = g.O.Sink.faults l.fn.out ≤ g.O.Sink.faults l.out
