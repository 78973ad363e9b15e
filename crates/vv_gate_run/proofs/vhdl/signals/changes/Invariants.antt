use Rattle.std.proofs.Common.{◌≡◌, ◌++◌, drop, length}
use Rattle.vv_cycle.specs.Turns.{changes}
use Rattle.vv_gate_run.proofs.vhdl.signals.changes.Given as goal

abbrev pub invariant-loop-before : goal.invariant-loop-before
invariant-loop-before l =
    l.events.items ++ changes (drop (length l.yielded) l.old) (drop (length l.yielded) l.new) ≡ changes l.old l.new
