use Rattle.std.proofs.Common.{◌≡◌, drop}
use Rattle.vv_cycle.specs.Turns.{any_true}
use Rattle.vv_gate_run.proofs.vhdl.signals.any_true.Given as goal

abbrev pub invariant-loop-flag : goal.invariant-loop-flag
invariant-loop-flag l =
    any_true (drop l.flag-index l.flags) ≡ any_true l.flags
