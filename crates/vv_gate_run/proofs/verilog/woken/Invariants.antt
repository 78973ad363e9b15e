use Rattle.std.proofs.Common.{◌≡◌, ◌++◌, drop}
use Rattle.vv_events.specs.Steps as steps
use Rattle.vv_events.specs.Steps.{Act}
use Rattle.vv_bits.specs.declared.four.V4.{V4}
use Rattle.vv_gate_verilog.specs.Events as events
use Rattle.vv_gate_run.specs.Flat.{flat_of}
use Rattle.vv_gate_run.proofs.verilog.woken.Given as goal

abbrev pub invariant-loop-item : goal.invariant-loop-item
invariant-loop-item l =
    (old new : V4) → l.flags.items ++ steps.woken (drop l.item (events.events_of (flat_of l.flat))) l.object old new (drop l.item l.active) ≡ steps.woken (events.events_of (flat_of l.flat)) l.object old new l.active
