use Rattle.std.proofs.Common.{◌≡◌, map, drop}
use Rattle.vv_events.specs.Equations as equations
use Rattle.vv_gate_verilog.specs.Events as events
use Rattle.vv_gate_run.specs.Flat.{item_of, flat_of}
use Rattle.vv_gate_run.proofs.verilog.is_driven.Given as goal

abbrev pub invariant-loop-item : goal.invariant-loop-item
invariant-loop-item l =
    equations.is_wire (events.events_in (map item_of (drop l.item-index l.flat.items.items))) l.object ≡ equations.is_wire (events.events_of (flat_of l.flat)) l.object
