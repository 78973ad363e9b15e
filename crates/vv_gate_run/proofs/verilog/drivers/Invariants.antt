use Rattle.std.proofs.Common.{◌≡◌, ◌++◌, map, drop, length, [], ◌∷◌}
use Rattle.vv_events.specs.Steps as steps
use Rattle.vv_events.specs.Steps.{Act}
use Rattle.vv_bits.specs.declared.four.V4.{V4}
use Rattle.vv_gate_verilog.specs.Events as events
use Rattle.vv_gate_run.specs.Flat.{item_of, flat_of}
use Rattle.vv_gate_run.proofs.verilog.drivers.Given as goal

abbrev pub invariant-loop-item : goal.invariant-loop-item
invariant-loop-item l =
    l.drivers.items ++ steps.drivers_of (events.events_in (map item_of (drop (length l.yielded) l.flat.items.items))) (map (λ (d : V4). d ∷ []) (drop (length l.yielded) l.values)) l.object
    ≡ steps.drivers_of (events.events_of (flat_of l.flat)) (map (λ (d : V4). d ∷ []) l.values) l.object
