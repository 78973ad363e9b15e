use Rattle.std.proofs.Common.{◌≡◌, ◌++◌, map, drop}
use Rattle.vv_events.specs.Rows as rows
use Rattle.vv_gate_verilog.specs.Events as events
use Rattle.vv_gate_run.specs.Flat.{object_of, flat_of}
use Rattle.vv_gate_run.proofs.verilog.start_bits.Given as goal

abbrev pub invariant-loop-number : goal.invariant-loop-number
invariant-loop-number l =
    l.bits.items ++ rows.start_bits (events.events_of (flat_of l.flat)) l.number (events.declared_in (map object_of (drop l.number l.flat.objects.items)))
    ≡ rows.start_bits (events.events_of (flat_of l.flat)) 0 (events.declared_of (flat_of l.flat))
