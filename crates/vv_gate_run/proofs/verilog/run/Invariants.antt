use Rattle.std.proofs.Common.{◌≡◌, length, map}
use Rattle.vv_events.specs.Steps.{Act}
use Rattle.vv_gate_verilog.specs.Events as events
use Rattle.vv_gate_run.specs.Flat.{flat_of}
use Rattle.vv_gate_run.specs.Verilog.{state_of, AllNext}
use Rattle.vv_gate_run.proofs.verilog.run.Given as goal

abbrev pub invariant-steps : goal.invariant-steps
invariant-steps l =
    record {
      can : events.CanTake (flat_of l.flat) (state_of l.fn.start) (map Act l.items.items);
      ordered : AllNext l.order (events.events_of (flat_of l.flat)) (state_of l.fn.start) (map Act l.items.items);
      taken : length l.items.items ≡ l._taken;
      flags : length l.state.active.items ≡ length l.fn.start.active.items;
      after : events.after (flat_of l.flat) (state_of l.fn.start) (map Act l.items.items) ≡ state_of l.state;
    }
