use Rattle.std.proofs.Common.{◌≡◌, map, drop}
use Rattle.vv_events.specs.Steps as steps
use Rattle.vv_events.specs.Steps.{Act}
use Rattle.vv_gate_verilog.specs.Events as events
use Rattle.vv_gate_run.specs.Flat.{flat_of}
use Rattle.vv_gate_run.specs.Verilog.{state_of, change_of}
use Rattle.vv_gate_run.proofs.verilog.row.Given as goal

abbrev pub invariant-loop-change : goal.invariant-loop-change
invariant-loop-change l =
    steps.writes (events.events_of (flat_of l.flat)) (state_of l.written) (map change_of (drop l.change-index l.changes))
    ≡ steps.writes (events.events_of (flat_of l.flat)) (state_of l.state) (map change_of l.changes)
