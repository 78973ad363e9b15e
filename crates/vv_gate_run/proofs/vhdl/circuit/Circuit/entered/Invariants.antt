use Rattle.std.proofs.Common.{◌≡◌, map, drop}
use Rattle.vv_gate_run.specs.Circuit.{design_of}
use Rattle.vv_gate_run.specs.Vhdl.{entry_of}
use Rattle.vv_cycle.specs.Rows as rows
use Rattle.vv_gate_run.proofs.vhdl.circuit.Circuit.entered.Given as goal

abbrev pub invariant-loop-entry : goal.invariant-loop-entry
invariant-loop-entry l =
    rows.entered (design_of l.self) (map entry_of (drop l.entry-index l.entries)) l.entered.items ≡ rows.entered (design_of l.self) (map entry_of l.entries) l.values
