use Rattle.std.proofs.Common.{◌≡◌, ◌++◌, map, drop}
use Rattle.vv_gate.specs.View.{file_of}
use Rattle.vv_gate_agree.specs.Agreement.{row4}
use Rattle.vv_gate_run.specs.Verilog.{change_of}
use Rattle.vv_gate_run.specs.Vhdl.{entry_of}
use Rattle.vv_gate_run.proofs.verilog.changes.Given as goal

abbrev pub invariant-loop-entry : goal.invariant-loop-entry
invariant-loop-entry l =
    map change_of l.changes.items ++ row4 (file_of l.file) (map entry_of (drop l.entry-index l.entries)) ≡ row4 (file_of l.file) (map entry_of l.entries)
