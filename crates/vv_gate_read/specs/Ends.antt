-- How a reading ends.
use Rattle.std.specs.Prelude.{◌≡◌, Result, Ok, Err}
use Rattle.vv_gate.specs.View.{file_of}
use Rattle.vv_gate.specs.declared.tree.GateFile.{GateFile}
use Rattle.vv_gate_read.specs.Machine.{Outcome, Reads, Stops}
use Rattle.vv_gate_read.specs.declared.reader.ReadFault.{ReadFault}
use Rattle.vv_gate_read.specs.declared.reader.ReadFault.TheVariants.{Misplaced, Memory}

abbrev pub Ends : Outcome → Result GateFile ReadFault → Type 0
Ends o (Ok f) = o ≡ Reads (file_of f)
Ends o (Err (Misplaced at)) = o ≡ Stops at
Ends o (Err Memory) = Unit {0}
