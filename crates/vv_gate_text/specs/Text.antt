-- The Verilog text of a file of gates.
use Rattle.std.specs.Prelude.{ℕ, List}
use Rattle.vv_gate.specs.Tree.{GateFile}
use Rattle.vv_gate_text.specs.Made.{module_of}
use Rattle.vv_gate_text.specs.Layout.{written_module}

abbrev pub text_of : GateFile → List ℕ
text_of f = written_module (module_of f)
