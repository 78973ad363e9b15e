-- The map of a file of gates: a line of five fields for each port, in order.
use Rattle.std.specs.Prelude.{ℕ, Bool, true, false, List, ◌++◌, map, flat_map, codes}
use Rattle.std.specs.Fmt.{decimal}
use Rattle.vv_gate.specs.Tree.{Port, GateFile, ports_of}
use Rattle.vv_gate_text.specs.Names.{mangled}
use Rattle.vv_gate_text.specs.Layout.{newline}

-- what an object of the map is: an input that carries data, or an output
pub data Kind : Type 0 where
  input_data : Kind
  output : Kind

-- how a value is written in bits: one bit of std_logic
pub data Codec : Type 0 where
  std_bit : Codec

pub record Line : Type 0 where
  pub kind : Kind
  pub vhdl : List ℕ
  pub verilog : List ℕ
  pub width : ℕ
  pub codec : Codec

abbrev pub written_kind : Kind → List ℕ
written_kind input_data = codes "data"
written_kind output = codes "out"

abbrev pub written_codec : Codec → List ℕ
written_codec std_bit = codes "std"

abbrev pub written_line : Line → List ℕ
written_line l =
    written_kind l.kind ++ codes "," ++ l.vhdl ++ codes "," ++ l.verilog ++ codes "," ++ decimal l.width ++ codes "," ++ written_codec l.codec
    ++ newline

abbrev pub kind_of : Bool → Kind
kind_of true = input_data
kind_of false = output

abbrev pub line_of : Port → Line
line_of p = record { kind = kind_of p.input; vhdl = p.ident.text; verilog = mangled p.ident.text; width = 1; codec = std_bit }

abbrev pub lines_of : GateFile → List Line
lines_of f = map line_of (ports_of f)

abbrev pub map_of : GateFile → List ℕ
map_of f = flat_map written_line (lines_of f)
