-- When the values of the nets of a file of gates and the bits of its Verilog design agree. Both are numbered as the ports.
use Rattle.std.specs.Prelude.{◌≡◌, ℕ, Bool, true, false, List, [], ◌∷◌, ◌++◌, Option, Some, None, slice_get}
use Rattle.vv_bits.specs.declared.nine.S9.{S9}
use Rattle.vv_bits.specs.declared.four.V4.{V4}
use Rattle.vv_bits.specs.Four.{abs_rule}
use Rattle.vv_gate.specs.Tree.{GateFile, ports_of}
use Rattle.vv_cycle.specs.Processes as vhdl
use Rattle.vv_cycle.specs.Rows.{Entry}
use Rattle.vv_events.specs.Equations as verilog
use Rattle.vv_gate_vhdl.specs.Design.{is_port, gate_design}

-- Verilog has on each port of this direction what it sees of the VHDL value
abbrev pub PortsAgree : Bool → GateFile → List S9 → List V4 → Type 0
PortsAgree way f values bits = (k : ℕ) → is_port way (ports_of f) k ≡ true → verilog.at bits k ≡ abs_rule (vhdl.at values k)

-- on each in port
abbrev pub InputsAgree : GateFile → List S9 → List V4 → Type 0
InputsAgree f values bits = PortsAgree true f values bits

-- on each out port
abbrev pub Agrees : GateFile → List S9 → List V4 → Type 0
Agrees f values bits = PortsAgree false f values bits

-- ---- rows

-- each net with what Verilog sees of its bit
abbrev pub seen : List ℕ → List S9 → List (ℕ × V4)
seen [] bits = []
seen (n ∷ ns) [] = []
seen (n ∷ ns) (b ∷ bits) = (n, abs_rule b) ∷ seen ns bits

abbrev pub seen_input : Option vhdl.Input → List S9 → List (ℕ × V4)
seen_input None bits = []
seen_input (Some i) bits = seen i.nets bits

-- the Verilog row of a VHDL row: the nets of each entry's input, with what Verilog sees of the entry's bits
abbrev pub row4 : GateFile → List Entry → List (ℕ × V4)
row4 f [] = []
row4 f (e ∷ es) = seen_input (slice_get (gate_design f).inputs e.input) e.bits ++ row4 f es
