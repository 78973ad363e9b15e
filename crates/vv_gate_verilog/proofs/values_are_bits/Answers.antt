use Rattle.vv_gate_verilog.proofs.Laws.{value_bit}
use Rattle.vv_gate_verilog.proofs.values_are_bits.Goals as goal

pub returns : goal.returns
returns c = value_bit
