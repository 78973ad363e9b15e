use Rattle.vv_gate_verilog.proofs.Ends.{one_end}
use Rattle.vv_gate_verilog.proofs.flat_has_one_solution.Goals as goal

pub returns : goal.returns
returns c = one_end
