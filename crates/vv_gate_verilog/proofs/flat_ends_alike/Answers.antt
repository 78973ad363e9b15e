use Rattle.vv_gate_verilog.proofs.Ends.{power_on_alike, row_alike}
use Rattle.vv_gate_verilog.proofs.flat_ends_alike.Goals as goal

pub returns-clause-power_on : goal.returns-clause-power_on
returns-clause-power_on c = power_on_alike

pub returns-clause-row : goal.returns-clause-row
returns-clause-row c = row_alike
