use Rattle.vv_gate_verilog.proofs.Ends.{power_on_settles, row_settles}
use Rattle.vv_gate_verilog.proofs.flat_settles.Goals as goal

pub returns-clause-power_on : goal.returns-clause-power_on
returns-clause-power_on c = power_on_settles

pub returns-clause-row : goal.returns-clause-row
returns-clause-row c = row_settles
