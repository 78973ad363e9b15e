use Rattle.vv_gate_verilog.proofs.Ends.{power_on_rests, row_rests}
use Rattle.vv_gate_verilog.proofs.flat_solves.Goals as goal

pub returns-clause-power_on : goal.returns-clause-power_on
returns-clause-power_on c = power_on_rests

pub returns-clause-row : goal.returns-clause-row
returns-clause-row c = row_rests
