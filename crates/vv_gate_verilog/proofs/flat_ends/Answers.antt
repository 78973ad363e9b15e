use Rattle.vv_gate_verilog.proofs.Ends.{power_on_bound, power_on_stuck, row_bound, row_stuck}
use Rattle.vv_gate_verilog.proofs.flat_ends.Goals as goal

pub returns-clause-power_on : goal.returns-clause-power_on
returns-clause-power_on c = power_on_bound

pub returns-clause-power_on_quiet : goal.returns-clause-power_on_quiet
returns-clause-power_on_quiet c = power_on_stuck

pub returns-clause-row : goal.returns-clause-row
returns-clause-row c = row_bound

pub returns-clause-row_quiet : goal.returns-clause-row_quiet
returns-clause-row_quiet c = row_stuck
