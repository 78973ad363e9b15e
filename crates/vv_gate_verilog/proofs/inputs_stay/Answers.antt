use Rattle.vv_gate_verilog.proofs.Ends.{steps_keep, power_on_inputs, row_inputs}
use Rattle.vv_gate_verilog.proofs.inputs_stay.Goals as goal

pub returns-clause-undriven : goal.returns-clause-undriven
returns-clause-undriven c = steps_keep

pub returns-clause-power_on : goal.returns-clause-power_on
returns-clause-power_on c = power_on_inputs

pub returns-clause-row : goal.returns-clause-row
returns-clause-row c = row_inputs
