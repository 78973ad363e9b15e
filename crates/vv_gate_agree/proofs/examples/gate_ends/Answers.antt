use Rattle.vv_gate_agree.proofs.Instances.{inputs, outputs}
use Rattle.vv_gate_agree.proofs.examples.gate_ends.Goals as goal

pub returns-clause-inputs : goal.returns-clause-inputs
returns-clause-inputs c = inputs

pub returns-clause-outputs : goal.returns-clause-outputs
returns-clause-outputs c = outputs
