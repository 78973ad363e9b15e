use Rattle.vv_gate_agree.proofs.Laws.{same_objects, is_output}
use Rattle.vv_gate_agree.proofs.Rows.{is_input}
use Rattle.vv_gate_agree.proofs.numbered_alike.Goals as goal

pub returns-clause-objects : goal.returns-clause-objects
returns-clause-objects c = same_objects

pub returns-clause-inputs : goal.returns-clause-inputs
returns-clause-inputs c = is_input

pub returns-clause-outputs : goal.returns-clause-outputs
returns-clause-outputs c = is_output
