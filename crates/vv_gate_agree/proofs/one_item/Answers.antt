use Rattle.vv_gate_agree.proofs.Laws.{one_item, assigned_item}
use Rattle.vv_gate_agree.proofs.Driven.{idle_driver}
use Rattle.vv_gate_agree.proofs.one_item.Goals as goal

pub returns-clause-outputs : goal.returns-clause-outputs
returns-clause-outputs c = one_item

pub returns-clause-assigned : goal.returns-clause-assigned
returns-clause-assigned c = assigned_item

pub returns-clause-idle : goal.returns-clause-idle
returns-clause-idle c = idle_driver
