use Rattle.std.proofs.Common.{refl}
use Rattle.vv_events.proofs.syntax.statements_compute.Goals as goal

pub returns-clause-updates : goal.returns-clause-updates
returns-clause-updates c = refl

pub returns-clause-writes : goal.returns-clause-writes
returns-clause-writes c = refl

pub returns-clause-unknown_condition : goal.returns-clause-unknown_condition
returns-clause-unknown_condition c = refl

pub returns-clause-function : goal.returns-clause-function
returns-clause-function c = refl
