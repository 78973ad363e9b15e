use Rattle.vv_events.proofs.Reading.{value_same, assignment_local}
use Rattle.vv_events.proofs.syntax.values_rest_on_reads.Goals as goal

pub returns-clause-value : goal.returns-clause-value
returns-clause-value c = value_same

pub returns-clause-assignment : goal.returns-clause-assignment
returns-clause-assignment c = assignment_local
