use Rattle.vv_events.proofs.SmallDesigns.{register_can, register_quiet, register_ends}
use Rattle.vv_events.proofs.examples.register_settles.Goals as goal

pub returns-clause-may_run : goal.returns-clause-may_run
returns-clause-may_run c = register_can

pub returns-clause-quiet : goal.returns-clause-quiet
returns-clause-quiet c = register_quiet

pub returns-clause-bits : goal.returns-clause-bits
returns-clause-bits c = register_ends
