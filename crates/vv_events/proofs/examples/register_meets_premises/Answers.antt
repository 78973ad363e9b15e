use Rattle.vv_events.proofs.RegisterRow.{register_local, register_fits, register_written, register_row_start}
use Rattle.vv_events.proofs.examples.register_meets_premises.Goals as goal

pub returns-clause-local : goal.returns-clause-local
returns-clause-local c = register_local

pub returns-clause-fits : goal.returns-clause-fits
returns-clause-fits c = register_fits

pub returns-clause-written : goal.returns-clause-written
returns-clause-written c = register_written

pub returns-clause-row_start : goal.returns-clause-row_start
returns-clause-row_start c = register_row_start
