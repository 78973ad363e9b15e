use Rattle.vv_trans.specs.Translation.{bytes_of}
use Rattle.vv_trans.proofs.Phases.{told_exactly, only_told, accepted_exactly}
use Rattle.vv_trans.proofs.Ways.{reading_first}
use Rattle.vv_trans.proofs.laws.report_is_exact.Goals as goal

pub returns-clause-told : goal.returns-clause-told
returns-clause-told c = λ r e. told_exactly c.args.top.now (bytes_of c.args.files.now) r e

pub returns-clause-only : goal.returns-clause-only
returns-clause-only c = λ r h. only_told c.args.top.now (bytes_of c.args.files.now) r h

pub returns-clause-accepted : goal.returns-clause-accepted
returns-clause-accepted c = λ e. accepted_exactly c.args.top.now (bytes_of c.args.files.now) e

pub returns-clause-read : goal.returns-clause-read
returns-clause-read c = λ r e. reading_first c.args.top.now (bytes_of c.args.files.now) r e
