use Rattle.vv_vlex_laws.proofs.Cuts.{over_limit, stuck_of, only_stuck, apart_cut}
use Rattle.vv_vlex_laws.proofs.laws.refusals_are_exact.Goals as goal

pub returns-clause-large : goal.returns-clause-large
returns-clause-large c = λ h. over_limit c.args.bytes.now h

pub returns-clause-stuck : goal.returns-clause-stuck
returns-clause-stuck c = λ rule at h e. stuck_of c.args.bytes.now at rule h e

pub returns-clause-only : goal.returns-clause-only
returns-clause-only c = λ rule at h s. only_stuck c.args.bytes.now at rule h s

pub returns-clause-apart : goal.returns-clause-apart
returns-clause-apart c = λ ls rule at k s. apart_cut c.args.bytes.now ls rule at k s
