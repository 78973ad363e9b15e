use Rattle.vv_vlex_laws.proofs.Cuts.{cut_of, only_cut, one_cut}
use Rattle.vv_vlex_laws.proofs.laws.elements_are_a_cut.Goals as goal

pub returns-clause-cut : goal.returns-clause-cut
returns-clause-cut c = λ ls e. cut_of c.args.bytes.now ls e

pub returns-clause-only : goal.returns-clause-only
returns-clause-only c = λ ls h k. only_cut c.args.bytes.now ls h k

pub returns-clause-one : goal.returns-clause-one
returns-clause-one c = λ ls more h k. one_cut c.args.bytes.now ls more h k
