use Rattle.vv_gate_lex.proofs.Cut.{cut_of, only_cut}
use Rattle.vv_gate_lex.proofs.laws.tokens_are_a_cut.Goals as goal

pub returns-clause-cut : goal.returns-clause-cut
returns-clause-cut c = cut_of c.args.bytes.now

pub returns-clause-only : goal.returns-clause-only
returns-clause-only c = λ ts cut. only_cut c.args.bytes.now ts cut
