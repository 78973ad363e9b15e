use Rattle.vv_grammar_laws.proofs.Driven.{by_moves}
use Rattle.vv_grammar_laws.proofs.laws.outcomes_go_by_moves.Goals as goal

pub returns : goal.returns
returns c = λ K at mark es. by_moves c.args.edition c.args.tokens.now K at mark es
