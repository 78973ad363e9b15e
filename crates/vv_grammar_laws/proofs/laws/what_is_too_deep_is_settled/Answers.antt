use Rattle.vv_grammar_laws.proofs.Deep.{too_deep}
use Rattle.vv_grammar_laws.proofs.laws.what_is_too_deep_is_settled.Goals as goal

pub returns : goal.returns
returns c = λ s at n h. too_deep c.args.edition s c.args.tokens.now at n h
