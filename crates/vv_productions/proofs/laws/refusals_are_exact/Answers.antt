use Rattle.vv_grammar_laws.proofs.Ends.{refuses}
use Rattle.vv_grammar_laws.proofs.Deep.{too_deep}
use Rattle.vv_productions.proofs.Readings.{misplaced-of, deep-of}
use Rattle.vv_productions.proofs.laws.refusals_are_exact.Goals as goal

pub returns-clause-misplaced : goal.returns-clause-misplaced
returns-clause-misplaced c = λ s at n h. misplaced-of c.args.edition s c.args.tokens.now at n (refuses c.args.edition s c.args.tokens.now at n h)

pub returns-clause-deep : goal.returns-clause-deep
returns-clause-deep c = λ s at n h. deep-of c.args.edition s c.args.tokens.now at n (too_deep c.args.edition s c.args.tokens.now at n h)
