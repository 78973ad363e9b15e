use Rattle.vv_grammar_laws.proofs.Verdicts.{one_misplaced, one_deep, apart, not_deep, not_misplaced}
use Rattle.vv_grammar_laws.proofs.laws.verdicts_are_one.Goals as goal

pub returns-clause-misplaced : goal.returns-clause-misplaced
returns-clause-misplaced c = λ s at n m x y. one_misplaced c.args.edition s c.args.tokens.now at n m x y

pub returns-clause-deep : goal.returns-clause-deep
returns-clause-deep c = λ s at n m x y. one_deep c.args.edition s c.args.tokens.now at n m x y

pub returns-clause-apart : goal.returns-clause-apart
returns-clause-apart c = λ s at n m x y. apart c.args.edition s c.args.tokens.now at n m x y

pub returns-clause-not_deep : goal.returns-clause-not_deep
returns-clause-not_deep c = λ s at n next es r x. not_deep c.args.edition s c.args.tokens.now at n next es r x

pub returns-clause-not_misplaced : goal.returns-clause-not_misplaced
returns-clause-not_misplaced c = λ s at n next es m r y. not_misplaced c.args.edition s c.args.tokens.now at n next es m r y
