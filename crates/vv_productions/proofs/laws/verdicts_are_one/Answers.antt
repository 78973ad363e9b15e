use Rattle.vv_productions.proofs.Readings.{one_place, one_depth, not_both, read_shallow, read_whole}
use Rattle.vv_productions.proofs.laws.verdicts_are_one.Goals as goal

pub returns-clause-misplaced : goal.returns-clause-misplaced
returns-clause-misplaced c = λ s at n m x y. one_place c.args.edition s c.args.tokens.now at n m x y

pub returns-clause-deep : goal.returns-clause-deep
returns-clause-deep c = λ s at n m x y. one_depth c.args.edition s c.args.tokens.now at n m x y

pub returns-clause-apart : goal.returns-clause-apart
returns-clause-apart c = λ s at n m x y. not_both c.args.edition s c.args.tokens.now at n m x y

pub returns-clause-not_deep : goal.returns-clause-not_deep
returns-clause-not_deep c = λ s at n next es r x. read_shallow c.args.edition s c.args.tokens.now at n next es r x

pub returns-clause-not_misplaced : goal.returns-clause-not_misplaced
returns-clause-not_misplaced c = λ s at n next es m r x. read_whole c.args.edition s c.args.tokens.now at n next es m r x
