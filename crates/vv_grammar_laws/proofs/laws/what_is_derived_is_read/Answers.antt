use Rattle.vv_grammar_laws.proofs.Deep.{whole, deep_in}
use Rattle.vv_grammar_laws.proofs.Ends.{read_whole, never_refused}
use Rattle.vv_grammar_laws.proofs.laws.what_is_derived_is_read.Goals as goal

pub returns-clause-read : goal.returns-clause-read
returns-clause-read c = λ s at next es fs d l. read_whole c.args.edition s c.args.tokens.now at next es fs d l

pub returns-clause-never : goal.returns-clause-never
returns-clause-never c = λ s at n fs d h. never_refused c.args.edition s c.args.tokens.now at n fs d h

pub returns-clause-whole : goal.returns-clause-whole
returns-clause-whole c = λ s at es d h. whole c.args.edition s c.args.tokens.now at es d h

pub returns-clause-deep : goal.returns-clause-deep
returns-clause-deep c = λ s at n fs d h. deep_in c.args.edition s c.args.tokens.now at n fs d h
