use Rattle.vv_grammar_laws.proofs.Driven.{driven_reads, driven_refuses, driven_deep}
use Rattle.vv_grammar_laws.proofs.laws.outcomes_are_exact.Goals as goal

pub returns-clause-read : goal.returns-clause-read
returns-clause-read c = λ s at next es h. driven_reads c.args.edition s c.args.tokens.now at next es h

pub returns-clause-refused : goal.returns-clause-refused
returns-clause-refused c = λ s at n h. driven_refuses c.args.edition s c.args.tokens.now at n h

pub returns-clause-deep : goal.returns-clause-deep
returns-clause-deep c = λ s at n h. driven_deep c.args.edition s c.args.tokens.now at n h
