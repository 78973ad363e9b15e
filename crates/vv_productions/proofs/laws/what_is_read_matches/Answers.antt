use Rattle.vv_grammar_laws.proofs.Ends.{reads}
use Rattle.vv_productions.proofs.Readings.{read-of}
use Rattle.vv_productions.proofs.laws.what_is_read_matches.Goals as goal

pub returns : goal.returns
returns c = λ s at next es l. read-of c.args.edition s c.args.tokens.now at next es (reads c.args.edition s c.args.tokens.now at next es l)
