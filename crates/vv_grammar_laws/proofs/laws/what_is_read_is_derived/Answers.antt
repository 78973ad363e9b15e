use Rattle.vv_grammar_laws.proofs.Ends.{reads}
use Rattle.vv_grammar_laws.proofs.laws.what_is_read_is_derived.Goals as goal

pub returns : goal.returns
returns c = λ s at next es l. reads c.args.edition s c.args.tokens.now at next es l
