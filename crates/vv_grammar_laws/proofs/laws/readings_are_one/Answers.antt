use Rattle.vv_grammar_laws.proofs.Readings.{at_most_one}
use Rattle.vv_grammar_laws.proofs.laws.readings_are_one.Goals as goal

pub returns : goal.returns
returns c = λ s u es fs d f. at_most_one c.args.edition s u es fs d f
