use Rattle.vv_vlex_laws.proofs.Cuts.{tokens_cut, tokens_only}
use Rattle.vv_vlex_laws.proofs.laws.tokens_are_a_cut.Goals as goal

pub returns-clause-cut : goal.returns-clause-cut
returns-clause-cut c = λ file names found e. tokens_cut c.args.bytes.now file names found e

pub returns-clause-only : goal.returns-clause-only
returns-clause-only c = λ file names ls h k. tokens_only c.args.bytes.now file names ls h k
