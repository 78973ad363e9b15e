use Rattle.vv_productions.proofs.Main.{one_match}
use Rattle.vv_productions.proofs.laws.matches_are_one.Goals as goal

pub returns : goal.returns
returns c = λ s u es fs m k. one_match c.args.edition s u es fs m k
