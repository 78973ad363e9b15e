use Rattle.vv_productions.proofs.Treed.{tree_made}
use Rattle.vv_productions.proofs.laws.what_matches_has_a_tree.Goals as goal

pub returns : goal.returns
returns c = λ s ts es m. tree_made c.args.edition s ts es m
