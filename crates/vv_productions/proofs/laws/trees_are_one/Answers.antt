use Rattle.vv_productions.proofs.Readings.{one_tree}
use Rattle.vv_productions.proofs.laws.trees_are_one.Goals as goal

pub returns : goal.returns
returns c = λ s ts a b x y. one_tree c.args.edition s ts a b x y
