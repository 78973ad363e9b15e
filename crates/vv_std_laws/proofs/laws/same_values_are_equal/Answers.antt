use Rattle.vv_std_laws.proofs.Same.{same_is_equal}
use Rattle.vv_std_laws.proofs.laws.same_values_are_equal.Goals as goal

pub returns : goal.returns
returns c = same_is_equal c.args.a.now c.args.b.now
