use Rattle.vv_std_laws.proofs.Agree.{two_operands}
use Rattle.vv_std_laws.proofs.laws.cells_are_those_of_the_values.Goals as goal

pub returns : goal.returns
returns c = two_operands c.args.f c.args.a.now c.args.b.now c.requires
