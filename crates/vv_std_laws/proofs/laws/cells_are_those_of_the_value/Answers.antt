use Rattle.vv_std_laws.proofs.Agree.{one_operand}
use Rattle.vv_std_laws.proofs.laws.cells_are_those_of_the_value.Goals as goal

pub returns : goal.returns
returns c = one_operand c.args.f c.args.a.now c.requires
