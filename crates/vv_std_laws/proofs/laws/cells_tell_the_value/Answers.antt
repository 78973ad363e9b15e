use Rattle.vv_std_laws.proofs.Alike.{told_by_cells}
use Rattle.vv_std_laws.proofs.laws.cells_tell_the_value.Goals as goal

pub returns : goal.returns
returns c = told_by_cells c.args.codec.now c.args.a.now c.args.b.now c.requires.a c.requires.b
