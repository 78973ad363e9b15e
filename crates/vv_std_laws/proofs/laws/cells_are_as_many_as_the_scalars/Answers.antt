use Rattle.vv_std_laws.proofs.Alike.{as_many_cells}
use Rattle.vv_std_laws.proofs.laws.cells_are_as_many_as_the_scalars.Goals as goal

pub returns : goal.returns
returns c = as_many_cells c.args.codec.now c.args.value.now c.requires
