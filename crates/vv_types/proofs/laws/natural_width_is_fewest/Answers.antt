use Rattle.vv_types.proofs.Widths.{natural_width_of}
use Rattle.vv_types.proofs.laws.natural_width_is_fewest.Goals as goal

pub returns : goal.returns
returns c = natural_width_of c.args.low c.args.high c.requires.from c.requires.to
