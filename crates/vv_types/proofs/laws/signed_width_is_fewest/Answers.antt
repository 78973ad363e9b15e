use Rattle.vv_types.proofs.Widths.{signed_width_of}
use Rattle.vv_types.proofs.laws.signed_width_is_fewest.Goals as goal

pub returns : goal.returns
returns c = signed_width_of c.args.low c.args.high c.requires
