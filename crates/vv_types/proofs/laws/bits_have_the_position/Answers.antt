use Rattle.vv_types.proofs.Widths.{position_read}
use Rattle.vv_types.proofs.laws.bits_have_the_position.Goals as goal

pub returns : goal.returns
returns c = position_read c.args.count c.args.position c.requires
