use Rattle.std.proofs.Common.{◌-◌}
use Rattle.vv_types.proofs.Widths.{fewest_for}
use Rattle.vv_types.proofs.laws.position_width_is_fewest.Goals as goal

pub returns : goal.returns
returns c = fewest_for (c.args.count - 1)
