use Rattle.std.proofs.Common.{arith}
use Rattle.vv_types.proofs.Signed.{reach_of_fit}
use Rattle.vv_types.proofs.SubtypeLaws.{scalar_codec_small}
use Rattle.vv_types.proofs.laws.scalars_have_few_bits.Goals as goal

pub returns : goal.returns
returns c =
    scalar_codec_small c.args.base c.args.low c.args.high c.args.count
    (reach_of_fit c.args.low c.ranges.low) (reach_of_fit c.args.high c.ranges.high) (omega arith)
