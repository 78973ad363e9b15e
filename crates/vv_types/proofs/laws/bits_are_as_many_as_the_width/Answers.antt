use Rattle.vv_types.proofs.Lengths.{bits_length}
use Rattle.vv_types.proofs.laws.bits_are_as_many_as_the_width.Goals as goal

pub returns : goal.returns
returns c = bits_length c.args.codec.now c.args.value.now c.requires
