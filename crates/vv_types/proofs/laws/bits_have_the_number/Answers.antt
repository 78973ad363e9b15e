use Rattle.vv_types.proofs.Widths.{natural_read, signed_read}
use Rattle.vv_types.proofs.laws.bits_have_the_number.Goals as goal

pub returns : goal.returns
returns c = record {
  natural = λ start. natural_read c.args.low c.args.high c.args.x start c.requires.from c.requires.to;
  signed = λ below. signed_read c.args.low c.args.high c.args.x below c.requires.from c.requires.to;
}
