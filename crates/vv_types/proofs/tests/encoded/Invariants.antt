use Rattle.std.proofs.Common.{◌≡◌}
use Rattle.vv_types.specs.Codec.{codec_of}
use Rattle.vv_types.proofs.tests.encoded.Given as goal

abbrev pub invariant-loop-bit : goal.invariant-loop-bit
invariant-loop-bit l = l.codec ≡ codec_of l.subtype
