use Rattle.std.proofs.Common.{◌≡◌, take}
use Rattle.vv_bits.specs.Resolution.{resolve4_rule}
use Rattle.vv_bits.proofs.resolution.resolve4.Given as goal

abbrev pub invariant-loop-x : goal.invariant-loop-x
invariant-loop-x l = l.all ≡ resolve4_rule (take l.x-index l.list)
