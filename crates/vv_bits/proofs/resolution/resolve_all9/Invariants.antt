use Rattle.std.proofs.Common.{◌≡◌, take}
use Rattle.vv_bits.specs.Resolution.{resolve_several}
use Rattle.vv_bits.proofs.resolution.resolve_all9.Given as goal

abbrev pub invariant-loop-x : goal.invariant-loop-x
invariant-loop-x l = l.all ≡ resolve_several (take l.x-index l.list)
