use Rattle.std.proofs.Common.{◌≡◌, take}
use Rattle.vv_types.proofs.value.Value.+copy.Given as goal

abbrev pub invariant-loop-x : goal.invariant-loop-x
invariant-loop-x l = l.copies ≡ take l.x-index l.x-items
