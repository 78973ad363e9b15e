use Rattle.std.proofs.Common.{◌≡◌, ◌++◌, take}
use Rattle.vv_std_values.proofs.arrays.append.Given as goal

abbrev pub invariant-loop-x : goal.invariant-loop-x
invariant-loop-x l = l.list ≡ l.initial.list ++ take l.x-index l.x-items
