use Rattle.std.proofs.Common.{◌≡◌, ◌++◌, take}
use Rattle.std.specs.List.{flat_map}
use Rattle.vv_types.specs.Codec.{bits_of}
use Rattle.vv_types.proofs.codec.Codec.+append_bits.Given as goal

abbrev pub invariant-loop-x : goal.invariant-loop-x
invariant-loop-x l = l.into.items ≡ l.initial.into.items ++ flat_map (bits_of l.elem) (take l.x-index l.x-items)
