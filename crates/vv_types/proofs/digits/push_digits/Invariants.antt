use Rattle.std.proofs.Common.{◌≡◌, ◌++◌}
use Rattle.vv_types.specs.Number.{vector_of}
use Rattle.vv_types.specs.Prefix.{Extends}
use Rattle.vv_types.proofs.digits.push_digits.Given as goal

abbrev pub invariant-loop-k : goal.invariant-loop-k
invariant-loop-k l = record {
  whole : l.into.items ++ vector_of l.k l.n ≡ l.initial.into.items ++ vector_of l.width l.n;
  extends : Extends l.initial.into.items l.into.items;
}
