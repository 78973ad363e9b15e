use Rattle.std.proofs.Common.{◌≡◌, ◌<◌, ◌^◌, map, take}
use Rattle.vv_types.specs.Number.{number_of}
use Rattle.vv_num_vectors.specs.Operands.{elements_of}
use Rattle.vv_num_vectors.proofs.Integers.{beside}
use Rattle.vv_num_vectors.proofs.conversion.integer.Given as goal

abbrev pub invariant-loop-k : goal.invariant-loop-k
invariant-loop-k l = record {
  value : l.reach ≡ number_of (take l.k (map (beside l.sign) (elements_of l.cells l.a)));
  small : l.reach < 2 ^ 31;
}
