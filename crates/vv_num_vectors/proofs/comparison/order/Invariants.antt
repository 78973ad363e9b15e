use Rattle.std.proofs.Common.{◌≡◌, take}
use Rattle.vv_types.specs.Number.{number_of}
use Rattle.vv_num_vectors.specs.Operands.{digits_of}
use Rattle.vv_num_vectors.proofs.comparison.order.Given as goal

abbrev pub invariant-loop-k : goal.invariant-loop-k
invariant-loop-k l = number_of (take l.k (digits_of l.cells l.a l.length)) ≡ number_of (take l.k (digits_of l.cells l.b l.length))
