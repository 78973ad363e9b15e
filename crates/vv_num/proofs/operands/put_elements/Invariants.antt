use Rattle.std.proofs.Common.{◌≡◌, map}
use Rattle.vv_vectors.proofs.Written.{written}
use Rattle.vv_num.specs.Values.{cell}
use Rattle.vv_num.proofs.operands.put_elements.Given as goal

abbrev pub invariant-loop-k : goal.invariant-loop-k
invariant-loop-k l = l.cells ≡ written l.initial.cells l.to.first (map cell l.values) l.k
