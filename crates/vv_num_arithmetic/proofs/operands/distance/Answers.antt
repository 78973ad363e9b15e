use Rattle.std.proofs.Common.{pos, refl}
use Rattle.vv_num_arithmetic.proofs.Residues.{distance_above, distance_below}
use Rattle.vv_num_arithmetic.proofs.operands.distance.Goals as goal

pub returns-then-x-eq0 : goal.returns-then-x-eq0
returns-then-x-eq0 c = λ v few is. distance_above c.args.x v few is c.if-x-eq0.true

pub returns-else-x-eq0 : goal.returns-else-x-eq0
returns-else-x-eq0 c = λ v few is. distance_below c.args.x c.combined.result v few is c.if-x-eq0.false (c.combined.ensures (pos 0) v refl is)
