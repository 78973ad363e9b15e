use Rattle.vv_vlex.proofs.Powers.{over_digits}
use Rattle.vv_vlex.proofs.number.value.Goals as goal

pub returns-then-sum-gt-MOST-clause-value : goal.returns-then-sum-gt-MOST-clause-value
returns-then-sum-gt-MOST-clause-value c = over_digits c.args.base c.digits.sum _ c.digits.rest.now c.requires.some c.digits.invariant.same c.if-sum-gt-MOST.true
