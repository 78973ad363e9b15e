-- The binary logarithm is one less than the count of digits.
use Rattle.std.proofs.Common.{◌≡◌, ◌+◌, ◌*◌, ◌^◌, ◌<◌, ◌≤◌, sym, ap, ◌∙◌, add-one, arith}
use Rattle.std.proofs.Math.Nat.{pow-suc}
use Rattle.std.proofs.Math.Pow.{pow_mono}
use Rattle.vv_types.proofs.DigitCount.{digit_count_is}
use Rattle.vv_types.proofs.digits.digits_of.Goals as goal

pub returns-then-n-eq0-clause-value : goal.returns-then-n-eq0-clause-value
returns-then-n-eq0-clause-value c =
    sym (digit_count_is c.args.n 0 (omega arith) (λ j h. absurd (omega arith)))

pub returns-else-n-eq0-clause-value : goal.returns-else-n-eq0-clause-value
returns-else-n-eq0-clause-value c =
    let log = c.ilog2.result in
    let next : 2 ^ (log + 1) ≡ 2 * 2 ^ log = ap (λ k. 2 ^ k) (add-one log) ∙ pow-suc 2 log ∙ omega arith in
    let below : c.args.n < 2 ^ (log + 1) = omega (arith, c.ilog2.ensures.next_power_gt, next) in
    sym (digit_count_is c.args.n (log + 1) below
    (λ j h. let le : j ≤ log = omega arith in let p : 2 ^ j ≤ 2 ^ log = pow_mono le in omega (arith, p, c.ilog2.ensures.power_le)))
