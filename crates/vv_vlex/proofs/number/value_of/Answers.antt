use Rattle.std.proofs.Common.{◌≡◌, ◌<◌, ◌≤◌, Some, None, ◌∙◌, arith}
use Rattle.vv_vlex.specs.Numbers.{value, limited}
use Rattle.vv_vlex.proofs.Powers.{over_of, within_of, over_number, over_exponent}
use Rattle.vv_vlex.proofs.number.value_of.Goals as goal

pub returns-in_err-number-clause-value : goal.returns-in_err-number-clause-value
returns-in_err-number-clause-value c =
    let l = c.args.literal in
    let some : 1 ≤ l.base = omega arith in
    let large : 2147483647 < value l.base l.digits.now = over_of (value l.base l.digits.now) c.in_err-number.ensures.value in
    let none : c.from_residual.result ≡ None = c.from_residual.ensures in
    none ∙ over_number (value l.base l.digits.now) l.base (value 10 l.power.now) some large

pub returns-in_err-power-clause-value : goal.returns-in_err-power-clause-value
returns-in_err-power-clause-value c =
    let l = c.args.literal in
    let base : 2 ≤ l.base = omega arith in
    let first : Some c.in_ok-number.number ≡ limited (value l.base l.digits.now) = c.in_ok-number.ensures.value in
    let same : c.in_ok-number.number ≡ value l.base l.digits.now = within_of (value l.base l.digits.now) c.in_ok-number.number first in
    let some : 1 ≤ value l.base l.digits.now = omega arith in
    let large : 2147483647 < value 10 l.power.now = over_of (value 10 l.power.now) c.in_err-power.ensures.value in
    c.from_residual-in_err-power.ensures ∙ over_exponent (value l.base l.digits.now) l.base (value 10 l.power.now) base some large
