use Rattle.std.proofs.Common.{◌≡◌, ◌+◌, ◌*◌, ◌^◌, ◌<◌, ◌≤◌, ℕ, ap, arith, add-one}
use Rattle.std.proofs.Math.Nat.{pow-suc, mul_assoc}
use Rattle.vv_vlex.proofs.Powers.{over_power}
use Rattle.vv_vlex.proofs.number.scaled.Goals as goal

-- one more factor
next : (number base turn product factor : ℕ) → product ≡ number * base ^ turn → factor ≡ base → product * factor ≡ number * base ^ (turn + 1)
next number base turn product factor e f =
    let one_more : number * base ^ (turn + 1) ≡ number * (base ^ turn * base) = ap (λ (k : ℕ). number * k) (rw add-one (pow-suc base turn)) in
    let regrouped : number * base ^ turn * base ≡ number * (base ^ turn * base) = mul_assoc number (base ^ turn) base in
    cc

pub returns-then-product-gt-MOST-clause-value : goal.returns-then-product-gt-MOST-clause-value
returns-then-product-gt-MOST-clause-value c =
    let some : 1 ≤ c.args.base = omega arith in
    let part : c.loop-turn.turn + 1 ≤ c.args.power = omega arith in
    let product : c.loop-turn.product * c.from-product-in-loop-turn.result ≡ c.args.number * c.args.base ^ (c.loop-turn.turn + 1) =
    next c.args.number c.args.base c.loop-turn.turn c.loop-turn.product _ c.loop-turn.invariant.same c.from-product-in-loop-turn.ensures in
    let large : 2147483647 < c.args.number * c.args.base ^ (c.loop-turn.turn + 1) = rw (← product) c.if-product-gt-MOST.true in
    over_power c.args.number c.args.base (c.loop-turn.turn + 1) c.args.power some part large

pub loop-turn-preserved : goal.loop-turn-preserved
loop-turn-preserved c = record {
  same = next c.args.number c.args.base c.loop-turn.turn c.loop-turn.product _ c.loop-turn.invariant.same c.from-product-in-loop-turn.ensures;
  most = omega arith;
}
