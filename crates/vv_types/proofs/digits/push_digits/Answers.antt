-- One more digit stands where the rest of the digits began.
use Rattle.std.proofs.Common.{◌≡◌, ◌-◌, ◌/◌, ◌%◌, ◌^◌, [], ◌∷◌, ◌++◌, ap, ◌∙◌}
use Rattle.vv_types.specs.Number.{digit}
use Rattle.vv_types.proofs.Extended.{extends_more}
use Rattle.vv_types.proofs.Numbers.{vector_grown}
use Rattle.vv_types.proofs.digits.push_digits.Goals as goal

pub loop-k-preserved : goal.loop-k-preserved
loop-k-preserved c =
    let n = c.args.n in
    let k = c.loop-k.k in
    let items = c.loop-k.into.items in
    let pushed : c.push.new.self.items ≡ items ++ digit (n / 2 ^ (k - 1) % 2) ∷ []
    = c.in_ok-push.ensures.items ∙ ap (λ d. items ++ d ∷ []) c.digit_of.ensures in
    record {
      whole = rw pushed (vector_grown items _ k n c.loop-k-test.true c.loop-k.invariant.whole);
      extends = rw pushed (extends_more _ items _ c.loop-k.invariant.extends);
    }
