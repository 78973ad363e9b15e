-- The widths of numbers and positions are the fewest bits, and all bits of a value are as many as its codec's width.
use Rattle.std.proofs.Common.{◌≡◌, ℕ, suc, ◌+◌, ◌-◌, ◌^◌, ◌<◌, ◌≤◌, max, ℤ, pos, negsuc, ◌≤ℤ◌, ◌<ℤ◌, ap, ◌∙◌, arith}
use Rattle.std.proofs.Math.Nat.{le-max_left, le-max_right, max-le, mod-eq_of_lt}
use Rattle.std.proofs.Math.Pow.{pow_mono}
use Rattle.std.proofs.lemmas.Int.{ints}
use Rattle.vv_types.specs.Codec.{digit_count, reach, int_width, enum_width, IsFewest, IsHeldBy}
use Rattle.vv_types.specs.Number.{number_of, signed_number_of, vector_of, signed_vector_of}
use Rattle.vv_types.proofs.Numbers.{number_of_vector}
use Rattle.vv_types.proofs.Signed.{number_of_signed_vector, signed_number_of_vector}
use Rattle.vv_types.proofs.DigitCount.{digit_count_holds, digit_count_least}

-- ---- one number

held_from_reach : (z : ℤ) (w : ℕ) → reach z < 2 ^ (w - 1) → IsHeldBy w z
held_from_reach (pos n) w h = record { above = omega (arith, ints, h); below = omega (arith, ints, h) }
held_from_reach (negsuc n) w h = record { above = omega (arith, ints, h); below = omega (arith, ints, h) }

reach_from_held : (z : ℤ) (w : ℕ) → IsHeldBy w z → reach z < 2 ^ (w - 1)
reach_from_held (pos n) w h = omega (arith, ints, h.below)
reach_from_held (negsuc n) w h = omega (arith, ints, h.above)

grown : (n w v : ℕ) → n < 2 ^ w → w ≤ v → n < 2 ^ v
grown n w v h le = let e : 2 ^ w ≤ 2 ^ v = pow_mono le in omega (arith, e, h)

-- ---- the fewest bits

pub fewest_for : (n : ℕ) → IsFewest (λ w. n < 2 ^ w) (max 1 (digit_count n))
fewest_for n = record {
  some = le-max_left 1 (digit_count n);
  enough = grown n (digit_count n) _ (digit_count_holds n) (le-max_right 1 (digit_count n));
  least = λ v some holds. max-le some (digit_count_least n v holds);
}

pub natural_width : (low high : ℕ) → IsFewest (λ w. pos high <ℤ pos (2 ^ w)) (int_width (pos low) (pos high))
natural_width low high =
    let n = fewest_for high in
    record {
      some = n.some;
      enough = omega (arith, ints, n.enough);
      least = λ v some holds. n.least v some (omega (arith, ints, holds));
    }

pub signed_width : (low : ℕ) (high : ℤ) →
    IsFewest (λ w. IsHeldBy w (negsuc low) × IsHeldBy w high) (int_width (negsuc low) high)
signed_width low high =
    let most : ℕ = max low (reach high) in
    let holds : most < 2 ^ digit_count most = digit_count_holds most in
    let same : 1 + digit_count most - 1 ≡ digit_count most = omega arith in
    record {
      some = omega arith;
      enough = (
        held_from_reach (negsuc low) _ (rw same (omega (arith, holds, le-max_left low (reach high)))),
        held_from_reach high _ (rw same (omega (arith, holds, le-max_right low (reach high)))),
      );
      least = λ v some held.
          let first = reach_from_held (negsuc low) v held.0 in
          let second = reach_from_held high v held.1 in
          let both : most < 2 ^ (v - 1) = omega (arith, first, second) in
          omega (arith, some, digit_count_least most (v - 1) both);
    }

-- ---- with the numbers of a range

pub natural_width_of : (low high : ℤ) → pos 0 ≤ℤ low → low ≤ℤ high → IsFewest (λ w. high <ℤ pos (2 ^ w)) (int_width low high)
natural_width_of (pos low) (pos high) from to = natural_width low high
natural_width_of (pos low) (negsuc high) from to = absurd (omega (arith, ints, to))
natural_width_of (negsuc low) high from to = absurd (omega (arith, ints, from))

pub signed_width_of : (low high : ℤ) → low <ℤ pos 0 → IsFewest (λ w. IsHeldBy w low × IsHeldBy w high) (int_width low high)
signed_width_of (pos low) high below = absurd (omega (arith, ints, below))
signed_width_of (negsuc low) high below = signed_width low high

pub natural_read : (low high x : ℤ) → pos 0 ≤ℤ low → low ≤ℤ x → x ≤ℤ high →
    pos (number_of (signed_vector_of (int_width low high) x)) ≡ x
natural_read (pos low) (pos high) (pos n) start from to =
    let w : ℕ = int_width (pos low) (pos high) in
    let holds : n < 2 ^ int_width (pos low) (pos high) = omega (arith, ints, (fewest_for high).enough, to) in
    ap pos (number_of_signed_vector (int_width (pos low) (pos high)) n holds)
natural_read (pos low) high (negsuc n) start from to = absurd (omega (arith, ints, from))
natural_read (pos low) (negsuc high) (pos n) start from to = absurd (omega (arith, ints, to))
natural_read (negsuc low) high x start from to = absurd (omega (arith, ints, start))

reach_within : (low : ℕ) (high x : ℤ) → negsuc low ≤ℤ x → x ≤ℤ high → reach x ≤ max low (reach high)
reach_within low (pos high) (pos n) from to = omega (arith, ints, to, le-max_right low high)
reach_within low (negsuc high) (pos n) from to = absurd (omega (arith, ints, to))
reach_within low high (negsuc n) from to = omega (arith, ints, from, le-max_left low (reach high))

pub signed_read : (low high x : ℤ) → low <ℤ pos 0 → low ≤ℤ x → x ≤ℤ high →
    signed_number_of (signed_vector_of (int_width low high) x) ≡ x
signed_read (pos low) high x below from to = absurd (omega (arith, ints, below))
signed_read (negsuc low) high x below from to =
    let most : ℕ = max low (reach high) in
    let same : 1 + digit_count (max low (reach high)) ≡ suc (digit_count (max low (reach high))) = omega arith in
    let holds : reach x < 2 ^ digit_count (max low (reach high))
    = omega (arith, reach_within low high x from to, digit_count_holds (max low (reach high))) in
    ap (λ w. signed_number_of (signed_vector_of w x)) same ∙ signed_number_of_vector (digit_count (max low (reach high))) x holds

pub position_read : (count position : ℕ) → position < count → number_of (vector_of (enum_width count) position) ≡ position
position_read count position h =
    let holds : position < 2 ^ enum_width count = omega (arith, h, (fewest_for (count - 1)).enough) in
    number_of_vector (enum_width count) position ∙ mod-eq_of_lt holds

pub held_read : (k : ℕ) (z : ℤ) → IsHeldBy (suc k) z → signed_number_of (signed_vector_of (suc k) z) ≡ z
held_read k z h =
    let same : suc k - 1 ≡ k = omega arith in
    signed_number_of_vector k z (rw same at (reach_from_held z (suc k) h))
