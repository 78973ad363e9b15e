-- The fewest digits that hold a number.
use Rattle.std.proofs.Common.{◌≡◌, ℕ, zero, suc, ◌+◌, ◌^◌, ◌<◌, ◌≤◌, inl, inr, arith}
use Rattle.std.proofs.Math.Nat.{pow-suc}
use Rattle.std.proofs.Math.Pow.{pow_mono}
use Rattle.std.proofs.lemmas.Bool.{lt-ltb, le-ltb, cases_lt}
use Rattle.vv_types.specs.Codec.{first_to_hold, digit_count}

pub below_pow : (n : ℕ) → n < 2 ^ n
below_pow zero = omega arith
below_pow (suc n) = omega (arith, below_pow n, pow-suc 2 n)

width_is : (w k n : ℕ) → w ≤ k → n < 2 ^ w → ((j : ℕ) → j < k → 2 ^ j ≤ n) → w ≡ k
width_is w k n le below above = elim (cases_lt w k) [
  | inl lt ↦ absurd (omega (arith, above w lt, below))
  | inr ge ↦ omega (arith, le, ge)
]

next_width : (w k n : ℕ) → w ≤ k → 2 ^ w ≤ n → n < 2 ^ k → w + 1 ≤ k
next_width w k n le above below = elim (cases_lt w k) [
  | inl lt ↦ omega (arith, lt)
  | inr ge ↦ let e : 2 ^ k ≤ 2 ^ w = pow_mono ge in absurd (omega (arith, e, above, below))
]

-- the first width that holds n is found
pub first_found : (more w n k : ℕ) → w ≤ k → k ≤ w + more → n < 2 ^ k → ((j : ℕ) → j < k → 2 ^ j ≤ n) →
    first_to_hold more w n ≡ k
first_found zero w n k le far below above = omega (arith, le, far)
first_found (suc more) w n k le far below above = elim (cases_lt n (2 ^ w)) [
  | inl lt ↦ rw (lt-ltb n (2 ^ w) lt) (width_is w k n le lt above)
  | inr ge ↦ rw (le-ltb n (2 ^ w) ge)
      (first_found more (w + 1) n k (next_width w k n le ge below) (omega (arith, far)) below above)
]

-- the width is the least that holds n
pub digit_count_is : (n k : ℕ) → n < 2 ^ k → ((j : ℕ) → j < k → 2 ^ j ≤ n) → digit_count n ≡ k
unfolding digit_count
digit_count_is n k below above = first_found n 0 n k (omega arith) (enough k above) below above
  where
    enough : (k : ℕ) → ((j : ℕ) → j < k → 2 ^ j ≤ n) → k ≤ 0 + n
    enough zero above = omega arith
    enough (suc k) above = omega (arith, above k (omega arith), below_pow k)

-- the count holds n, and each lesser width is too small
first_holds : (more w n : ℕ) → n < 2 ^ (w + more) → n < 2 ^ first_to_hold more w n
first_holds zero w n h = let e : w + 0 ≡ w = omega arith in rw e at h
first_holds (suc more) w n h = elim (cases_lt n (2 ^ w)) [
  | inl lt ↦ rw (lt-ltb n (2 ^ w) lt) lt
  | inr ge ↦ rw (le-ltb n (2 ^ w) ge)
      (first_holds more (w + 1) n (let e : w + suc more ≡ w + 1 + more = omega arith in rw e at h))
]

first_least : (more w n v : ℕ) → w ≤ v → n < 2 ^ v → first_to_hold more w n ≤ v
first_least zero w n v le below = le
first_least (suc more) w n v le below = elim (cases_lt n (2 ^ w)) [
  | inl lt ↦ rw (lt-ltb n (2 ^ w) lt) le
  | inr ge ↦ rw (le-ltb n (2 ^ w) ge) (first_least more (w + 1) n v (next_width w v n le ge below) below)
]

pub digit_count_holds : (n : ℕ) → n < 2 ^ digit_count n
unfolding digit_count
digit_count_holds n = first_holds n 0 n (let e : 0 + n ≡ n = omega arith in rw e (below_pow n))

pub digit_count_least : (n v : ℕ) → n < 2 ^ v → digit_count n ≤ v
unfolding digit_count
digit_count_least n v below = first_least n 0 n v (omega arith) below
