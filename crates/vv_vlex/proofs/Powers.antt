-- Digits and powers make a number no smaller, so it is known early that one is over the largest.
use Rattle.std.proofs.Common.{◌≡◌, ℕ, zero, suc, ◌+◌, ◌*◌, ◌^◌, ◌<◌, ◌≤◌, Bool, true, false, ◌==◌, if◌then◌else◌, nat_le, List, [], ◌∷◌, Some, None, refl, arith}
use Rattle.std.proofs.Math.Nat.{le-mul_of_pos_right, mul-le-mul, one-le-pow, pow-le-pow_right, pow-suc}
use Rattle.std.proofs.lemmas.Bool.{leb-true}
use Rattle.vv_vlex.specs.Bytes.{digit}
use Rattle.vv_vlex.specs.Numbers.{value_from, limited}

pub grows : (base sum : ℕ) (digits : List ℕ) → 1 ≤ base → sum ≤ value_from base sum digits
grows base sum [] h = omega arith
grows base sum (b ∷ more) h = go (b == 95) (grows base sum more h) (grows base (sum * base + digit b) more h)
  where
    go : (t : Bool) → sum ≤ value_from base sum more → sum * base + digit b ≤ value_from base (sum * base + digit b) more
        → sum ≤ (if t then value_from base sum more else value_from base (sum * base + digit b) more)
    go true here behind = here
    go false here behind = let more_of : sum ≤ sum * base = le-mul_of_pos_right sum h in omega arith

pub over : (n : ℕ) → 2147483647 < n → None ≡ limited n
over n h = go (nat_le n 2147483647) refl
  where
    go : (t : Bool) → nat_le n 2147483647 ≡ t → None ≡ limited n
    go true e = let k : n ≤ 2147483647 = leb-true n 2147483647 e in absurd (omega arith)
    go false e = rw e refl

pub over_of : (n : ℕ) → None ≡ limited n → 2147483647 < n
over_of n e = go (nat_le n 2147483647) refl
  where
    go : (t : Bool) → nat_le n 2147483647 ≡ t → 2147483647 < n
    go true f = let g = rw f at e in cc
    go false f = search (arith, f)

pub within_of : (n k : ℕ) → Some k ≡ limited n → k ≡ n
within_of n k e = go (nat_le n 2147483647) refl
  where
    go : (t : Bool) → nat_le n 2147483647 ≡ t → k ≡ n
    go true f = let g = rw f at e in cc
    go false f = let g = rw f at e in cc

-- the digits so far are over the largest
pub over_digits : (base sum n : ℕ) (digits : List ℕ) → 1 ≤ base → value_from base sum digits ≡ n → 2147483647 < sum → None ≡ limited n
over_digits base sum n digits h e k = let g : sum ≤ value_from base sum digits = grows base sum digits h in over n (omega arith)

-- a power so far is over the largest
pub over_power : (number base part all : ℕ) → 1 ≤ base → part ≤ all → 2147483647 < number * base ^ part → None ≡ limited (number * base ^ all)
over_power number base part all h k l =
    let more : base ^ part ≤ base ^ all = pow-le-pow_right h k in
    let longer : number * base ^ part ≤ number * base ^ all = mul-le-mul (let same : number ≤ number = omega arith in same) more in
    over (number * base ^ all) (omega arith)

-- a number over the largest is so with each power
pub over_number : (number base power : ℕ) → 1 ≤ base → 2147483647 < number → None ≡ limited (number * base ^ power)
over_number number base power h k =
    let some : 1 ≤ base ^ power = one-le-pow power base h in
    let longer : number ≤ number * base ^ power = le-mul_of_pos_right number some in
    over (number * base ^ power) (omega arith)

-- a power is over its exponent
pub power_above : (base n : ℕ) → 2 ≤ base → n < base ^ n
power_above base zero h = omega (arith, one-le-pow 0 base (let some : 0 < base = omega arith in some))
power_above base (suc n) h =
    let before : n < base ^ n = power_above base n h in
    let twice : base ^ n * 2 ≤ base ^ n * base = mul-le-mul (let same : base ^ n ≤ base ^ n = omega arith in same) h in
    omega (arith, pow-suc base n)

-- an exponent over the largest makes a number that isn't 0 too large
pub over_exponent : (number base power : ℕ) → 2 ≤ base → 1 ≤ number → 2147483647 < power → None ≡ limited (number * base ^ power)
over_exponent number base power h some k =
    let above : power < base ^ power = power_above base power h in
    let longer : 1 * base ^ power ≤ number * base ^ power = mul-le-mul some (let same : base ^ power ≤ base ^ power = omega arith in same) in
    over (number * base ^ power) (omega arith)
