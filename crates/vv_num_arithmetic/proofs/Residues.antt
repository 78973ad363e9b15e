-- What is left of numbers modulo powers of two.
use Rattle.std.proofs.Common.{◌≡◌, ◌≢◌, ℕ, zero, suc, ◌+◌, ◌-◌, ◌*◌, ◌/◌, ◌%◌, ◌^◌, ◌<◌, ◌≤◌, List, [], ◌∷◌, length, ℤ, pos, negsuc, ◌+ℤ◌, ◌-ℤ◌, ap, sym, ◌∙◌, arith, FitsSigned, of_z, w32}
use Rattle.std.specs.Int.{w128}
use Rattle.std.proofs.Math.Nat.{mod-lt, mod-eq_of_lt, pow-suc}
use Rattle.std.proofs.Math.Pow.{mod-mod-pow, pow_pos, pow_mono}
use Rattle.std.proofs.lemmas.Int.{ints}
use Rattle.std.proofs.lemmas.Nat.{shr_high, shr_split}
use Rattle.std.specs.Prelude.{unsigned_abs}
use Rattle.vv_bits.specs.declared.nine.S9.{S9}
use Rattle.vv_types.specs.Codec.{reach}
use Rattle.vv_types.specs.Number.{bit, number_of, signed_number_of, vector_of, residue, signed_vector_of}
use Rattle.vv_types.proofs.Numbers.{bit_le, complement_mod, number_bound, number_fits, vector_mod}
use Rattle.vv_types.proofs.Signed.{reach_of_vector, residue_is, residue_of_vector}

pub residue_mod : (s k : ℕ) (z : ℤ) → s ≤ k → residue k z % 2 ^ s ≡ residue s z
residue_mod s k (pos n) h =
    let e : k ≡ (k - s) + s = omega (arith, h) in
    ap (λ x. n % 2 ^ x % 2 ^ s) e ∙ mod-mod-pow n (k - s) s
residue_mod s k (negsuc n) h =
    let e : k ≡ (k - s) + s = omega (arith, h) in
    let t : 2 ^ k ≡ 2 ^ ((k - s) + s) = ap (λ x. 2 ^ x) e in
    let below : n % 2 ^ k < 2 ^ k = mod-lt n (pow_pos k) in
    let first : 2 ^ k - 1 - n % 2 ^ k ≡ 2 ^ ((k - s) + s) - suc (n % 2 ^ k) = omega (arith, t) in
    let twice : n % 2 ^ k % 2 ^ s ≡ n % 2 ^ s = ap (λ x. n % 2 ^ x % 2 ^ s) e ∙ mod-mod-pow n (k - s) s in
    ap (λ x. x % 2 ^ s) first ∙ complement_mod (n % 2 ^ k) (k - s) s (omega (arith, below, t)) ∙ ap (λ x. 2 ^ s - 1 - x) twice

-- the last digits of what is left modulo a higher power
pub vector_residue : (s k : ℕ) (z : ℤ) → s ≤ k → vector_of s (residue k z) ≡ signed_vector_of s z
vector_residue s k z h = sym (vector_mod s (residue k z) s (omega arith)) ∙ ap (vector_of s) (residue_mod s k z h)

-- a number of 32 bits, as its 128 bits
pub residue_of_bits : (z : ℤ) → FitsSigned w32 z → residue 128 z ≡ of_z w128 z
residue_of_bits (pos n) fits = mod-eq_of_lt (omega (arith, fits.sfits))
residue_of_bits (negsuc n) fits =
    let same : n % 2 ^ 128 ≡ n = mod-eq_of_lt (omega (arith, fits.sfits)) in
    omega (arith, same)

-- ---- signs

two_digits : (b : ℕ) → b ≤ 1 → b % 2 ≡ b
two_digits b h = mod-eq_of_lt (omega (arith, h))

first_digit : (x : S9) (xs : List S9) → number_of (x ∷ xs) / 2 ^ length xs % 2 ≡ bit x
first_digit x xs = ap (λ n. n % 2) (shr_high (bit x) (length xs) (number_of xs) (number_bound xs)) ∙ two_digits (bit x) (bit_le x)

kept : (b p n m : ℕ) → b ≡ 0 → b * p + n ≡ m → pos n -ℤ pos (b * p) ≡ pos m
kept zero p n m e h =
    let same : n ≡ m = omega (arith, h) in
    let none : pos n -ℤ pos (0 * p) ≡ pos n = omega (arith, ints) in
    none ∙ ap pos same
kept (suc b) p n m e h = absurd (omega (arith, e))

turn : (p n r : ℕ) → (pos n -ℤ pos (1 * p)) +ℤ pos (1 * (r + p * 2)) ≡ pos (1 * p + n + r)
turn p n r = omega (arith, ints)

turned : (b p n q m t : ℕ) → b ≡ 1 → b * p + n ≡ m → q ≡ p * 2 → q ≤ t → (pos n -ℤ pos (b * p)) +ℤ pos (1 * t) ≡ pos (m + (t - q))
turned zero p n q m t e h g le = absurd (omega (arith, e))
turned (suc zero) p n q m t e h g le =
    let rest : t ≡ (t - q) + p * 2 = omega (arith, g, le) in
    ap (λ x. (pos n -ℤ pos (1 * p)) +ℤ pos (1 * x)) rest ∙ turn p n (t - q) ∙ ap (λ x. pos (x + (t - q))) h
turned (suc (suc b)) p n q m t e h g le = absurd (omega (arith, e))

-- a vector that isn't below 0
pub not_below : (xs : List S9) (n size : ℕ) → length xs ≡ size → number_of xs ≡ n → size ≤ 128 → n / 2 ^ (size - 1) % 2 ≡ 0 →
    n ≡ residue 128 (signed_number_of xs)
not_below [] n size len num few top = sym num
not_below (x ∷ xs) n size len num few top =
    let last : length xs ≡ size - 1 = omega (arith, len) in
    let zero_digit : bit x ≡ 0 = sym (first_digit x xs) ∙ (λ i. num i / 2 ^ last i % 2) ∙ top in
    let value : signed_number_of (x ∷ xs) ≡ pos n = kept (bit x) (2 ^ length xs) (number_of xs) n zero_digit num in
    let small : n < 2 ^ 128 = omega (arith, number_fits (x ∷ xs) 128 (omega (arith, len, few)), num) in
    sym (ap (residue 128) value ∙ mod-eq_of_lt small)

-- a vector of 128 elements has no room for more
pub whole : (xs : List S9) (n size : ℕ) → length xs ≡ size → number_of xs ≡ n → size ≡ 128 → n ≡ residue 128 (signed_number_of xs)
whole xs n size len num all = sym (ap (λ k. residue k (signed_number_of xs)) (sym (len ∙ all)) ∙ residue_of_vector xs ∙ num)

pub power_below : (size : ℕ) → size < 128 → 2 ^ size ≤ 2 ^ 127
power_below size h = pow_mono {j = 127} (omega (arith, h))

pub one_shifted : (size : ℕ) → size < 128 → 1 * 2 ^ size % 2 ^ 128 ≡ 2 ^ size
one_shifted size h =
    let one : 1 * 2 ^ size ≡ 2 ^ size = omega arith in
    ap (λ x. x % 2 ^ 128) one ∙ mod-eq_of_lt (omega (arith, power_below size h))

-- a vector below 0
pub below : (xs : List S9) (n size : ℕ) → length xs ≡ size → number_of xs ≡ n → size < 128 → size ≢ 0 → n / 2 ^ (size - 1) % 2 ≢ 0 →
    (n + (2 ^ 128 - 2 ^ size)) % 2 ^ 128 ≡ residue 128 (signed_number_of xs)
below [] n size len num few some top = absurd (some (sym len))
below (x ∷ xs) n size len num few some top =
    let last : length xs ≡ size - 1 = omega (arith, len) in
    let digit_is : n / 2 ^ (size - 1) % 2 ≡ bit x = sym (λ i. num i / 2 ^ last i % 2) ∙ first_digit x xs in
    let one : bit x ≡ 1 = omega (arith, bit_le x, digit_is, top) in
    let double : 2 ^ size ≡ 2 ^ length xs * 2 = ap (λ k. 2 ^ k) (sym len) ∙ pow-suc 2 (length xs) in
    sym (residue_is 128 (signed_number_of (x ∷ xs)) (n + (2 ^ 128 - 2 ^ size)) 1
    (turned (bit x) (2 ^ length xs) (number_of xs) (2 ^ size) n (2 ^ 128) one num double (omega (arith, power_below size few))))

-- ---- distances from 0

pub reach_of_few : (xs : List S9) → length xs ≤ 128 → reach (signed_number_of xs) < 2 ^ 127
reach_of_few [] h = omega arith
reach_of_few (x ∷ xs) h =
    let le : length xs ≤ 127 = omega (arith, h) in
    let p : 2 ^ length xs ≤ 2 ^ 127 = pow_mono {j = 127} le in
    omega (arith, reach_of_vector x xs, p)

high_digit : (x : ℕ) → x / 2 ^ 127 ≡ 0 → x < 2 ^ 127
high_digit x h = omega (arith, shr_split x 127, mod-lt x (pow_pos 127), h)

pub distance_above : (x : ℕ) (v : ℤ) → reach v < 2 ^ 127 → x ≡ residue 128 v → x / 2 ^ 127 ≡ 0 → x ≡ residue 128 (pos (unsigned_abs v))
distance_above x (pos n) h e top = e
distance_above x (negsuc n) h e top =
    let same : n % 2 ^ 128 ≡ n = mod-eq_of_lt (omega (arith, h)) in
    absurd (omega (arith, h, e, same, high_digit x top))

low_digit : (x : ℕ) → x < 2 ^ 127 → x / 2 ^ 127 ≡ 0
low_digit x h = omega (arith, shr_split x 127, h)

pub distance_below : (x r : ℕ) (v : ℤ) → reach v < 2 ^ 127 → x ≡ residue 128 v → x / 2 ^ 127 ≢ 0 → r ≡ residue 128 (pos 0 -ℤ v) →
    r ≡ residue 128 (pos (unsigned_abs v))
distance_below x r (pos n) h e top is =
    let same : n % 2 ^ 128 ≡ n = mod-eq_of_lt (omega (arith, h)) in
    absurd (top (low_digit x (omega (arith, h, e, same))))
distance_below x r (negsuc n) h e top is =
    let none : 0 + suc n ≡ suc n = omega arith in
    is ∙ ap (λ m. m % 2 ^ 128) none
