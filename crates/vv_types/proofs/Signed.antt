-- Numbers in two's complement.
use Rattle.std.proofs.Common.{◌≡◌, ℕ, zero, suc, ◌+◌, ◌-◌, ◌*◌, ◌/◌, ◌%◌, ◌^◌, ◌<◌, ◌≤◌, List, [], ◌∷◌, ◌++◌, length, replicate, ℤ, pos, negsuc, neg_ℤ, ◌+ℤ◌, ◌-ℤ◌, ◌*ℤ◌, ◌≤ℤ◌, ◌<ℤ◌, refl, ap, sym, ◌∙◌, arith, FitsSigned, w32}
use Rattle.std.proofs.Math.Nat.{pow-suc, mod-lt, mod-eq_of_lt, add-mul-mod_self_right, mul-le-mul_left}
use Rattle.std.proofs.Math.Pow.{pow_pos}
use Rattle.std.proofs.lemmas.Int.{ints, int_rem_euclid_is}
use Rattle.std.proofs.lemmas.Nat.{shr_split, shr_high, mod_low}
use Rattle.std.specs.Int.{int_rem_euclid}
use Rattle.std.specs.Prelude.{unsigned_abs}
use Rattle.vv_bits.specs.declared.nine.S9.{S9}
use Rattle.vv_bits.specs.declared.nine.S9.TheVariants.{Zero}
use Rattle.vv_types.specs.Codec.{reach}
use Rattle.vv_types.specs.Number.{bit, digit, number_of, signed_number_of, vector_of, residue, signed_vector_of}
use Rattle.vv_types.proofs.Numbers.{bit_le, bit_digit, number_bound, length-vector_of, number_of_vector}

-- ---- one number

pub reach_of_fit : (z : ℤ) → FitsSigned w32 z → reach z < 2 ^ 31
reach_of_fit (pos n) fits = fits.sfits
reach_of_fit (negsuc n) fits = fits.sfits

-- ---- one vector

reach_between : (z : ℤ) (p : ℕ) → neg_ℤ (pos p) ≤ℤ z → z <ℤ pos p → reach z < p
reach_between (pos n) p above below = omega (arith, ints, below)
reach_between (negsuc n) p above below = omega (arith, ints, above)

below_top : (b p n : ℕ) → b ≤ 1 → n < p → reach (pos n -ℤ pos (b * p)) < p
below_top b p n hb h =
    let e : p * b ≤ p * 1 = mul-le-mul_left p hb in
    reach_between (pos n -ℤ pos (b * p)) p (omega (arith, ints, e)) (omega (arith, ints, h))

pub reach_of_vector : (x : S9) (xs : List S9) → reach (signed_number_of (x ∷ xs)) < 2 ^ length xs
reach_of_vector x xs = below_top (bit x) (2 ^ length xs) (number_of xs) (bit_le x) (number_bound xs)

signed_number_by_parts : (k r high low : ℕ) → r ≡ high * 2 ^ k + low → high < 2 → low < 2 ^ k →
    signed_number_of (vector_of (suc k) r) ≡ pos low -ℤ pos (high * 2 ^ k)
signed_number_by_parts k r high low e two below =
    let top : r / 2 ^ k % 2 ≡ high = ap (λ n. n / 2 ^ k % 2) e ∙ ap (λ n. n % 2) (shr_high high k low below) ∙ mod-eq_of_lt two in
    let rest : r % 2 ^ k ≡ low = ap (λ n. n % 2 ^ k) e ∙ mod_low high k low below in
    let first : bit (digit (r / 2 ^ k % 2)) ≡ high = ap (λ d. bit (digit d)) top ∙ bit_digit high two in
    let last : number_of (vector_of k r) ≡ low = number_of_vector k r ∙ rest in
    λ i. pos (last i) -ℤ pos (first i * 2 ^ length-vector_of k r i)

-- one digit more than z's reach asks is enough to have z for its number
pub signed_number_of_vector : (k : ℕ) (z : ℤ) → reach z < 2 ^ k → signed_number_of (signed_vector_of (suc k) z) ≡ z
signed_number_of_vector k (pos n) h =
    let double : 2 ^ suc k ≡ 2 ^ k * 2 = pow-suc 2 k in
    let below : n < 2 ^ suc k = omega (arith, h, double) in
    signed_number_by_parts k (n % 2 ^ suc k) 0 n (mod-eq_of_lt below ∙ omega arith) (omega arith) h ∙ omega (arith, ints)
signed_number_of_vector k (negsuc n) h =
    let double : 2 ^ suc k ≡ 2 ^ k * 2 = pow-suc 2 k in
    let below : n < 2 ^ suc k = omega (arith, h, double) in
    let same : n % 2 ^ suc k ≡ n = mod-eq_of_lt below in
    signed_number_by_parts k (2 ^ suc k - 1 - n % 2 ^ suc k) 1 (2 ^ k - 1 - n) (omega (arith, same, double, h)) (omega arith) (omega (arith, h))
    ∙ omega (arith, ints, h)

-- a number that is not below 0 has its own digits
pub number_of_signed_vector : (k n : ℕ) → n < 2 ^ k → number_of (signed_vector_of k (pos n)) ≡ n
number_of_signed_vector k n h = number_of_vector k (n % 2 ^ k) ∙ ap (λ m. m % 2 ^ k) (mod-eq_of_lt h) ∙ mod-eq_of_lt h

-- signed numbers are in the order of the numbers that differ in the leftmost digit
pub signed_number_raised : (x : S9) (xs : List S9) →
    signed_number_of (x ∷ xs) +ℤ pos (2 ^ length xs) ≡ pos ((1 - bit x) * 2 ^ length xs + number_of xs)
signed_number_raised x xs = raised (bit x) (2 ^ length xs) (number_of xs) (bit_le x)
  where
    raised : (b p n : ℕ) → b ≤ 1 → (pos n -ℤ pos (b * p)) +ℤ pos p ≡ pos ((1 - b) * p + n)
    raised zero p n h = omega (arith, ints)
    raised (suc zero) p n h = omega (arith, ints)
    raised (suc (suc b)) p n h = absurd (omega (arith, h))

-- ---- longer vectors

-- zeros on the left
pub number_of_zeros : (n : ℕ) (xs : List S9) → number_of (replicate n Zero ++ xs) ≡ number_of xs
number_of_zeros zero xs = refl
number_of_zeros (suc n) xs = omega (arith, number_of_zeros n xs)

sign_once : (b p n q : ℕ) → q ≡ p * 2 → pos (b * p + n) -ℤ pos (b * q) ≡ pos n -ℤ pos (b * p)
sign_once b p n q e = rw e (omega (arith, ints))

-- the leftmost element once more
pub signed_number_of_repeated : (x : S9) (xs : List S9) → signed_number_of (x ∷ x ∷ xs) ≡ signed_number_of (x ∷ xs)
signed_number_of_repeated x xs = sign_once (bit x) (2 ^ length xs) (number_of xs) (2 ^ suc (length xs)) (pow-suc 2 (length xs))

pub signed_number_extended : (n : ℕ) (x : S9) (xs : List S9) → signed_number_of (replicate n x ++ x ∷ xs) ≡ signed_number_of (x ∷ xs)
signed_number_extended zero x xs = refl
signed_number_extended (suc zero) x xs = signed_number_of_repeated x xs
signed_number_extended (suc (suc n)) x xs =
    signed_number_of_repeated x (replicate n x ++ x ∷ xs) ∙ signed_number_extended (suc n) x xs

-- ---- what is left modulo a power of two

as_remainder : (k : ℕ) (z : ℤ) → residue k z ≡ unsigned_abs (int_rem_euclid z (pos (2 ^ k)))
as_remainder k (pos n) = refl
as_remainder k (negsuc n) = refl

pub residue_is : (k : ℕ) (z : ℤ) (m j : ℕ) → z +ℤ pos (j * 2 ^ k) ≡ pos m → residue k z ≡ m % 2 ^ k
residue_is k z m j e = as_remainder k z ∙ ap unsigned_abs (int_rem_euclid_is z (pos (2 ^ k)) (2 ^ k) j m (pow_pos k) refl e)

-- z, the turns to add to it and those to take off
record Split (k : ℕ) (z : ℤ) : Type 0 where
  up : ℕ
  down : ℕ
  whole : z +ℤ pos (up * 2 ^ k) ≡ pos (residue k z + down * 2 ^ k)

split_at : (k : ℕ) (z : ℤ) → Split k z
split_at k (pos n) = record { up = 0; down = n / 2 ^ k; whole = omega (arith, ints, shr_split n k) }
split_at k (negsuc n) =
    let below : n % 2 ^ k < 2 ^ k = mod-lt n (pow_pos k) in
    record { up = n / 2 ^ k + 1; down = 0; whole = omega (arith, ints, shr_split n k, below) }

added : (a b : ℤ) (r s u v d e p : ℕ) → a +ℤ pos (u * p) ≡ pos (r + d * p) → b +ℤ pos (v * p) ≡ pos (s + e * p) →
    (a +ℤ b) +ℤ pos ((u + v) * p) ≡ pos (r + s + (d + e) * p)
added a b r s u v d e p h g = omega (arith, ints, h, g)

pub residue_add : (k : ℕ) (a b : ℤ) → residue k (a +ℤ b) ≡ (residue k a + residue k b) % 2 ^ k
residue_add k a b =
    let s = split_at k a in
    let t = split_at k b in
    residue_is k (a +ℤ b) (residue k a + residue k b + (s.down + t.down) * 2 ^ k) (s.up + t.up)
    (added a b (residue k a) (residue k b) s.up t.up s.down t.down (2 ^ k) s.whole t.whole)
    ∙ add-mul-mod_self_right (residue k a + residue k b) (s.down + t.down) (2 ^ k)

-- the number of a signed vector, modulo its length, is the number of its digits
pub residue_of_vector : (xs : List S9) → residue (length xs) (signed_number_of xs) ≡ number_of xs
residue_of_vector [] = refl
residue_of_vector (x ∷ xs) =
    residue_is (suc (length xs)) (signed_number_of (x ∷ xs)) (number_of (x ∷ xs)) (bit x)
    (turned (bit x) (2 ^ length xs) (number_of xs) (2 ^ suc (length xs)) (pow-suc 2 (length xs)))
    ∙ mod-eq_of_lt (number_bound (x ∷ xs))
  where
    turned : (b p n q : ℕ) → q ≡ p * 2 → (pos n -ℤ pos (b * p)) +ℤ pos (b * q) ≡ pos (b * p + n)
    turned b p n q e = rw e (omega (arith, ints))

taken : (a b : ℤ) (r s u v d e p : ℕ) → a +ℤ pos (u * p) ≡ pos (r + d * p) → b +ℤ pos (v * p) ≡ pos (s + e * p) → s < p →
    (a -ℤ b) +ℤ pos ((u + e + 1) * p) ≡ pos (r + (p - s) + (d + v) * p)
taken a b r s u v d e p h g below = omega (arith, ints, h, g, below)

residue_below : (k : ℕ) (z : ℤ) → residue k z < 2 ^ k
residue_below k (pos n) = mod-lt n (pow_pos k)
residue_below k (negsuc n) = omega (arith, pow_pos k)

pub residue_sub : (k : ℕ) (a b : ℤ) → residue k (a -ℤ b) ≡ (residue k a + (2 ^ k - residue k b)) % 2 ^ k
residue_sub k a b =
    let s = split_at k a in
    let t = split_at k b in
    residue_is k (a -ℤ b) (residue k a + (2 ^ k - residue k b) + (s.down + t.up) * 2 ^ k) (s.up + t.down + 1)
    (taken a b (residue k a) (residue k b) s.up t.up s.down t.down (2 ^ k) s.whole t.whole (residue_below k b))
    ∙ add-mul-mod_self_right (residue k a + (2 ^ k - residue k b)) (s.down + t.up) (2 ^ k)

-- ---- products

pos_pos : (x y u v : ℕ) → x * y + (u * (y + v) + v * (x + u)) ≡ (x + u) * (y + v) + u * v
pos_pos x y u v = omega arith

pos_neg : (x y u b : ℕ) → u * b + (b + y) * (x + u) ≡ x * y + ((x + u) * b + u * (b + y))
pos_neg x y u b = omega arith

neg_neg : (x y a b : ℕ) → x * y + ((a + x) * b + (b + y) * a) ≡ a * b + (a + x) * (b + y)
neg_neg x y a b = omega arith

product_at : (a b : ℤ) (m n u v : ℕ) → a +ℤ pos u ≡ pos m → b +ℤ pos v ≡ pos n →
    (a *ℤ b) +ℤ pos (u * n + v * m) ≡ pos (m * n + u * v)
product_at (pos x) (pos y) m n u v h g =
    let em : m ≡ x + u = omega (arith, ints, h) in
    let en : n ≡ y + v = omega (arith, ints, g) in
    rw em (rw en (omega (arith, ints, pos_pos x y u v)))
product_at (pos x) (negsuc y) m n u v h g =
    let em : m ≡ x + u = omega (arith, ints, h) in
    let ev : v ≡ n + suc y = omega (arith, ints, g) in
    rw em (rw ev (omega (arith, ints, pos_neg x (suc y) u n)))
product_at (negsuc x) (pos y) m n u v h g =
    let eu : u ≡ m + suc x = omega (arith, ints, h) in
    let en : n ≡ y + v = omega (arith, ints, g) in
    rw eu (rw en (omega (arith, ints, pos_neg y (suc x) v m)))
product_at (negsuc x) (negsuc y) m n u v h g =
    let eu : u ≡ m + suc x = omega (arith, ints, h) in
    let ev : v ≡ n + suc y = omega (arith, ints, g) in
    rw eu (rw ev (omega (arith, ints, neg_neg (suc x) (suc y) m n)))

turns : (u v m n p : ℕ) → u * p * n + v * p * m ≡ (u * n + v * m) * p
turns u v m n p = omega arith

rests : (r s d e u v p : ℕ) → (r + d * p) * (s + e * p) + u * p * (v * p) ≡ r * s + (r * e + d * s + d * e * p + u * v * p) * p
rests r s d e u v p = omega arith

pub residue_mul : (k : ℕ) (a b : ℤ) → residue k (a *ℤ b) ≡ (residue k a * residue k b) % 2 ^ k
residue_mul k a b =
    let s = split_at k a in
    let t = split_at k b in
    let p : ℕ = 2 ^ k in
    let m : ℕ = residue k a + s.down * 2 ^ k in
    let n : ℕ = residue k b + t.down * 2 ^ k in
    let whole : (a *ℤ b) +ℤ pos ((s.up * n + t.up * m) * 2 ^ k) ≡ pos (m * n + s.up * 2 ^ k * (t.up * 2 ^ k))
    = ap (λ x. (a *ℤ b) +ℤ pos x) (sym (turns s.up t.up m n (2 ^ k))) ∙ product_at a b m n (s.up * 2 ^ k) (t.up * 2 ^ k) s.whole t.whole in
    residue_is k (a *ℤ b) (m * n + s.up * 2 ^ k * (t.up * 2 ^ k)) (s.up * n + t.up * m) whole
    ∙ ap (λ x. x % 2 ^ k) (rests (residue k a) (residue k b) s.down t.down s.up t.up (2 ^ k))
    ∙ add-mul-mod_self_right (residue k a * residue k b) _ (2 ^ k)
