-- Numbers of INTEGER, by the digits that differ from the sign.
use Rattle.std.proofs.Common.{◌≡◌, ℕ, zero, suc, ◌+◌, ◌*◌, ◌^◌, ◌<◌, ◌≤◌, List, [], ◌∷◌, length, map, ℤ, pos, negsuc, ◌-ℤ◌, refl, ap, sym, ◌∙◌, arith, Bool, false, true, not, nat_eq, if◌then◌else◌, Some, None, take, get_or}
use Rattle.std.proofs.lemmas.Bool.{lt-ltb, le-ltb}
use Rattle.std.proofs.lemmas.Int.{ints}
use Rattle.std.proofs.lemmas.List.{get_or-map, length-map}
use Rattle.std.specs.Int.{from_bool}
use Rattle.vv_types.proofs.Numbers.{number_step}
use Rattle.std.proofs.Math.Nat.{pow-suc}
use Rattle.vv_bits.specs.declared.nine.S9.{S9}
use Rattle.vv_bits.specs.declared.nine.S9.TheVariants.{U, X, Zero, One, Z, W, L, H, Dash}
use Rattle.vv_types.specs.Number.{bit, number_of}
use Rattle.vv_num_vectors.specs.Rows.{integer_from}

-- 1 where an element differs from the sign
abbrev pub beside : ℕ → S9 → S9
beside sign x = if nat_eq (bit x) sign then Zero else One

like_itself : (x : S9) → bit (beside 0 x) ≡ bit x
like_itself U = refl
like_itself X = refl
like_itself Zero = refl
like_itself One = refl
like_itself Z = refl
like_itself W = refl
like_itself L = refl
like_itself H = refl
like_itself Dash = refl

opposite : (x : S9) → bit (beside 1 x) + bit x ≡ 1
opposite U = refl
opposite X = refl
opposite Zero = refl
opposite One = refl
opposite Z = refl
opposite W = refl
opposite L = refl
opposite H = refl
opposite Dash = refl

pub number_above : (xs : List S9) → number_of (map (beside 0) xs) ≡ number_of xs
number_above [] = refl
number_above (x ∷ xs) = λ i. like_itself x i * 2 ^ length-map xs (beside 0) i + number_above xs i

doubled : (b c m n p q : ℕ) → b + c ≡ 1 → m + n + 1 ≡ p → q ≡ p * 2 → (b * p + m) + (c * p + n) + 1 ≡ q
doubled zero c m n p q e h g = let one : c ≡ 1 = omega (arith, e) in rw one (omega (arith, h, g))
doubled (suc zero) c m n p q e h g = let none : c ≡ 0 = omega (arith, e) in rw none (omega (arith, h, g))
doubled (suc (suc b)) c m n p q e h g = absurd (omega (arith, e))

pub number_below : (xs : List S9) → number_of (map (beside 1) xs) + number_of xs + 1 ≡ 2 ^ length xs
number_below [] = refl
number_below (x ∷ xs) =
    ap (λ k. (bit (beside 1 x) * 2 ^ k + number_of (map (beside 1) xs)) + (bit x * 2 ^ length xs + number_of xs) + 1) (length-map xs (beside 1))
    ∙ doubled (bit (beside 1 x)) (bit x) (number_of (map (beside 1) xs)) (number_of xs) (2 ^ length xs) (2 ^ suc (length xs))
    (opposite x) (number_below xs) (pow-suc 2 (length xs))

pub worth_above : (v : ℤ) (xs : List S9) (p : ℕ) → v ≡ pos (number_of xs) -ℤ pos (0 * p) → v ≡ pos (number_of (map (beside 0) xs))
worth_above v xs p e = omega (arith, ints, e, number_above xs)

pub worth_below : (v : ℤ) (xs : List S9) → v ≡ pos (number_of xs) -ℤ pos (1 * 2 ^ length xs) → v ≡ negsuc (number_of (map (beside 1) xs))
worth_below v xs e = omega (arith, ints, e, number_below xs)

-- ---- the bounds of INTEGER

pub natural_within : (n : ℕ) → n < 2 ^ 31 → integer_from false (pos n) ≡ Some (pos n)
natural_within n h = rw (lt-ltb n (2 ^ 31) h) refl

pub natural_outside : (n : ℕ) → 2 ^ 31 ≤ n → integer_from false (pos n) ≡ None
natural_outside n h = rw (le-ltb n (2 ^ 31) h) refl

pub negative_within : (n : ℕ) → n < 2 ^ 31 → integer_from false (negsuc n) ≡ Some (negsuc n)
negative_within n h = rw (le-ltb 2147483647 n (omega (arith, h))) refl

pub negative_outside : (n : ℕ) → 2 ^ 31 ≤ n → integer_from false (negsuc n) ≡ None
negative_outside n h = rw (lt-ltb 2147483647 n (omega (arith, h))) refl

pub outside : (v : ℤ) (sign : ℕ) (xs : List S9) → sign < 2 → v ≡ pos (number_of xs) -ℤ pos (sign * 2 ^ length xs) →
    2 ^ 31 ≤ number_of (map (beside sign) xs) → None ≡ integer_from false v
outside v zero xs h e big = sym (ap (integer_from false) (worth_above v xs (2 ^ length xs) e) ∙ natural_outside (number_of (map (beside 0) xs)) big)
outside v (suc zero) xs h e big = sym (ap (integer_from false) (worth_below v xs e) ∙ negative_outside (number_of (map (beside 1) xs)) big)
outside v (suc (suc sign)) xs h e big = absurd (omega (arith, h))

pub above : (v : ℤ) (xs : List S9) (n sign : ℕ) → sign ≡ 0 → v ≡ pos (number_of xs) -ℤ pos (sign * 2 ^ length xs) →
    n ≡ number_of (map (beside sign) xs) → n < 2 ^ 31 → Some (pos n) ≡ integer_from false v
above v xs n sign none e is small =
    let same : v ≡ pos n = worth_above v xs (2 ^ length xs) (e ∙ ap (λ s. pos (number_of xs) -ℤ pos (s * 2 ^ length xs)) none)
    ∙ ap (λ s. pos (number_of (map (beside s) xs))) (sym none) ∙ ap pos (sym is) in
    sym (ap (integer_from false) same ∙ natural_within n small)

pub below : (v : ℤ) (xs : List S9) (n sign : ℕ) → sign ≡ 1 → v ≡ pos (number_of xs) -ℤ pos (sign * 2 ^ length xs) →
    n ≡ number_of (map (beside sign) xs) → n < 2 ^ 31 → Some (negsuc n) ≡ integer_from false v
below v xs n sign one e is small =
    let same : v ≡ negsuc n = worth_below v xs (e ∙ ap (λ s. pos (number_of xs) -ℤ pos (s * 2 ^ length xs)) one)
    ∙ ap (λ s. negsuc (number_of (map (beside s) xs))) (sym one) ∙ ap negsuc (sym is) in
    sym (ap (integer_from false) same ∙ negative_within n small)

bit_if : (b : Bool) → bit (if b then Zero else One) ≡ from_bool (not b)
bit_if false = refl
bit_if true = refl

-- one more element
pub number_beside : (xs : List S9) (k sign n x y : ℕ) (d : S9) → k < length xs → n ≡ number_of (take k (map (beside sign) xs)) → x ≡ bit (get_or xs k d) →
    y ≡ from_bool (not (nat_eq x sign)) → n * 2 + y ≡ number_of (take (k + 1) (map (beside sign) xs))
number_beside xs k sign n x y d lt is count e =
    let zs : List S9 = map (beside sign) xs in
    let within : k < length (map (beside sign) xs) = omega (arith, lt, length-map xs (beside sign)) in
    let last : bit (get_or (map (beside sign) xs) k d) ≡ y
    = ap bit (get_or-map (beside sign) xs k d d lt) ∙ bit_if (nat_eq (bit (get_or xs k d)) sign) ∙ ap (λ c. from_bool (not (nat_eq c sign))) (sym count) ∙ sym e in
    (λ i. is i * 2 + sym last i) ∙ sym (number_step zs k d within)
