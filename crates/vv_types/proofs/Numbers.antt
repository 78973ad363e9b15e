-- Laws of the numbers of vectors.
use Rattle.std.proofs.Common.{◌≡◌, ℕ, zero, suc, ◌+◌, ◌-◌, ◌*◌, ◌^◌, ◌<◌, ◌≤◌, List, [], ◌∷◌, ◌++◌, length, take, drop, get_or, add-one, refl, ap, sym, ◌∙◌, arith, append_assoc, length-append, length-drop, ◌/◌, ◌%◌, ◌≢◌, ◌⊎◌, inl, inr, false, nat_lt, nat_eq, ℤ, pos, negsuc, FitsSigned, of_z, w32}
use Rattle.std.proofs.lemmas.Bool.{lt-ltb, le-ltb, ne_eqb}
use Rattle.std.proofs.lemmas.List.{take-append-drop}
use Rattle.std.proofs.Math.Seq.{take-length}
use Rattle.std.proofs.Math.Seq.{take-suc}
use Rattle.std.proofs.Math.Pow.{pow_pos, pow_mono, mod-mod-pow}
use Rattle.std.proofs.Math.Nat.{pow-suc, mul-le-mul_left, mod-lt}
use Rattle.std.proofs.lemmas.Nat.{pow-add, mod-pow-add, shr_high, shr_below, shr_split, mod-mul-add, mod_low}
use Rattle.vv_bits.specs.declared.nine.S9.{S9}
use Rattle.vv_bits.specs.declared.nine.S9.TheVariants.{U, X, Zero, One, Z, W, L, H, Dash}
use Rattle.vv_types.specs.Number.{bit, digit, is_meta, has_meta, IsBinary, number_of, vector_of, signed_vector_of}
use Rattle.std.specs.List.{AllByRecursion}

pub bit_le : (x : S9) → bit x ≤ 1
bit_le U = omega arith
bit_le X = omega arith
bit_le Zero = omega arith
bit_le One = omega arith
bit_le Z = omega arith
bit_le W = omega arith
bit_le L = omega arith
bit_le H = omega arith
bit_le Dash = omega arith

append_at : (b p q n r t s : ℕ) → t ≡ p * q → r ≡ n * q + s → b * t + r ≡ (b * p + n) * q + s
append_at b p q n r t s e h = rw e (rw h (omega arith))

pub number_append : (xs ys : List S9) → number_of (xs ++ ys) ≡ number_of xs * 2 ^ length ys + number_of ys
number_append [] ys = omega arith
number_append (x ∷ xs) ys =
    append_at (bit x) (2 ^ length xs) (2 ^ length ys) (number_of xs) (number_of (xs ++ ys)) (2 ^ length (xs ++ ys)) (number_of ys)
    (ap (λ k. 2 ^ k) (length-append xs ys) ∙ pow-add 2 (length xs) (length ys)) (number_append xs ys)

bound_at : (b p n t : ℕ) → b ≤ 1 → n < p → t ≡ p * 2 → b * p + n < t
bound_at b p n t hb hn e = let h : p * b ≤ p * 1 = mul-le-mul_left p hb in omega arith

pub number_bound : (xs : List S9) → number_of xs < 2 ^ length xs
number_bound [] = omega arith
number_bound (x ∷ xs) = bound_at (bit x) (2 ^ length xs) (number_of xs) (2 ^ suc (length xs)) (bit_le x) (number_bound xs) (pow-suc 2 (length xs))

-- one more element
pub number_step : (xs : List S9) (i : ℕ) (d : S9) → i < length xs → number_of (take (i + 1) xs) ≡ number_of (take i xs) * 2 + bit (get_or xs i d)
number_step xs i d lt =
    ap number_of (ap (λ k. take k xs) (add-one i) ∙ take-suc xs i d lt) ∙ number_append (take i xs) (get_or xs i d ∷ []) ∙ omega arith

-- no front has a greater number
pub front_le : (xs : List S9) (i : ℕ) → number_of (take i xs) ≤ number_of xs
front_le xs i =
    let e : number_of xs ≡ number_of (take i xs) * 2 ^ length (drop i xs) + number_of (drop i xs)
    = ap number_of (sym (take-append-drop i xs)) ∙ number_append (take i xs) (drop i xs) in
    let p : 1 ≤ 2 ^ length (drop i xs) = pow_pos (length (drop i xs)) in
    let h = mul-le-mul_left (number_of (take i xs)) p in
    omega (arith, e, h)

-- a front decides
less_at : (p q m r s : ℕ) → p < q → r < m → p * m + r < q * m + s
less_at p q m r s pq rm = let h : m * suc p ≤ m * q = mul-le-mul_left m pq in omega arith

pub less_by_front : (xs ys : List S9) (i : ℕ) → length xs ≡ length ys → number_of (take i xs) < number_of (take i ys) → number_of xs < number_of ys
less_by_front xs ys i same lt =
    let ex : number_of xs ≡ number_of (take i xs) * 2 ^ length (drop i xs) + number_of (drop i xs)
    = ap number_of (sym (take-append-drop i xs)) ∙ number_append (take i xs) (drop i xs) in
    let ey : number_of ys ≡ number_of (take i ys) * 2 ^ length (drop i ys) + number_of (drop i ys)
    = ap number_of (sym (take-append-drop i ys)) ∙ number_append (take i ys) (drop i ys) in
    let el : length (drop i ys) ≡ length (drop i xs) = length-drop i ys ∙ sym (ap (λ n. n - i) same) ∙ sym (length-drop i xs) in
    let eq : number_of ys ≡ number_of (take i ys) * 2 ^ length (drop i xs) + number_of (drop i ys) = ey ∙ ap (λ n. number_of (take i ys) * 2 ^ n + number_of (drop i ys)) el in
    rw ex (rw eq (less_at _ _ _ _ _ lt (number_bound (drop i xs))))

-- what fits
pub number_fits : (xs : List S9) (i : ℕ) → length xs ≤ i → number_of xs < 2 ^ i
number_fits xs i h = let p : 2 ^ length xs ≤ 2 ^ i = pow_mono h in omega (arith, number_bound xs, p)

-- the last digits
pub vector_step : (k n : ℕ) → 0 < k → vector_of k n ≡ digit (n / 2 ^ (k - 1) % 2) ∷ vector_of (k - 1) n
vector_step zero n h = absurd (omega arith)
vector_step (suc k) n h = let e : suc k - 1 ≡ k = omega arith in rw e refl

-- a front of digits, and the digits that are left
pub vector_grown : (xs ys : List S9) (k n : ℕ) → 0 < k → xs ++ vector_of k n ≡ ys →
    (xs ++ digit (n / 2 ^ (k - 1) % 2) ∷ []) ++ vector_of (k - 1) n ≡ ys
vector_grown xs ys k n h e =
    append_assoc xs (digit (n / 2 ^ (k - 1) % 2) ∷ []) (vector_of (k - 1) n) ∙ ap (λ zs. xs ++ zs) (sym (vector_step k n h)) ∙ e

pub front_zero : (xs : List S9) (k : ℕ) → number_of (take k xs) ≡ 0 → number_of xs ≡ number_of (drop k xs)
front_zero xs k h =
    let e : number_of xs ≡ number_of (take k xs) * 2 ^ length (drop k xs) + number_of (drop k xs)
    = ap number_of (sym (take-append-drop k xs)) ∙ number_append (take k xs) (drop k xs) in
    rw e (rw h (omega arith))

pub front_big : (xs ys : List S9) (k : ℕ) → 1 ≤ number_of (take k xs) → length (drop k xs) ≡ length ys → number_of ys < number_of xs
front_big xs ys k h same =
    let e : number_of xs ≡ number_of (take k xs) * 2 ^ length (drop k xs) + number_of (drop k xs)
    = ap number_of (sym (take-append-drop k xs)) ∙ number_append (take k xs) (drop k xs) in
    let p : 2 ^ length (drop k xs) ≡ 2 ^ length ys = ap (λ n. 2 ^ n) same in
    let m : 2 ^ length (drop k xs) * 1 ≤ 2 ^ length (drop k xs) * number_of (take k xs) = mul-le-mul_left (2 ^ length (drop k xs)) h in
    omega (arith, e, p, m, number_bound ys)

order : (a b : ℕ) → a ≢ b → (a < b) ⊎ (b < a)
order a b ne = grind arith

-- which of two vectors of one length is less, by the first elements that differ
pub order_at : (xs ys : List S9) (i : ℕ) (d : S9) → length xs ≡ length ys → i < length xs →
    number_of (take i xs) ≡ number_of (take i ys) → bit (get_or xs i d) ≢ bit (get_or ys i d) →
    nat_lt (bit (get_or xs i d)) (bit (get_or ys i d)) ≡ nat_lt (number_of xs) (number_of ys)
order_at xs ys i d same lt e ne =
    let sx = number_step xs i d lt in
    let lty : i < length ys = omega (arith, same, lt) in
    let sy = number_step ys i d lty in
    elim (order (bit (get_or xs i d)) (bit (get_or ys i d)) ne) [
      | inl h ↦ lt-ltb _ _ h ∙ sym (lt-ltb _ _ (less_by_front xs ys (i + 1) same (omega (arith, sx, sy, e, h))))
      | inr h ↦ le-ltb _ _ (omega (arith, h)) ∙ sym (le-ltb _ _ (let k = less_by_front ys xs (i + 1) (sym same) (omega (arith, sx, sy, e, h)) in omega (arith, k)))
    ]

pub not_zero : (n : ℕ) → 1 ≤ n → false ≡ nat_eq n 0
not_zero n h = sym (ne_eqb n 0 (λ e. omega (arith, h, e)))

-- a digit below a modulus
pub digit_mod : (n j k : ℕ) → n % 2 ^ (suc j + k) / 2 ^ k % 2 ≡ n / 2 ^ k % 2
digit_mod n j k =
    let lt : n % 2 ^ k < 2 ^ k = mod-lt n (pow_pos k) in
    ap (λ x. x / 2 ^ k % 2) (mod-pow-add n (suc j) k)
    ∙ ap (λ x. x % 2) (shr_high (n / 2 ^ k % 2 ^ suc j) k (n % 2 ^ k) lt)
    ∙ ap (λ x. n / 2 ^ k % 2 ^ x % 2) (sym (add-one j))
    ∙ mod-mod-pow (n / 2 ^ k) j 1

pub vector_mod : (k n w : ℕ) → k ≤ w → vector_of k (n % 2 ^ w) ≡ vector_of k n
vector_mod zero n w h = refl
vector_mod (suc k) n w h =
    let e : w ≡ suc (w - suc k) + k = omega (arith, h) in
    let d : n % 2 ^ w / 2 ^ k % 2 ≡ n / 2 ^ k % 2 = ap (λ x. n % 2 ^ x / 2 ^ k % 2) e ∙ digit_mod n (w - suc k) k in
    λ i. digit (d i) ∷ vector_mod k n w (omega (arith, h)) i

-- the rest of a vector whose front is 0
pub tail_number : (xs : List S9) (k : ℕ) → number_of (take k xs) ≡ 0 → number_of (take (length xs - k) (drop k xs)) ≡ number_of xs
tail_number xs k h =
    ap (λ n. number_of (take n (drop k xs))) (sym (length-drop k xs)) ∙ ap number_of (take-length (drop k xs)) ∙ sym (front_zero xs k h)

-- ---- two's complement

expanded : (m q p j : ℕ) → j ≡ m + q + 1 → j * p ≡ m * p + q * p + p
expanded m q p j e = rw e (omega arith)

borrowed : (m q p r n t : ℕ) → t ≡ m * p + q * p + p → q * p + r ≡ n → r < p → t - suc n ≡ m * p + (p - 1 - r)
borrowed m q p r n t e s h = omega (arith, e, s, h)

-- what is left of a number below 0, written by its distance from a higher power
pub complement_mod : (n j k : ℕ) → n < 2 ^ (j + k) → (2 ^ (j + k) - suc n) % 2 ^ k ≡ 2 ^ k - 1 - n % 2 ^ k
complement_mod n j k h =
    let p : ℕ = 2 ^ k in
    let q : ℕ = n / 2 ^ k in
    let below : n % 2 ^ k < 2 ^ k = mod-lt n (pow_pos k) in
    let high : n / 2 ^ k < 2 ^ j = shr_below n j k h in
    let m : ℕ = 2 ^ j - 1 - n / 2 ^ k in
    let j_is : 2 ^ j ≡ m + n / 2 ^ k + 1 = omega (arith, high) in
    let whole : 2 ^ (j + k) ≡ m * 2 ^ k + n / 2 ^ k * 2 ^ k + 2 ^ k = pow-add 2 j k ∙ expanded m (n / 2 ^ k) (2 ^ k) (2 ^ j) j_is in
    let e : 2 ^ (j + k) - suc n ≡ m * 2 ^ k + (2 ^ k - 1 - n % 2 ^ k)
    = borrowed m (n / 2 ^ k) (2 ^ k) (n % 2 ^ k) n (2 ^ (j + k)) whole (shr_split n k) below in
    ap (λ x. x % 2 ^ k) e ∙ mod-mul-add m (2 ^ k) (2 ^ k - 1 - n % 2 ^ k) (omega (arith, below))

-- the last digits of a number's 32 bits
pub vector_of_bits : (k : ℕ) (z : ℤ) → k ≤ 32 → FitsSigned w32 z → vector_of k (of_z w32 z) ≡ signed_vector_of k z
vector_of_bits k (pos n) h fits = sym (vector_mod k n k (omega arith))
vector_of_bits k (negsuc n) h fits =
    let e : 32 - k + k ≡ 32 = omega (arith, h) in
    let t : 2 ^ (32 - k + k) ≡ 2 ^ 32 = ap (λ i. 2 ^ i) e in
    let below : n < 2 ^ (32 - k + k) = omega (arith, fits.sfits, t) in
    sym (vector_mod k (2 ^ 32 - suc n) k (omega arith))
    ∙ ap (vector_of k) (ap (λ i. (i - suc n) % 2 ^ k) (sym t) ∙ complement_mod n (32 - k) k below)

-- ---- vectors of numbers

pub length-vector_of : (k n : ℕ) → length (vector_of k n) ≡ k
length-vector_of zero n = refl
length-vector_of (suc k) n = ap suc (length-vector_of k n)

pub bit_digit : (d : ℕ) → d < 2 → bit (digit d) ≡ d
bit_digit zero h = refl
bit_digit (suc d) h = omega (arith, h)

digit_bit : (x : S9) → IsBinary x → digit (bit x) ≡ x
digit_bit Zero h = refl
digit_bit One h = refl
digit_bit U h = absurd h
digit_bit X h = absurd h
digit_bit Z h = absurd h
digit_bit W h = absurd h
digit_bit L h = absurd h
digit_bit H h = absurd h
digit_bit Dash h = absurd h

-- a number's last digits, read as a number
pub number_of_vector : (k n : ℕ) → number_of (vector_of k n) ≡ n % 2 ^ k
number_of_vector zero n = let h : n % 1 < 1 = mod-lt n (omega arith) in omega (arith, h)
number_of_vector (suc k) n =
    let low : n / 2 ^ k % 2 < 2 = mod-lt (n / 2 ^ k) (omega arith) in
    let split : n % 2 ^ (1 + k) ≡ n / 2 ^ k % 2 ^ 1 * 2 ^ k + n % 2 ^ k = mod-pow-add n 1 k in
    let e : 1 + k ≡ suc k = omega arith in
    (λ i. bit_digit (n / 2 ^ k % 2) low i * 2 ^ length-vector_of k n i + number_of_vector k n i)
    ∙ sym split ∙ ap (λ w. n % 2 ^ w) e

-- a vector of 0 and 1 is that of its number
pub vector_of_number : (xs : List S9) → AllByRecursion IsBinary xs → vector_of (length xs) (number_of xs) ≡ xs
vector_of_number [] all = refl
vector_of_number (x ∷ xs) all =
    let k : ℕ = length xs in
    let n : ℕ = number_of xs in
    let high : (bit x * 2 ^ length xs + number_of xs) / 2 ^ length xs ≡ bit x = shr_high (bit x) (length xs) (number_of xs) (number_bound xs) in
    let one : bit x % 2 ≡ bit x = omega (arith, bit_le x) in
    let low : (bit x * 2 ^ length xs + number_of xs) % 2 ^ length xs ≡ number_of xs = mod_low (bit x) (length xs) (number_of xs) (number_bound xs) in
    let first : digit ((bit x * 2 ^ length xs + number_of xs) / 2 ^ length xs % 2) ≡ x
    = ap (λ d. digit (d % 2)) high ∙ ap digit one ∙ digit_bit x all.0 in
    let rest : vector_of (length xs) (bit x * 2 ^ length xs + number_of xs) ≡ xs
    = sym (vector_mod (length xs) (bit x * 2 ^ length xs + number_of xs) (length xs) (omega arith))
    ∙ ap (vector_of (length xs)) low ∙ vector_of_number xs all.1 in
    λ i. first i ∷ rest i

pub all_binary_vector : (k n : ℕ) → AllByRecursion IsBinary (vector_of k n)
all_binary_vector zero n = tt
all_binary_vector (suc k) n = (binary_digit (n / 2 ^ k % 2), all_binary_vector k n)
  where
    binary_digit : (d : ℕ) → IsBinary (digit d)
    binary_digit zero = tt
    binary_digit (suc d) = tt

not_meta : (x : S9) → IsBinary x → is_meta x ≡ false
not_meta Zero h = refl
not_meta One h = refl
not_meta U h = absurd h
not_meta X h = absurd h
not_meta Z h = absurd h
not_meta W h = absurd h
not_meta L h = absurd h
not_meta H h = absurd h
not_meta Dash h = absurd h

pub binary_has_no_meta : (xs : List S9) → AllByRecursion IsBinary xs → has_meta xs ≡ false
binary_has_no_meta [] all = refl
binary_has_no_meta (x ∷ xs) all = rw (not_meta x all.0) (binary_has_no_meta xs all.1)
