-- What operands count by their digits.
use Rattle.std.proofs.Common.{◌≡◌, ℕ, zero, suc, ◌+◌, ◌-◌, ◌*◌, ◌/◌, ◌%◌, ◌^◌, ◌<◌, ◌≤◌, List, [], ◌∷◌, ◌++◌, length, get_or, replicate, ℤ, pos, ◌-ℤ◌, ap, sym, ◌∙◌, arith, FitsSigned, of_z, w32, length-append}
use Rattle.std.proofs.lemmas.List.{length-replicate}
use Rattle.std.proofs.lemmas.Int.{ints}
use Rattle.std.proofs.Math.Nat.{pow-suc}
use Rattle.vv_bits.specs.declared.nine.S9.{S9}
use Rattle.vv_bits.specs.declared.nine.S9.TheVariants.{Zero}
use Rattle.vv_types.specs.Number.{bit, digit, number_of, signed_number_of, signed_vector_of, residue}
use Rattle.vv_types.proofs.Numbers.{vector_of_bits, length-vector_of}
use Rattle.vv_types.proofs.Signed.{number_of_zeros, signed_number_extended, signed_number_of_vector, reach_of_fit}
use Rattle.vv_vectors.proofs.Places.{get_or-vector_of}
use Rattle.vv_num_vectors.specs.Rows.{leftmost}

split_sign : (b p n q : ℕ) → q ≡ p * 2 → pos n -ℤ pos (b * p) ≡ pos (b * p + n) -ℤ pos (b * q)
split_sign b p n q e = rw e (omega (arith, ints))

signed_is_number : (x : S9) (xs : List S9) (n : ℕ) → n ≡ suc (length xs) →
    signed_number_of (x ∷ xs) ≡ pos (number_of (x ∷ xs)) -ℤ pos (bit x * 2 ^ n)
signed_is_number x xs n e =
    split_sign (bit x) (2 ^ length xs) (number_of xs) (2 ^ n) (ap (λ k. 2 ^ k) e ∙ pow-suc 2 (length xs))

extended_is_number : (m : ℕ) (x : S9) (xs : List S9) (n : ℕ) → n ≡ m + suc (length xs) →
    signed_number_of (replicate m x ++ x ∷ xs) ≡ pos (number_of (replicate m x ++ x ∷ xs)) -ℤ pos (bit x * 2 ^ n)
extended_is_number zero x xs n e = signed_is_number x xs n (omega (arith, e))
extended_is_number (suc m) x xs n e =
    signed_is_number x (replicate m x ++ x ∷ xs) n (omega (arith, e, length-append (replicate m x) (x ∷ xs), length-replicate m x))

-- a signed vector with its leftmost element repeated
pub signed_worth : (xs : List S9) (k n : ℕ) → length xs ≡ k → k ≤ n →
    signed_number_of xs ≡ pos (number_of (replicate (n - k) (leftmost xs) ++ xs)) -ℤ pos (bit (leftmost xs) * 2 ^ n)
signed_worth [] k n e h = omega (arith, ints, number_of_zeros (n - k) [])
signed_worth (x ∷ xs) k n e h =
    sym (signed_number_extended (n - k) x xs) ∙ extended_is_number (n - k) x xs n (omega (arith, e, h))

-- an unsigned vector with zeros before it
pub unsigned_worth : (xs : List S9) (k n : ℕ) →
    pos (number_of xs) ≡ pos (number_of (replicate (n - k) Zero ++ xs)) -ℤ pos (bit Zero * 2 ^ n)
unsigned_worth xs k n = omega (arith, ints, number_of_zeros (n - k) xs)

-- a number with its 32 digits
pub number_worth : (z : ℤ) (n : ℕ) → FitsSigned w32 z → 32 ≤ n →
    z ≡ pos (number_of (replicate (n - 32) (leftmost (signed_vector_of 32 z)) ++ signed_vector_of 32 z)) -ℤ pos (bit (leftmost (signed_vector_of 32 z)) * 2 ^ n)
number_worth z n fits h =
    sym (signed_number_of_vector 31 z (reach_of_fit z fits))
    ∙ signed_worth (signed_vector_of 32 z) 32 n (length-vector_of 32 (residue 32 z)) h

-- ---- one digit of a number

pub number_digit : (z : ℤ) (u k : ℕ) (x : S9) → FitsSigned w32 z → u ≡ of_z w32 z → k < 32 → x ≡ digit (u / 2 ^ (31 - k) % 2) →
    x ≡ get_or (signed_vector_of 32 z) k x
number_digit z u k x fits is lt e =
    e ∙ ap (λ n. digit (n / 2 ^ (31 - k) % 2)) is ∙ ap (λ j. digit (of_z w32 z / 2 ^ j % 2)) (omega (arith, lt))
    ∙ sym (get_or-vector_of 32 (of_z w32 z) k x lt) ∙ ap (λ xs. get_or xs k x) (vector_of_bits 32 z (omega arith) fits)
