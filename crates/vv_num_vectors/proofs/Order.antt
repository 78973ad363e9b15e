-- The order of numbers by their digits.
use Rattle.std.proofs.Common.{◌≡◌, ◌≢◌, ◌⊎◌, inl, inr, ℕ, zero, suc, ◌+◌, ◌*◌, ◌<◌, List, length, take, get_or, ℤ, pos, ◌-ℤ◌, ◌<ℤ◌, refl, ap, sym, ◌∙◌, arith, true, false}
use Rattle.std.proofs.lemmas.Bool.{lt-ltb, le-ltb, ne_eqb, eq-eqb}
use Rattle.std.proofs.lemmas.Int.{ints}
use Rattle.std.specs.Ordering.{nat_cmp, int_cmp}
use Rattle.std.proofs.Common.{Less, Equal, Greater}
use Rattle.std.specs.Prelude.{int_lt}
use Rattle.vv_bits.specs.declared.nine.S9.{S9}
use Rattle.vv_types.specs.Number.{bit, number_of}
use Rattle.vv_types.proofs.Numbers.{number_step, less_by_front}

order : (a b : ℕ) → a ≢ b → (a < b) ⊎ (b < a)
order a b ne = grind arith

nat_cmp_less : (a b : ℕ) → a < b → nat_cmp a b ≡ Less
nat_cmp_less a b h = rw (lt-ltb a b h) refl

nat_cmp_greater : (a b : ℕ) → b < a → nat_cmp a b ≡ Greater
nat_cmp_greater a b h = rw (le-ltb a b (omega arith), ne_eqb a b (λ e. omega arith)) refl

pub nat_cmp_same : (a b : ℕ) → a ≡ b → nat_cmp a b ≡ Equal
nat_cmp_same a b h = rw (le-ltb a b (omega arith), eq-eqb a b h) refl

-- which of two vectors of one length has the lesser number, by the first elements that differ
pub compared_at : (xs ys : List S9) (i : ℕ) (d : S9) → length xs ≡ length ys → i < length xs →
    number_of (take i xs) ≡ number_of (take i ys) → bit (get_or xs i d) ≢ bit (get_or ys i d) →
    nat_cmp (bit (get_or xs i d)) (bit (get_or ys i d)) ≡ nat_cmp (number_of xs) (number_of ys)
compared_at xs ys i d same lt e ne =
    let sx = number_step xs i d lt in
    let lty : i < length ys = omega arith in
    let sy = number_step ys i d lty in
    elim (order (bit (get_or xs i d)) (bit (get_or ys i d)) ne) [
      | inl h ↦ nat_cmp_less _ _ h ∙ sym (nat_cmp_less _ _ (less_by_front xs ys (i + 1) same (omega (arith, sx, sy, e, h))))
      | inr h ↦ nat_cmp_greater _ _ h ∙ sym (nat_cmp_greater _ _ (less_by_front ys xs (i + 1) (sym same) (omega (arith, sx, sy, e, h))))
    ]

int_cmp_less : (x y : ℤ) → x <ℤ y → int_cmp x y ≡ Less
int_cmp_less x y h = let e : int_lt x y ≡ true = grind (arith, ints) in rw e refl

int_cmp_greater : (x y : ℤ) → y <ℤ x → int_cmp x y ≡ Greater
int_cmp_greater x y h =
    let e : int_lt x y ≡ false = grind (arith, ints) in
    let f : int_lt y x ≡ true = grind (arith, ints) in
    rw (e, f) refl

int_cmp_same : (x y : ℤ) → x ≡ y → int_cmp x y ≡ Equal
int_cmp_same x y h =
    let e : int_lt x y ≡ false = grind (arith, ints) in
    let f : int_lt y x ≡ false = grind (arith, ints) in
    rw (e, f) refl

data Rank (a b : ℕ) : Type 0 where
  below : a < b → Rank a b
  same : a ≡ b → Rank a b
  above : b < a → Rank a b

rank : (a b : ℕ) → Rank a b
rank zero zero = same refl
rank zero (suc b) = below (omega arith)
rank (suc a) zero = above (omega arith)
rank (suc a) (suc b) = elim (rank a b) [
  | below h ↦ below (omega (arith, h))
  | same h ↦ same (omega (arith, h))
  | above h ↦ above (omega (arith, h))
]

-- the same taken off two numbers keeps their order
pub compared_below : (m n s : ℕ) → nat_cmp m n ≡ int_cmp (pos m -ℤ pos s) (pos n -ℤ pos s)
compared_below m n s =
    let x : ℤ = pos m -ℤ pos s in
    let y : ℤ = pos n -ℤ pos s in
    elim (rank m n) [
      | below h ↦ nat_cmp_less m n h ∙ sym (int_cmp_less (pos m -ℤ pos s) (pos n -ℤ pos s) (omega (arith, ints, h)))
      | same h ↦ nat_cmp_same m n h ∙ sym (int_cmp_same (pos m -ℤ pos s) (pos n -ℤ pos s) (omega (arith, ints, h)))
      | above h ↦ nat_cmp_greater m n h ∙ sym (int_cmp_greater (pos m -ℤ pos s) (pos n -ℤ pos s) (omega (arith, ints, h)))
    ]

-- numbers whose signs differ: the one with the sign is less
pub compared_by_sign : (b c m n p : ℕ) → b ≢ c → b < 2 → c < 2 → m < p → n < p →
    nat_cmp c b ≡ int_cmp (pos m -ℤ pos (b * p)) (pos n -ℤ pos (c * p))
compared_by_sign zero zero m n p ne hb hc hm hn = absurd (ne refl)
compared_by_sign zero (suc zero) m n p ne hb hc hm hn =
    nat_cmp_greater 1 0 (omega arith) ∙ sym (int_cmp_greater (pos m -ℤ pos (0 * p)) (pos n -ℤ pos (1 * p)) (omega (arith, ints)))
compared_by_sign (suc zero) zero m n p ne hb hc hm hn =
    nat_cmp_less 0 1 (omega arith) ∙ sym (int_cmp_less (pos m -ℤ pos (1 * p)) (pos n -ℤ pos (0 * p)) (omega (arith, ints)))
compared_by_sign (suc zero) (suc zero) m n p ne hb hc hm hn = absurd (ne refl)
compared_by_sign (suc (suc b)) c m n p ne hb hc hm hn = absurd (omega arith)
compared_by_sign zero (suc (suc c)) m n p ne hb hc hm hn = absurd (omega arith)
compared_by_sign (suc zero) (suc (suc c)) m n p ne hb hc hm hn = absurd (omega arith)

-- the order of two values whose signs count the same
pub compared_same : (m n s t : ℕ) (v w : ℤ) → s ≡ t → v ≡ pos m -ℤ pos s → w ≡ pos n -ℤ pos t → nat_cmp m n ≡ int_cmp v w
compared_same m n s t v w e a b =
    compared_below m n s ∙ (λ i. int_cmp (sym a i) ((ap (λ r. pos n -ℤ pos r) e ∙ sym b) i))
