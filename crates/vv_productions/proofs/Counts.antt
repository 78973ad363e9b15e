-- How often something too deep starts at a token.
use Rattle.std.proofs.Common.{◌≡◌, ◌⊎◌, inl, inr, ℕ, ◌+◌, ◌-◌, ◌<◌, ◌≤◌, nat_eq, nat_lt, Bool, true, false, ◌&&◌, if◌then◌else◌, List, [], ◌∷◌, ◌++◌, refl, sym, ap, ◌∙◌, arith}
use Rattle.std.proofs.lemmas.Bool.{and_parts, and_from, eqb-true, eq-eqb, ltb-true, ltb-false}
use Rattle.vv_grammar_laws.specs.Depths as table
use Rattle.vv_machine.specs.Machine.{one_more}
use Rattle.vv_productions.specs.Depths.{Opening, IsTooDeepAt}
use Rattle.vv_productions.proofs.Items.{one_if}
use Rattle.vv_productions.proofs.Traces.{End}

-- one level too deep, at this token
abbrev pub hit : ℕ → ℕ → ℕ → ℕ
hit n at depth = one_if (nat_eq at n && nat_eq depth 129)

-- among what starts by the productions
abbrev pub count : ℕ → List Opening → ℕ
count n [] = 0
count n (o ∷ os) = hit n o.at o.depth + count n os

-- among what starts by the table
abbrev pub table_count : ℕ → List table.Opening → ℕ
table_count n [] = 0
table_count n (o ∷ os) = hit n o.at o.depth + table_count n os

-- among what ended, where all are so many tokens
abbrev pub ends_count : ℕ → ℕ → List End → ℕ
ends_count n T [] = 0
ends_count n T (o ∷ os) = hit n (T - o.left) o.depth + ends_count n T os

pub count-append : (n : ℕ) (xs ys : List Opening) → count n (xs ++ ys) ≡ count n xs + count n ys
count-append n [] ys = omega arith
count-append n (x ∷ xs) ys = let h = count-append n xs ys in omega (arith, h)

pub table-append : (n : ℕ) (xs ys : List table.Opening) → table_count n (xs ++ ys) ≡ table_count n xs + table_count n ys
table-append n [] ys = omega arith
table-append n (x ∷ xs) ys = let h = table-append n xs ys in omega (arith, h)

hit-from : (n at depth : ℕ) → at ≡ n → depth ≡ 129 → hit n at depth ≡ 1
hit-from n at depth h k = ap one_if (and_from (nat_eq at n) (nat_eq depth 129) (eq-eqb at n h) (eq-eqb depth 129 k))

abbrev Either : ℕ → ℕ → ℕ → Type 0
Either n at depth = ((at ≡ n) × (depth ≡ 129)) ⊎ (hit n at depth ≡ 0)

hit-to : (n at depth : ℕ) → Either n at depth
hit-to n at depth = go (nat_eq at n && nat_eq depth 129) refl
  where
    go : (b : Bool) → (nat_eq at n && nat_eq depth 129) ≡ b → Either n at depth
    go true k = let x = and_parts (nat_eq at n) (nat_eq depth 129) k in inl (eqb-true at n x.0, eqb-true depth 129 x.1)
    go false k = inr (ap one_if k)

pub from-deep : (n : ℕ) (os : List Opening) → IsTooDeepAt n os → 0 < count n os
from-deep n [] h = absurd h
from-deep n (o ∷ os) h = elim h [
  | inl x ↦ let k = hit-from n o.at o.depth x.0 x.1 in omega (arith, k)
  | inr y ↦ let r = from-deep n os y in omega (arith, r)
]

pub to-deep : (n : ℕ) (os : List Opening) → 0 < count n os → IsTooDeepAt n os
to-deep n [] h = absurd (omega (arith, h))
to-deep n (o ∷ os) h = elim (hit-to n o.at o.depth) [
  | inl k ↦ inl k
  | inr k ↦ inr (to-deep n os (omega (arith, h, k)))
]

pub from-table : (n : ℕ) (os : List table.Opening) → table.IsTooDeepAt n os → 0 < table_count n os
from-table n [] h = absurd h
from-table n (o ∷ os) h = elim h [
  | inl x ↦ let k = hit-from n o.at o.depth x.0 x.1 in omega (arith, k)
  | inr y ↦ let r = from-table n os y in omega (arith, r)
]

pub to-table : (n : ℕ) (os : List table.Opening) → 0 < table_count n os → table.IsTooDeepAt n os
to-table n [] h = absurd (omega (arith, h))
to-table n (o ∷ os) h = elim (hit-to n o.at o.depth) [
  | inl k ↦ inl k
  | inr k ↦ inr (to-table n os (omega (arith, h, k)))
]

-- The table counts no further than to the first level that is too deep.
abbrev pub capped : ℕ → ℕ
capped n = if nat_lt 128 n then 129 else n

pub capped-more : (n : ℕ) → one_more (capped n) ≡ capped (n + 1)
capped-more n = go (nat_lt 128 n) refl
  where
    over : (m : ℕ) → 128 < m → capped m ≡ 129
    over m h = pick (nat_lt 128 m) refl
      where
        pick : (b : Bool) → nat_lt 128 m ≡ b → (if b then 129 else m) ≡ 129
        pick true k = refl
        pick false k = absurd (let l : m ≤ 128 = ltb-false 128 m k in omega (arith, h, l))

    under : (m : ℕ) → m ≤ 129 → capped m ≡ m
    under m h = pick (nat_lt 128 m) refl
      where
        pick : (b : Bool) → nat_lt 128 m ≡ b → (if b then 129 else m) ≡ m
        pick true k = let l : 128 < m = ltb-true 128 m k in omega (arith, h, l)
        pick false k = refl

    go : (b : Bool) → nat_lt 128 n ≡ b → one_more (capped n) ≡ capped (n + 1)
    go true k = let l : 128 < n = ltb-true 128 n k in ap one_more (over n l) ∙ sym (over (n + 1) (omega (arith, l)))
    go false k =
        let l : n ≤ 128 = ltb-false 128 n k in
        ap one_more (under n (omega (arith, l))) ∙ ap (λ (b : Bool). if b then n else n + 1) k ∙ sym (under (n + 1) (omega (arith, l)))

-- so what is just too deep is the same
pub hit-capped : (n at r : ℕ) → hit n at (capped r + 1) ≡ hit n at (r + 1)
hit-capped n at r = go (nat_lt 128 r) refl
  where
    no-hit : (d : ℕ) → (d ≡ 129 → ⊥) → hit n at d ≡ 0
    no-hit d x = elim (hit-to n at d) [
      | inl k ↦ absurd (x k.1)
      | inr k ↦ k
    ]

    go : (b : Bool) → nat_lt 128 r ≡ b → hit n at ((if b then 129 else r) + 1) ≡ hit n at (r + 1)
    go true k = let l : 128 < r = ltb-true 128 r k in no-hit 130 (λ i. omega (arith, i)) ∙ sym (no-hit (r + 1) (λ i. omega (arith, i, l)))
    go false k = refl
