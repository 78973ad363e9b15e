-- A number in base 3, whose digits are those of the items in their order.
use Rattle.std.proofs.Common.{◌≡◌, ◌≢◌, ℕ, ◌+◌, ◌*◌, ◌<◌, ◌≤◌, ◌^◌, nat_eq, Bool, true, false, ◌||◌, List, [], ◌∷◌, length, ◌⊎◌, inl, inr, ⊎_elim, refl, sym, subst, arith, true≢false, mul-le-mul_right, pow-suc, eqb-true}
use Rattle.vv_events.specs.Items.{has}

pub phi : (ℕ → ℕ) → List ℕ → ℕ
phi d [] = 0
phi d (i ∷ rest) = d i * 3 ^ length rest + phi d rest

-- e is below d at the first place where they differ
abbrev pub Falls : (ℕ → ℕ) → (ℕ → ℕ) → List ℕ → Type 0
Falls d e [] = ⊥
Falls d e (i ∷ rest) = (e i < d i) ⊎ ((e i ≡ d i) × Falls d e rest)

abbrev pub Apart : (ℕ → ℕ → Type 0) → List ℕ → Type 0
Apart R [] = Unit {0}
Apart R (j ∷ rest) = ((i : ℕ) → has (j ∷ rest) i ≡ true → R i j → ⊥) × Apart R rest

pub phi_bound : (d : ℕ → ℕ) → ((i : ℕ) → d i ≤ 2) → (order : List ℕ) → phi d order < 3 ^ length order
unfolding phi
phi_bound d h [] = omega arith
phi_bound d h (i ∷ rest) =
    let a : d i * 3 ^ length rest ≤ 2 * 3 ^ length rest = mul-le-mul_right (3 ^ length rest) (h i) in
    let b : phi d rest < 3 ^ length rest = phi_bound d h rest in
    rw pow-suc (omega arith)

pub phi_falls : (d e : ℕ → ℕ) → ((i : ℕ) → e i ≤ 2) → (order : List ℕ) → Falls d e order → phi e order < phi d order
unfolding phi
phi_falls d e h [] f = absurd f
phi_falls d e h (i ∷ rest) (inl lt) =
    let a : (e i + 1) * 3 ^ length rest ≤ d i * 3 ^ length rest = mul-le-mul_right (3 ^ length rest) (omega arith) in
    let b : phi e rest < 3 ^ length rest = phi_bound e h rest in
    omega arith
phi_falls d e h (i ∷ rest) (inr p) =
    let b : phi e rest < phi d rest = phi_falls d e h rest p.1 in
    let q : e i ≡ d i = p.0 in
    rw q (omega arith)

pub or_cases : (a b : Bool) → (a || b) ≡ true → (a ≡ true) ⊎ (b ≡ true)
or_cases true b h = inl refl
or_cases false b h = inr h

three : (a b : ℕ) → (a < b) ⊎ ((a ≡ b) ⊎ (b < a))
three a b = grind arith

pub falls_first : (R : ℕ → ℕ → Type 0) (Acted : ℕ → Type 0) (d e : ℕ → ℕ) → ((i : ℕ) → Acted i → e i ≢ d i) → ((j : ℕ) → d j < e j → (i : ℕ) × Acted i × R i j) → (order : List ℕ) → Apart R order → ((i : ℕ) → Acted i → has order i ≡ true) → (k : ℕ) → Acted k → Falls d e order
falls_first R Acted d e moves rises [] o within k a = absurd (true≢false (sym (within k a)))
falls_first R Acted d e moves rises (j ∷ rest) o within k a =
    ⊎_elim (λ lt. inl lt) (λ m.
    ⊎_elim (λ eq. inr (eq, falls_first R Acted d e moves rises rest o.1 (rest_within eq) k a)) (λ gt. let w = rises j gt in absurd (o.0 w.0 (within w.0 w.1) w.2)) m)
    (three (e j) (d j))
  where
    rest_within : e j ≡ d j → (i : ℕ) → Acted i → has rest i ≡ true
    rest_within eq i ai =
        ⊎_elim (λ t. absurd (moves i ai (subst (λ x. e x ≡ d x) (eqb-true j i t) eq))) (λ t. t) (or_cases (nat_eq j i) (has rest i) (within i ai))
