-- Terminals as numbers, and sets of them as lists.
use Rattle.std.proofs.Common.{◌≡◌, ◌⊎◌, inl, inr, ℕ, ◌+◌, Bool, true, false, not, ◌||◌, ◌&&◌, nat_eq, List, [], ◌∷◌, ◌++◌, refl, sym, ap, ◌∙◌}
use Rattle.std.proofs.lemmas.Bool.{true≢false, false≢true, eqb-true, eq-eqb, and_parts, or_cases, not-true}
use Rattle.vv_grammar.specs.declared.terminal.Terminal.{Terminal}
use Rattle.vv_grammar.specs.declared.terminal.Terminal.TheVariants as the
use Rattle.vv_grammar.specs.Terminals.{same, contains}
use denote.Enum.Declared.{tag_of}
use Rattle.vv_vlex.specs.contracts.word.Word as w
use Rattle.vv_vlex.specs.contracts.sign.Sign as s

abbrev pub code : Terminal → ℕ
code the.Id = 0
code the.Int = 1
code the.Char = 2
code the.Str = 3
code the.BitStr = 4
code the.End = 5
code (the.Mark a) = 10 + tag_of s.the_type a
code (the.Key a) = 40 + tag_of w.the_type a

pub same-code : (a b : Terminal) → same a b ≡ true → code a ≡ code b
same-code the.Id the.Id h = refl
same-code the.Int the.Int h = refl
same-code the.Char the.Char h = refl
same-code the.Str the.Str h = refl
same-code the.BitStr the.BitStr h = refl
same-code the.End the.End h = refl
same-code (the.Key a) (the.Key b) h = ap (λ (n : ℕ). 40 + n) (eqb-true (tag_of w.the_type a) (tag_of w.the_type b) h)
same-code (the.Mark a) (the.Mark b) h = ap (λ (n : ℕ). 10 + n) (eqb-true (tag_of s.the_type a) (tag_of s.the_type b) h)
same-code _ _ h = absurd (false≢true h)

abbrev pub has : List ℕ → ℕ → Bool
has [] c = false
has (x ∷ xs) c = nat_eq x c || has xs c

abbrev pub within : List ℕ → List ℕ → Bool
within [] ys = true
within (x ∷ xs) ys = has ys x && within xs ys

abbrev pub apart : List ℕ → List ℕ → Bool
apart [] ys = true
apart (x ∷ xs) ys = not (has ys x) && apart xs ys

abbrev pub codes : List Terminal → List ℕ
codes [] = []
codes (t ∷ ts) = code t ∷ codes ts

or-left : (x y : Bool) → x ≡ true → (x || y) ≡ true
or-left true y h = refl
or-left false y h = absurd (false≢true h)

or-right : (x y : Bool) → y ≡ true → (x || y) ≡ true
or-right true y h = refl
or-right false y h = h

pub has-here : (x c : ℕ) (xs : List ℕ) → x ≡ c → has (x ∷ xs) c ≡ true
has-here x c xs h = or-left (nat_eq x c) (has xs c) (eq-eqb x c h)

pub has-there : (x c : ℕ) (xs : List ℕ) → has xs c ≡ true → has (x ∷ xs) c ≡ true
has-there x c xs h = or-right (nat_eq x c) (has xs c) h

pub has-left : (xs ys : List ℕ) (c : ℕ) → has xs c ≡ true → has (xs ++ ys) c ≡ true
has-left [] ys c h = absurd (false≢true h)
has-left (x ∷ xs) ys c h = elim (or_cases (nat_eq x c) (has xs c) h) [
  | inl a ↦ or-left (nat_eq x c) (has (xs ++ ys) c) a
  | inr b ↦ or-right (nat_eq x c) (has (xs ++ ys) c) (has-left xs ys c b)
]

pub has-right : (xs ys : List ℕ) (c : ℕ) → has ys c ≡ true → has (xs ++ ys) c ≡ true
has-right [] ys c h = h
has-right (x ∷ xs) ys c h = or-right (nat_eq x c) (has (xs ++ ys) c) (has-right xs ys c h)

pub has-cases : (xs ys : List ℕ) (c : ℕ) → has (xs ++ ys) c ≡ true → (has xs c ≡ true) ⊎ (has ys c ≡ true)
has-cases [] ys c h = inr h
has-cases (x ∷ xs) ys c h = elim (or_cases (nat_eq x c) (has (xs ++ ys) c) h) [
  | inl a ↦ inl (or-left (nat_eq x c) (has xs c) a)
  | inr b ↦ elim (has-cases xs ys c b) [
    | inl l ↦ inl (or-right (nat_eq x c) (has xs c) l)
    | inr r ↦ inr r
  ]
]

pub within-has : (xs ys : List ℕ) (c : ℕ) → within xs ys ≡ true → has xs c ≡ true → has ys c ≡ true
within-has [] ys c w h = absurd (false≢true h)
within-has (x ∷ xs) ys c w h = let both = and_parts (has ys x) (within xs ys) w in elim (or_cases (nat_eq x c) (has xs c) h) [
  | inl a ↦ ap (has ys) (sym (eqb-true x c a)) ∙ both.0
  | inr b ↦ within-has xs ys c both.1 b
]

pub apart-has : (xs ys : List ℕ) (c : ℕ) → apart xs ys ≡ true → has xs c ≡ true → has ys c ≡ true → ⊥
apart-has [] ys c w h k = false≢true h
apart-has (x ∷ xs) ys c w h k = let both = and_parts (not (has ys x)) (apart xs ys) w in elim (or_cases (nat_eq x c) (has xs c) h) [
  | inl a ↦ true≢false (sym k ∙ ap (has ys) (sym (eqb-true x c a)) ∙ not-true (has ys x) both.0)
  | inr b ↦ apart-has xs ys c both.1 b k
]

pub codes-has : (ts : List Terminal) (t : Terminal) → contains ts t ≡ true → has (codes ts) (code t) ≡ true
codes-has [] t h = absurd (false≢true h)
codes-has (s ∷ ts) t h = elim (or_cases (same s t) (contains ts t) h) [
  | inl a ↦ has-here (code s) (code t) (codes ts) (same-code s t a)
  | inr b ↦ has-there (code s) (code t) (codes ts) (codes-has ts t b)
]
