-- A mark is the first of all that is too deep among what has started.
use Rattle.std.proofs.Common.{◌≡◌, ◌⊎◌, inl, inr, ℕ, nat_eq, nat_lt, ◌+◌, ◌<◌, ◌≤◌, Bool, true, false, if◌then◌else◌, List, [], ◌∷◌, ◌++◌, Option, Some, None, refl, sym, ◌∙◌, subst, arith}
use Rattle.std.proofs.lemmas.Bool.{true≢false, eqb-true, eq-eqb, ltb-true, ltb-false}
use Rattle.std.proofs.lemmas.List.{append-nil}
use Rattle.vv_machine.specs.declared.stack.Pending.{Pending}
use Rattle.vv_grammar.specs.declared.step.Level.{Level}
use Rattle.vv_grammar.specs.declared.step.Level.TheVariants as level
use Rattle.vv_machine.specs.Machine.{marked_if, marked}
use Rattle.vv_grammar_laws.specs.Depths.{Opening, opening, too_deep, IsTooDeepAt}

-- nothing among these is too deep, or this is the first that is
abbrev pub AreMarked : Option ℕ → List Opening → Type 0
AreMarked None os = (k : ℕ) → IsTooDeepAt k os → ⊥
AreMarked (Some n) os = IsTooDeepAt n os × ((k : ℕ) → IsTooDeepAt k os → n ≤ k)

pub deep-left : (n : ℕ) (xs ys : List Opening) → IsTooDeepAt n xs → IsTooDeepAt n (xs ++ ys)
deep-left n [] ys h = absurd h
deep-left n (x ∷ xs) ys h = elim h [
  | inl a ↦ inl a
  | inr b ↦ inr (deep-left n xs ys b)
]

pub deep-right : (n : ℕ) (xs ys : List Opening) → IsTooDeepAt n ys → IsTooDeepAt n (xs ++ ys)
deep-right n [] ys h = h
deep-right n (x ∷ xs) ys h = inr (deep-right n xs ys h)

pub deep-either : (n : ℕ) (xs ys : List Opening) → IsTooDeepAt n (xs ++ ys) → IsTooDeepAt n xs ⊎ IsTooDeepAt n ys
deep-either n [] ys h = inr h
deep-either n (x ∷ xs) ys h = elim h [
  | inl a ↦ inl (inl a)
  | inr b ↦ elim (deep-either n xs ys b) [
    | inl i ↦ inl (inr i)
    | inr i ↦ inr i
  ]
]

-- one more that starts
one-more : (b : Bool) (m : Option ℕ) (x : Opening) (os : List Opening) → (b ≡ true → x.depth ≡ too_deep) → (b ≡ false → x.depth ≡ too_deep → ⊥)
    → AreMarked m os → AreMarked (marked_if b x.at m) (os ++ (x ∷ []))
one-more false None x os y n h = λ k d. elim (deep-either k os (x ∷ []) d) [
  | inl i ↦ h k i
  | inr i ↦ elim i [
    | inl j ↦ n refl j.1
    | inr j ↦ j
  ]
]
one-more false (Some p) x os y n h = (
  deep-left p os (x ∷ []) h.0,
  λ k d. elim (deep-either k os (x ∷ []) d) [
    | inl i ↦ h.1 k i
    | inr i ↦ elim i [
      | inl j ↦ absurd (n refl j.1)
      | inr j ↦ absurd j
    ]
  ],
)
one-more true None x os y n h = (
  deep-right x.at os (x ∷ []) (inl (refl, y refl)),
  λ k d. elim (deep-either k os (x ∷ []) d) [
    | inl i ↦ absurd (h k i)
    | inr i ↦ elim i [
      | inl j ↦ let s : x.at ≡ k = j.0 in omega (arith, s)
      | inr j ↦ absurd j
    ]
  ],
)
one-more true (Some p) x os y n h = go (nat_lt p x.at) refl
  where
    go : (c : Bool) → nat_lt p x.at ≡ c → AreMarked (Some (if c then p else x.at)) (os ++ (x ∷ []))
    go true l = (
      deep-left p os (x ∷ []) h.0,
      λ k d. elim (deep-either k os (x ∷ []) d) [
        | inl i ↦ h.1 k i
        | inr i ↦ elim i [
          | inl j ↦ let s : x.at ≡ k = j.0 in let t : p < x.at = ltb-true p x.at l in omega (arith, s, t)
          | inr j ↦ absurd j
        ]
      ],
    )
    go false l = (
      deep-right x.at os (x ∷ []) (inl (refl, y refl)),
      λ k d. elim (deep-either k os (x ∷ []) d) [
        | inl i ↦ let s : p ≤ k = h.1 k i in let t : x.at ≤ p = ltb-false p x.at l in omega (arith, s, t)
        | inr i ↦ elim i [
          | inl j ↦ let s : x.at ≡ k = j.0 in omega (arith, s)
          | inr j ↦ absurd j
        ]
      ],
    )

-- by how many of its kind are round it
counted : (count start : ℕ) (m : Option ℕ) (os : List Opening) → AreMarked m os
    → AreMarked (marked_if (nat_eq count 128) start m) (os ++ (record { at = start; depth = count + 1 } ∷ []))
counted count start m os h =
    one-more (nat_eq count 128) m (record { at = start; depth = count + 1 }) os
    (λ y. let s : count ≡ 128 = eqb-true count 128 y in omega (arith, s))
    (λ n d. let s : count + 1 ≡ 129 = d in true≢false (sym (eq-eqb count 128 (omega (arith, s))) ∙ n)) h

-- nothing more that starts
pub marks-nothing : (m : Option ℕ) (os : List Opening) → AreMarked m os → AreMarked m (os ++ [])
marks-nothing m os h = subst (AreMarked m) (sym (append-nil os)) h

-- the mark behind what starts at a place
pub marks-on : (l : Level) (o : Pending) (at : ℕ) (m : Option ℕ) (os : List Opening) → AreMarked m os → AreMarked (marked l o at m) (os ++ opening l o at)
marks-on level.Same o at m os h = marks-nothing m os h
marks-on level.Expression o at m os h = counted o.expressions at m os h
marks-on level.ExpressionBehind o at m os h = counted o.expressions o.began m os h
marks-on level.Statement o at m os h = counted o.statements at m os h
marks-on level.StatementBehind o at m os h = counted o.statements o.began m os h
