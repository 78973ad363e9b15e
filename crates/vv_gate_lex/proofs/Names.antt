-- The texts that are names: what a tail of a name is, byte by byte.
use Rattle.std.proofs.Common.{◌≡◌, ◌≢◌, ℕ, suc, ◌≤◌, Bool, true, false, if◌then◌else◌, ◌&&◌, ◌||◌, List, [], ◌∷◌, ◌++◌, length, take, All, refl, ap, ◌∙◌, subst, arith}
use Rattle.std.proofs.lemmas.Bool.{eqb-true}
use Rattle.std.proofs.lemmas.List.Elements.{All-nil, All-cons, All-head, All-tail}
use Rattle.vv_gate.specs.Whole.{is_letter, is_digit, is_underscore, is_name_byte}
use Rattle.vv_gate_lex.specs.Lexical.{is_alphanumeric, begins, name_tail}
use Rattle.vv_gate_lex.specs.Cut.{IsNameText}
use Rattle.vv_gate_lex.proofs.Tokens.{name_byte}

-- letters, digits, and underscores that a letter or a digit follows
abbrev pub Tail : List ℕ → Type 0
Tail [] = Unit {0}
Tail (b ∷ more) = ((is_alphanumeric b || (is_underscore b && begins is_alphanumeric more)) ≡ true) × Tail more

abbrev pub Word : List ℕ → Type 0
Word [] = ⊥
Word (b ∷ more) = (is_letter b ≡ true) × Tail more

tail_single : (front more : List ℕ) → Tail (front ++ (95 ∷ 95 ∷ more)) → ⊥
tail_single [] more h = let e : false ≡ true = h.0 in cc
tail_single (b ∷ front) more h = tail_single front more h.1

tail_last : (front : List ℕ) → Tail (front ++ (95 ∷ [])) → ⊥
tail_last [] h = let e : false ≡ true = h.0 in cc
tail_last (b ∷ front) h = tail_last front h.1

word_single : (front more : List ℕ) → Word (front ++ (95 ∷ 95 ∷ more)) → ⊥
word_single [] more h = let e : false ≡ true = h.0 in cc
word_single (b ∷ front) more h = tail_single front more h.1

word_last : (front : List ℕ) → Word (front ++ (95 ∷ [])) → ⊥
word_last [] h = let e : false ≡ true = h.0 in cc
word_last (b ∷ front) h = tail_last front h.1

tail_bytes : (t : List ℕ) → Tail t → All (λ c. is_name_byte c ≡ true) t
tail_bytes [] h = All-nil (λ (c : ℕ). is_name_byte c ≡ true)
tail_bytes (b ∷ more) h = All-cons (λ (c : ℕ). is_name_byte c ≡ true) b more (name_byte b (begins is_alphanumeric more) h.0) (tail_bytes more h.1)

-- a letter and a tail make a name
pub name_text : (b : ℕ) (t : List ℕ) → is_letter b ≡ true → Tail t → IsNameText (b ∷ t)
name_text b t h k = record {
  name = (h, tail_bytes t k);
  single = λ front more e. word_single front more (subst Word e (h, k));
  last = λ front e. word_last front (subst Word e (h, k));
}

underscore : (l d u : Bool) → (l || d) ≡ false → (l || (d || u)) ≡ true → u ≡ true
underscore true d u h k = cc
underscore false true u h k = cc
underscore false false u h k = k

-- a name's byte that is neither a letter nor a digit
is_95 : (b : ℕ) → is_alphanumeric b ≡ false → is_name_byte b ≡ true → b ≡ 95
is_95 b h k = eqb-true b 95 (underscore (is_letter b) (is_digit b) (is_underscore b) h k)

follows : (b : ℕ) (more : List ℕ) → b ≡ 95 → All (λ c. is_name_byte c ≡ true) more
    → ((front rest : List ℕ) → b ∷ more ≢ front ++ (95 ∷ 95 ∷ rest)) → ((front : List ℕ) → b ∷ more ≢ front ++ (95 ∷ []))
    → begins is_alphanumeric more ≡ true
follows b [] e a s l = absurd (l [] (ap (λ (k : ℕ). k ∷ []) e))
follows b (c ∷ rest) e a s l = go (is_alphanumeric c) refl
  where
    go : (t : Bool) → is_alphanumeric c ≡ t → is_alphanumeric c ≡ true
    go true h = h
    go false h =
        let f : c ≡ 95 = is_95 c h (All-head (λ (c : ℕ). is_name_byte c ≡ true) c rest a) in
        let both : b ∷ c ∷ rest ≡ 95 ∷ 95 ∷ rest = cc in
        absurd (s [] rest both)

tail_test : (b : ℕ) (more : List ℕ) (t : Bool) → is_alphanumeric b ≡ t → is_name_byte b ≡ true → All (λ c. is_name_byte c ≡ true) more
    → ((front rest : List ℕ) → b ∷ more ≢ front ++ (95 ∷ 95 ∷ rest)) → ((front : List ℕ) → b ∷ more ≢ front ++ (95 ∷ []))
    → (t || (is_underscore b && begins is_alphanumeric more)) ≡ true
tail_test b more true h k a s l = refl
tail_test b more false h k a s l =
    let e : b ≡ 95 = is_95 b h k in
    let f : begins is_alphanumeric more ≡ true = follows b more e a s l in
    rw (e, f) refl

tail_of : (t : List ℕ) → All (λ c. is_name_byte c ≡ true) t
    → ((front rest : List ℕ) → t ≢ front ++ (95 ∷ 95 ∷ rest)) → ((front : List ℕ) → t ≢ front ++ (95 ∷ []))
    → Tail t
tail_of [] a s l = tt
tail_of (b ∷ more) a s l =
    let rest_of : All (λ c. is_name_byte c ≡ true) more = All-tail (λ (c : ℕ). is_name_byte c ≡ true) b more a in (
      tail_test b more (is_alphanumeric b) refl (All-head (λ (c : ℕ). is_name_byte c ≡ true) b more a) rest_of s l,
      tail_of more rest_of (λ front rest e. s (b ∷ front) rest (ap (λ (k : List ℕ). b ∷ k) e)) (λ front e. l (b ∷ front) (ap (λ (k : List ℕ). b ∷ k) e)),
    )

-- the bytes behind a name's first letter are a tail
pub tail_of_name : (b : ℕ) (t : List ℕ) → IsNameText (b ∷ t) → Tail t
tail_of_name b t h = tail_of t h.name.1 (λ front rest e. h.single (b ∷ front) rest (ap (λ (k : List ℕ). b ∷ k) e)) (λ front e. h.last (b ∷ front) (ap (λ (k : List ℕ). b ∷ k) e))

still : (a u : Bool) (t more : List ℕ) → (a || (u && begins is_alphanumeric t)) ≡ true → (a || (u && begins is_alphanumeric (t ++ more))) ≡ true
still true u t more h = refl
still false true [] more h = let e : false ≡ true = h in cc
still false true (c ∷ t) more h = h
still false false t more h = h

counted : (t : Bool) (n k : ℕ) → t ≡ true → n ≤ k → suc n ≤ (if t then suc k else 0)
counted true n k h l = omega arith
counted false n k h l = cc

-- a tail is no longer than what is taken for one
pub tail_within : (t more : List ℕ) → Tail t → length t ≤ name_tail (t ++ more)
tail_within [] more h = omega arith
tail_within (b ∷ t) more h =
    counted (is_alphanumeric b || (is_underscore b && begins is_alphanumeric (t ++ more))) (length t) (name_tail (t ++ more))
    (still (is_alphanumeric b) (is_underscore b) t more h.0) (tail_within t more h.1)

begins_taken : (c : ℕ) (rest : List ℕ) (n : ℕ) (a w : Bool) → is_alphanumeric c ≡ a → begins is_alphanumeric (take (if a || w then suc n else 0) (c ∷ rest)) ≡ a
begins_taken c rest n true w h = h
begins_taken c rest n false true h = h
begins_taken c rest n false false h = refl

taken_begins : (more : List ℕ) → begins is_alphanumeric (take (name_tail more) more) ≡ begins is_alphanumeric more
taken_begins [] = refl
taken_begins (c ∷ rest) = begins_taken c rest (name_tail rest) (is_alphanumeric c) (is_underscore c && begins is_alphanumeric rest) refl

tail_byte : (b : ℕ) (more : List ℕ) (t : Bool) → (is_alphanumeric b || (is_underscore b && begins is_alphanumeric more)) ≡ t → Tail (take (name_tail more) more)
    → Tail (take (if t then suc (name_tail more) else 0) (b ∷ more))
tail_byte b more true h rest = (ap (λ (k : Bool). is_alphanumeric b || (is_underscore b && k)) (taken_begins more) ∙ h, rest)
tail_byte b more false h rest = tt

-- what is taken is a tail
pub tail_taken : (bytes : List ℕ) → Tail (take (name_tail bytes) bytes)
tail_taken [] = tt
tail_taken (b ∷ more) = tail_byte b more (is_alphanumeric b || (is_underscore b && begins is_alphanumeric more)) refl (tail_taken more)

within_test : (t : Bool) (n k : ℕ) → n ≤ k → (if t then suc n else 0) ≤ suc k
within_test true n k h = omega arith
within_test false n k h = omega arith

pub name_tail-within : (bytes : List ℕ) → name_tail bytes ≤ length bytes
name_tail-within [] = omega arith
name_tail-within (b ∷ more) = within_test (is_alphanumeric b || (is_underscore b && begins is_alphanumeric more)) (name_tail more) (length more) (name_tail-within more)
