-- Runs of bytes of a class with single underscores between them: what stands behind the first one, byte by byte.
use Rattle.std.proofs.Common.{◌≡◌, ◌≢◌, ℕ, suc, ◌<◌, ◌≤◌, Bool, true, false, if◌then◌else◌, ◌==◌, ◌&&◌, ◌||◌, List, [], ◌∷◌, ◌++◌, length, take, All, refl, ap, ◌∙◌, subst, arith}
use Rattle.std.proofs.lemmas.Bool.{eqb-true}
use Rattle.std.proofs.lemmas.List.Elements.{All-nil, All-cons, All-head, All-tail}
use Rattle.vv_vlex.specs.declared.class.Class.{Class}
use Rattle.vv_vlex.specs.declared.class.Class.TheVariants.{Alphanumeric, Decimal, Extended, Binary, Octal, Hexadecimal}
use Rattle.vv_vlex.specs.Bytes.{has, begins, tail, grouped}
use Rattle.vv_vlex_laws.specs.Cut.{IsGrouped}

pub no_underscore : (c : Class) → has c 95 ≡ false
no_underscore Alphanumeric = refl
no_underscore Decimal = refl
no_underscore Extended = refl
no_underscore Binary = refl
no_underscore Octal = refl
no_underscore Hexadecimal = refl

-- bytes of the class, and underscores that one of these follows
abbrev pub Tail : (ℕ → Bool) → List ℕ → Type 0
Tail p [] = Unit {0}
Tail p (b ∷ more) = ((p b || (b == 95 && begins p more)) ≡ true) × Tail p more

abbrev pub Group : (ℕ → Bool) → List ℕ → Type 0
Group p [] = ⊥
Group p (b ∷ more) = (p b ≡ true) × Tail p more

tail_single : (p : ℕ → Bool) → p 95 ≡ false → (front more : List ℕ) → Tail p (front ++ (95 ∷ 95 ∷ more)) → ⊥
tail_single p u [] more h = let e = rw u at h.0 in cc
tail_single p u (b ∷ front) more h = tail_single p u front more h.1

tail_last : (p : ℕ → Bool) → p 95 ≡ false → (front : List ℕ) → Tail p (front ++ (95 ∷ [])) → ⊥
tail_last p u [] h = let e = rw u at h.0 in cc
tail_last p u (b ∷ front) h = tail_last p u front h.1

group_single : (p : ℕ → Bool) → p 95 ≡ false → (front more : List ℕ) → Group p (front ++ (95 ∷ 95 ∷ more)) → ⊥
group_single p u [] more h = let e = rw u at h.0 in cc
group_single p u (b ∷ front) more h = tail_single p u front more h.1

group_last : (p : ℕ → Bool) → p 95 ≡ false → (front : List ℕ) → Group p (front ++ (95 ∷ [])) → ⊥
group_last p u [] h = let e = rw u at h.0 in cc
group_last p u (b ∷ front) h = tail_last p u front h.1

either_byte : (a u b : Bool) → (a || (u && b)) ≡ true → (a || u) ≡ true
either_byte true u b h = refl
either_byte false true b h = refl
either_byte false false b h = h

tail_bytes : (p : ℕ → Bool) (t : List ℕ) → Tail p t → All (λ b. (p b || b == 95) ≡ true) t
tail_bytes p [] h = All-nil (λ (b : ℕ). (p b || b == 95) ≡ true)
tail_bytes p (b ∷ more) h = All-cons (λ (b : ℕ). (p b || b == 95) ≡ true) b more (either_byte (p b) (b == 95) (begins p more) h.0) (tail_bytes p more h.1)

first_byte : (a u : Bool) → a ≡ true → (a || u) ≡ true
first_byte true u h = refl
first_byte false u h = cc

pub grouped_text : (c : Class) (text : List ℕ) → Group (has c) text → IsGrouped c text
grouped_text c [] h = absurd h
grouped_text c (b ∷ t) h = record {
  first = h.0;
  each = All-cons (λ (b : ℕ). (has c b || b == 95) ≡ true) b t (first_byte (has c b) (b == 95) h.0) (tail_bytes (has c) t h.1);
  single = λ front more e. group_single (has c) (no_underscore c) front more (subst (Group (has c)) e h);
  last = λ front e. group_last (has c) (no_underscore c) front (subst (Group (has c)) e h);
}

follows : (p : ℕ → Bool) (b : ℕ) (more : List ℕ) → b ≡ 95 → All (λ b. (p b || b == 95) ≡ true) more
    → ((front rest : List ℕ) → b ∷ more ≢ front ++ (95 ∷ 95 ∷ rest)) → ((front : List ℕ) → b ∷ more ≢ front ++ (95 ∷ []))
    → begins p more ≡ true
follows p b [] e a s l = absurd (l [] (ap (λ (k : ℕ). k ∷ []) e))
follows p b (c ∷ rest) e a s l = go (p c) refl (All-head (λ (b : ℕ). (p b || b == 95) ≡ true) c rest a)
  where
    go : (t : Bool) → p c ≡ t → (t || c == 95) ≡ true → p c ≡ true
    go true h k = h
    go false h k =
        let f : c ≡ 95 = eqb-true c 95 k in
        let both : b ∷ c ∷ rest ≡ 95 ∷ 95 ∷ rest = cc in
        absurd (s [] rest both)

tail_test : (p : ℕ → Bool) (b : ℕ) (more : List ℕ) (t : Bool) → p b ≡ t → (t || b == 95) ≡ true → All (λ b. (p b || b == 95) ≡ true) more
    → ((front rest : List ℕ) → b ∷ more ≢ front ++ (95 ∷ 95 ∷ rest)) → ((front : List ℕ) → b ∷ more ≢ front ++ (95 ∷ []))
    → (t || (b == 95 && begins p more)) ≡ true
tail_test p b more true h k a s l = refl
tail_test p b more false h k a s l =
    let f : begins p more ≡ true = follows p b more (eqb-true b 95 k) a s l in
    rw (k, f) refl

tail_of : (p : ℕ → Bool) (t : List ℕ) → All (λ b. (p b || b == 95) ≡ true) t
    → ((front rest : List ℕ) → t ≢ front ++ (95 ∷ 95 ∷ rest)) → ((front : List ℕ) → t ≢ front ++ (95 ∷ []))
    → Tail p t
tail_of p [] a s l = tt
tail_of p (b ∷ more) a s l =
    let rest_of : All (λ b. (p b || b == 95) ≡ true) more = All-tail (λ (b : ℕ). (p b || b == 95) ≡ true) b more a in (
      tail_test p b more (p b) refl (All-head (λ (b : ℕ). (p b || b == 95) ≡ true) b more a) rest_of s l,
      tail_of p more rest_of (λ front rest e. s (b ∷ front) rest (ap (λ (k : List ℕ). b ∷ k) e)) (λ front e. l (b ∷ front) (ap (λ (k : List ℕ). b ∷ k) e)),
    )

pub group_of : (c : Class) (text : List ℕ) → IsGrouped c text → Group (has c) text
group_of c [] h = let e : false ≡ true = h.first in cc
group_of c (b ∷ t) h = (
  h.first,
  tail_of (has c) t (All-tail (λ (b : ℕ). (has c b || b == 95) ≡ true) b t h.each)
      (λ front rest e. h.single (b ∷ front) rest (ap (λ (k : List ℕ). b ∷ k) e)) (λ front e. h.last (b ∷ front) (ap (λ (k : List ℕ). b ∷ k) e)),
)

still : (p : ℕ → Bool) (a u : Bool) (t more : List ℕ) → (a || (u && begins p t)) ≡ true → (a || (u && begins p (t ++ more))) ≡ true
still p true u t more h = refl
still p false true [] more h = let e : false ≡ true = h in cc
still p false true (c ∷ t) more h = h
still p false false t more h = h

counted : (t : Bool) (n k : ℕ) → t ≡ true → n ≤ k → suc n ≤ (if t then suc k else 0)
counted true n k h l = omega arith
counted false n k h l = cc

pub tail_within : (p : ℕ → Bool) (t more : List ℕ) → Tail p t → length t ≤ tail p (t ++ more)
tail_within p [] more h = omega arith
tail_within p (b ∷ t) more h =
    counted (p b || (b == 95 && begins p (t ++ more))) (length t) (tail p (t ++ more))
    (still p (p b) (b == 95) t more h.0) (tail_within p t more h.1)

-- a run is no longer than what is taken for one
pub group_within : (p : ℕ → Bool) (t more : List ℕ) → Group p t → length t ≤ grouped p (t ++ more)
group_within p [] more h = absurd h
group_within p (b ∷ t) more h = counted (p b) (length t) (tail p (t ++ more)) h.0 (tail_within p t more h.1)

stops : (p : ℕ → Bool) (c : ℕ) (more : List ℕ) → p c ≡ false → (c == 95) ≡ false → tail p (c ∷ more) ≡ 0
stops p c more h k = rw (h, k) refl

-- a run ends before a byte that is neither of the class nor an underscore
pub tail_exact : (p : ℕ → Bool) (t : List ℕ) (c : ℕ) (more : List ℕ) → Tail p t → p c ≡ false → (c == 95) ≡ false → tail p (t ++ (c ∷ more)) ≡ length t
tail_exact p [] c more h e f = stops p c more e f
tail_exact p (b ∷ t) c more h e f =
    let on : (p b || (b == 95 && begins p (t ++ (c ∷ more)))) ≡ true = still p (p b) (b == 95) t (c ∷ more) h.0 in
    let rest : tail p (t ++ (c ∷ more)) ≡ length t = tail_exact p t c more h.1 e f in
    rw (on, rest) refl

pub group_exact : (p : ℕ → Bool) (t : List ℕ) (c : ℕ) (more : List ℕ) → Group p t → p c ≡ false → (c == 95) ≡ false → grouped p (t ++ (c ∷ more)) ≡ length t
group_exact p [] c more h e f = absurd h
group_exact p (b ∷ t) c more h e f =
    let on : p b ≡ true = h.0 in
    let rest : tail p (t ++ (c ∷ more)) ≡ length t = tail_exact p t c more h.1 e f in
    rw (on, rest) refl

-- at the end of the text too
pub tail_whole : (p : ℕ → Bool) (t : List ℕ) → Tail p t → tail p t ≡ length t
tail_whole p [] h = refl
tail_whole p (b ∷ t) h =
    let on : (p b || (b == 95 && begins p t)) ≡ true = h.0 in
    let rest : tail p t ≡ length t = tail_whole p t h.1 in
    rw (on, rest) refl

begins_taken : (p : ℕ → Bool) (c : ℕ) (rest : List ℕ) (n : ℕ) (a w : Bool) → p c ≡ a → begins p (take (if a || w then suc n else 0) (c ∷ rest)) ≡ a
begins_taken p c rest n true w h = h
begins_taken p c rest n false true h = h
begins_taken p c rest n false false h = refl

taken_begins : (p : ℕ → Bool) (more : List ℕ) → begins p (take (tail p more) more) ≡ begins p more
taken_begins p [] = refl
taken_begins p (c ∷ rest) = begins_taken p c rest (tail p rest) (p c) (c == 95 && begins p rest) refl

tail_byte : (p : ℕ → Bool) (b : ℕ) (more : List ℕ) (t : Bool) → (p b || (b == 95 && begins p more)) ≡ t → Tail p (take (tail p more) more)
    → Tail p (take (if t then suc (tail p more) else 0) (b ∷ more))
tail_byte p b more true h rest = (ap (λ (k : Bool). p b || (b == 95 && k)) (taken_begins p more) ∙ h, rest)
tail_byte p b more false h rest = tt

-- what is taken is a run
pub tail_taken : (p : ℕ → Bool) (bytes : List ℕ) → Tail p (take (tail p bytes) bytes)
tail_taken p [] = tt
tail_taken p (b ∷ more) = tail_byte p b more (p b || (b == 95 && begins p more)) refl (tail_taken p more)

within_test : (t : Bool) (n k : ℕ) → n ≤ k → (if t then suc n else 0) ≤ suc k
within_test true n k h = omega arith
within_test false n k h = omega arith

pub tail-within : (p : ℕ → Bool) (bytes : List ℕ) → tail p bytes ≤ length bytes
tail-within p [] = omega arith
tail-within p (b ∷ more) = within_test (p b || (b == 95 && begins p more)) (tail p more) (length more) (tail-within p more)

pub grouped-within : (p : ℕ → Bool) (bytes : List ℕ) → grouped p bytes ≤ length bytes
grouped-within p [] = omega arith
grouped-within p (b ∷ more) = within_test (p b) (tail p more) (length more) (tail-within p more)

pub group_taken : (p : ℕ → Bool) (bytes : List ℕ) → 0 < grouped p bytes → Group p (take (grouped p bytes) bytes)
group_taken p [] h = absurd (omega arith)
group_taken p (b ∷ more) h = go (p b) refl h
  where
    go : (t : Bool) → p b ≡ t → 0 < (if t then suc (tail p more) else 0) → Group p (take (if t then suc (tail p more) else 0) (b ∷ more))
    go true e k = (e, tail_taken p more)
    go false e k = absurd (omega arith)
