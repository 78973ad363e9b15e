-- There is one verdict: a reading, one token that is misplaced, or one at which something is too deep.
use Rattle.std.proofs.Common.{◌≡◌, ◌⊎◌, inl, inr, ℕ, zero, suc, ◌+◌, ◌<◌, ◌≤◌, List, [], ◌∷◌, ◌++◌, length, drop, Option, Some, None, refl, sym, ap, ◌∙◌, subst, append_assoc, arith}
use Rattle.std.proofs.lemmas.List.{append-nil}
use Rattle.vv_grammar.specs.declared.edition.Edition.{Edition}
use Rattle.vv_grammar.specs.declared.event.Event.{Event}
use Rattle.vv_grammar.specs.declared.terminal.Terminal.{Terminal}
use Rattle.vv_machine.specs.Machine.{next_terminal, starting_with}
use Rattle.vv_grammar_laws.specs.Derivations.{Derives, IsViable}
use Rattle.vv_grammar_laws.specs.Depths.{IsTooDeepAt}
use Rattle.vv_grammar_laws.specs.Starts.{Start, steps_for, AreBetween}
use Rattle.vv_grammar_laws.specs.Readings.{IsReading, IsRefusal, IsDeep, IsTooDeep, GoesOn, MayEnd}
use Rattle.vv_grammar_laws.proofs.Plain.{head}
use Rattle.vv_grammar_laws.proofs.Bridge.{head-from}
use Rattle.vv_grammar_laws.proofs.Back.{same_derivation}
use Rattle.vv_grammar_laws.proofs.Ends.{between-one}

order : (n m : ℕ) → (n < m) ⊎ ((n ≡ m) ⊎ (m < n))
order zero zero = inr (inl refl)
order zero (suc m) = inl (omega arith)
order (suc n) zero = inr (inr (omega arith))
order (suc n) (suc m) = elim (order n m) [
  | inl l ↦ inl (omega (arith, l))
  | inr r ↦ elim r [
    | inl h ↦ inr (inl (ap suc h))
    | inr l ↦ inr (inr (omega (arith, l)))
  ]
]

-- more tokens from the same one on
pub record Longer (ts : List Terminal) (n : ℕ) (q p : List Terminal) : Type 0 where
  pub token : Terminal
  pub rest : List Terminal
  pub is : p ≡ q ++ (token ∷ rest)
  pub here : next_terminal ts n ≡ Some token

abbrev pub the_head : Terminal → List Terminal → Terminal
the_head d [] = d
the_head d (t ∷ u) = t

abbrev pub the_tail : List Terminal → List Terminal
the_tail [] = []
the_tail (t ∷ u) = u

abbrev IsSome : List Terminal → Type 0
IsSome [] = ⊥
IsSome (t ∷ u) = Unit {0}

parted : (q p x y : List Terminal) → q ++ x ≡ p ++ y → length q < length p → (t : Terminal) × (r : List Terminal) × (p ≡ q ++ (t ∷ r)) × (head x ≡ Some t)
parted [] [] x y h l = absurd (omega (arith, l))
parted [] (t ∷ p) x y h l = (t, p, refl, ap head h)
parted (s ∷ q) [] x y h l = absurd (omega (arith, l))
parted (s ∷ q) (t ∷ p) x y h l =
    let r = parted q p x y (ap the_tail h) (omega (arith, l)) in
    let same : s ≡ t = ap (the_head s) h in
    (r.0, r.1, ap (λ (z : Terminal). z ∷ p) (sym same) ∙ ap (λ (z : List Terminal). s ∷ z) r.2, r.3)

pub longer : (ts : List Terminal) (a n m : ℕ) (q p : List Terminal) → AreBetween ts a n q → AreBetween ts a m p → n < m → Longer ts n q p
longer ts a n m q p v w l =
    let x : n ≡ a + length q = v.size in
    let y : m ≡ a + length p = w.size in
    let r = parted q p (drop n ts) (drop m ts) (sym v.split ∙ w.split) (omega (arith, l, x, y)) in
    record { token = r.0; rest = r.1; is = r.2; here = sym (head-from ts n) ∙ r.3 }

-- a derivation that starts with some tokens
pub viable-in : (e : Edition) (s : Start) (q p : List Terminal) (t : Terminal) (r more : List Terminal) (es : List Event) → p ≡ q ++ (t ∷ r) → Derives e (steps_for s) (p ++ more) es
    → IsViable e (steps_for s) (q ++ (t ∷ []))
viable-in e s q p t r more es h d = record {
  more = r ++ more;
  events = es;
  derives = subst (λ (x : List Terminal). Derives e (steps_for s) x es)
      (ap (λ (x : List Terminal). x ++ more) h ∙ append_assoc q (t ∷ r) more ∙ sym (append_assoc q (t ∷ []) (r ++ more))) d;
}

-- what is settled with some tokens is so in all that starts with them
pub settled-in : (e : Edition) (s : Start) (ts : List Terminal) (a n : ℕ) (d : IsDeep e s ts a n) (p r more : List Terminal) (es : List Event) → p ≡ d.tokens ++ (d.token ∷ r)
    → (f : Derives e (steps_for s) (p ++ more) es) → IsTooDeep e s (p ++ more) es f a n
settled-in e s ts a n d p r more es h f =
    let g = same_derivation e (steps_for s) (steps_for s) (p ++ more) (d.tokens ++ (d.token ∷ (r ++ more))) es refl
    (ap (λ (x : List Terminal). x ++ more) h ∙ append_assoc d.tokens (d.token ∷ r) more) f (starting_with (steps_for s) a) a in
    subst (IsTooDeepAt n) (sym g.1) (d.settled (r ++ more) es g.0)

some-one : (s t : Terminal) → (let x : Option Terminal = Some s in x) ≡ Some t → s ≡ t
some-one s t h = ap (λ (x : Option Terminal). get s x) h
  where
    get : Terminal → Option Terminal → Terminal
    get d None = d
    get d (Some z) = z

-- the settling token is the one of the file
same-token : (e : Edition) (s : Start) (ts : List Terminal) (a n : ℕ) (d : IsDeep e s ts a n) (p : List Terminal) (l : Longer ts d.next d.tokens p) → p ≡ d.tokens ++ (d.token ∷ l.rest)
same-token e s ts a n d p l = l.is ∙ ap (λ (z : Terminal). d.tokens ++ (z ∷ l.rest)) (some-one l.token d.token (sym l.here ∙ d.here))

-- what is settled to be too deep is so where the tokens go on further
too-early : (e : Edition) (s : Start) (ts : List Terminal) (a n b : ℕ) (d : IsDeep e s ts a n) (p : List Terminal) → AreBetween ts a b p → d.next < b → GoesOn e s a b p → ⊥
too-early e s ts a n b d p w l g =
    let r = longer ts a d.next b d.tokens p d.between w l in
    let by : n ≤ d.next = d.by in
    g.free n (omega (arith, by, l)) (settled-in e s ts a n d p r.rest g.more g.events (same-token e s ts a n d p r) g.derives)

misplaced-by : (e : Edition) (s : Start) (ts : List Terminal) (a n m : ℕ) → IsRefusal e s ts a n → IsRefusal e s ts a m → n < m → ⊥
misplaced-by e s ts a n m x y l =
    let r = longer ts a n m x.tokens y.tokens x.between y.between l in
    x.never r.token r.here (viable-in e s x.tokens y.tokens r.token r.rest y.goes_on.more y.goes_on.events r.is y.goes_on.derives)

-- with the same settling token
deep-by : (e : Edition) (s : Start) (ts : List Terminal) (a n m : ℕ) (x : IsDeep e s ts a n) (y : IsDeep e s ts a m) → x.next ≡ y.next → n < m → ⊥
deep-by e s ts a n m x y h l =
    let same : x.tokens ≡ y.tokens = between-one ts a y.next x.tokens y.tokens (subst (λ (z : ℕ). AreBetween ts a z x.tokens) h x.between) y.between in
    let token : x.token ≡ y.token = some-one x.token y.token (sym x.here ∙ ap (next_terminal ts) h ∙ y.here) in
    let p = y.tokens ++ (y.token ∷ []) in
    let is : p ≡ x.tokens ++ (x.token ∷ []) = ap (λ (z : List Terminal). z ++ (y.token ∷ [])) (sym same) ∙ ap (λ (z : Terminal). x.tokens ++ (z ∷ [])) (sym token) in
    y.first.free n l (settled-in e s ts a n x p [] y.first.more y.first.events is y.first.derives)

pub one_misplaced : (e : Edition) (s : Start) (ts : List Terminal) (a n m : ℕ) → IsRefusal e s ts a n → IsRefusal e s ts a m → n ≡ m
one_misplaced e s ts a n m x y = go (order n m)
  where
    go : ((n < m) ⊎ ((n ≡ m) ⊎ (m < n))) → n ≡ m
    go (inl l) = absurd (misplaced-by e s ts a n m x y l)
    go (inr (inl h)) = h
    go (inr (inr l)) = absurd (misplaced-by e s ts a m n y x l)

-- both are settled with one token
one-next : (e : Edition) (s : Start) (ts : List Terminal) (a n m : ℕ) (x : IsDeep e s ts a n) (y : IsDeep e s ts a m) → x.next ≡ y.next
one-next e s ts a n m x y = go (order x.next y.next)
  where
    go : ((x.next < y.next) ⊎ ((x.next ≡ y.next) ⊎ (y.next < x.next))) → x.next ≡ y.next
    go (inl l) = absurd (too-early e s ts a n y.next x y.tokens y.between l y.goes_on)
    go (inr (inl h)) = h
    go (inr (inr l)) = absurd (too-early e s ts a m x.next y x.tokens x.between l x.goes_on)

pub one_deep : (e : Edition) (s : Start) (ts : List Terminal) (a n m : ℕ) → IsDeep e s ts a n → IsDeep e s ts a m → n ≡ m
one_deep e s ts a n m x y = go (order n m)
  where
    go : ((n < m) ⊎ ((n ≡ m) ⊎ (m < n))) → n ≡ m
    go (inl l) = absurd (deep-by e s ts a n m x y (one-next e s ts a n m x y) l)
    go (inr (inl h)) = h
    go (inr (inr l)) = absurd (deep-by e s ts a m n y x (one-next e s ts a m n y x) l)

-- a token that is misplaced stands behind the one that would settle it
never-both : (e : Edition) (s : Start) (ts : List Terminal) (a n m : ℕ) (x : IsDeep e s ts a n) → m ≤ x.next
    → (q : List Terminal) → AreBetween ts a m q → ((t : Terminal) → next_terminal ts m ≡ Some t → IsViable e (steps_for s) (q ++ (t ∷ [])) → ⊥) → ⊥
never-both e s ts a n m x l q w never = go (order m x.next)
  where
    go : ((m < x.next) ⊎ ((m ≡ x.next) ⊎ (x.next < m))) → ⊥
    go (inl k) =
        let r = longer ts a m x.next q x.tokens w x.between k in
        never r.token r.here (viable-in e s q x.tokens r.token r.rest x.goes_on.more x.goes_on.events r.is x.goes_on.derives)
    go (inr (inl h)) =
        let same : q ≡ x.tokens = between-one ts a x.next q x.tokens (subst (λ (z : ℕ). AreBetween ts a z q) h w) x.between in
        never x.token (ap (next_terminal ts) h ∙ x.here)
        (viable-in e s q (x.tokens ++ (x.token ∷ [])) x.token [] x.first.more x.first.events (ap (λ (z : List Terminal). z ++ (x.token ∷ [])) (sym same)) x.first.derives)
    go (inr (inr k)) = absurd (omega (arith, l, k))

pub apart : (e : Edition) (s : Start) (ts : List Terminal) (a n m : ℕ) → IsDeep e s ts a n → IsRefusal e s ts a m → ⊥
apart e s ts a n m x y = go (order m x.next)
  where
    go : ((m < x.next) ⊎ ((m ≡ x.next) ⊎ (x.next < m))) → ⊥
    go (inl k) = never-both e s ts a n m x (omega (arith, k)) y.tokens y.between y.never
    go (inr (inl h)) = never-both e s ts a n m x (omega (arith, h)) y.tokens y.between y.never
    go (inr (inr k)) = too-early e s ts a n m x y.tokens y.between k y.goes_on

-- what was read goes on to itself
pub itself : (e : Edition) (s : Start) (ts : List Terminal) (a b : ℕ) (es : List Event) (r : IsReading e s ts a b es) → GoesOn e s a b r.tokens
itself e s ts a b es r =
    let d = same_derivation e (steps_for s) (steps_for s) r.tokens (r.tokens ++ []) es refl (sym (append-nil r.tokens)) r.derives (starting_with (steps_for s) a) a in
    record { more = []; events = es; derives = d.0; free = λ n l h. r.shallow n (subst (IsTooDeepAt n) (sym d.1) h) }

pub not_deep : (e : Edition) (s : Start) (ts : List Terminal) (a n b : ℕ) (es : List Event) → IsReading e s ts a b es → IsDeep e s ts a n → ⊥
not_deep e s ts a n b es r x = go (order b x.next)
  where
    go : ((b < x.next) ⊎ ((b ≡ x.next) ⊎ (x.next < b))) → ⊥
    go (inl k) = never-both e s ts a n b x (omega (arith, k)) r.tokens r.between r.longest
    go (inr (inl h)) = never-both e s ts a n b x (omega (arith, h)) r.tokens r.between r.longest
    go (inr (inr k)) = too-early e s ts a n b x r.tokens r.between k (itself e s ts a b es r)

-- what is read, where it may end, is not refused
pub not_misplaced : (e : Edition) (s : Start) (ts : List Terminal) (a n b : ℕ) (es : List Event) → MayEnd s ts b → IsReading e s ts a b es → IsRefusal e s ts a n → ⊥
not_misplaced e s ts a n b es may r y = go (order n b)
  where
    go : ((n < b) ⊎ ((n ≡ b) ⊎ (b < n))) → ⊥
    go (inl l) =
        let z = longer ts a n b y.tokens r.tokens y.between r.between l in
        let g = itself e s ts a b es r in
        y.never z.token z.here (viable-in e s y.tokens r.tokens z.token z.rest g.more g.events z.is g.derives)
    go (inr (inl h)) =
        let same : r.tokens ≡ y.tokens = between-one ts a n r.tokens y.tokens (subst (λ (z : ℕ). AreBetween ts a z r.tokens) (sym h) r.between) y.between in
        y.ends es (subst (MayEnd s ts) (sym h) may) (subst (λ (x : List Terminal). Derives e (steps_for s) x es) same r.derives)
    go (inr (inr l)) =
        let z = longer ts a b n r.tokens y.tokens r.between y.between l in
        r.longest z.token z.here (viable-in e s r.tokens y.tokens z.token z.rest y.goes_on.more y.goes_on.events z.is y.goes_on.derives)
