-- What steps can start with, and that this stays known as they are gone through.
use Rattle.std.proofs.Common.{◌≡◌, ◌⊎◌, inl, inr, ℕ, Bool, true, false, not, ◌||◌, ◌&&◌, List, [], ◌∷◌, ◌++◌, Option, Some, refl, sym, ap, ◌∙◌}
use Rattle.std.proofs.lemmas.Bool.{false≢true, and_parts}
use Rattle.vv_grammar.specs.declared.edition.Edition.{Edition}
use Rattle.vv_grammar.specs.declared.event.Event.{Event}
use Rattle.vv_grammar.specs.declared.place.Place.{Place}
use Rattle.vv_grammar.specs.declared.step.Step.{Step}
use Rattle.vv_grammar.specs.declared.step.Step.TheVariants as step
use Rattle.vv_grammar.specs.declared.terminal.Terminal.{Terminal}
use Rattle.vv_grammar.specs.Terminals.{contains}
use Rattle.vv_grammar.specs.Table.{Choice, alternatives, otherwise}
use Rattle.vv_grammar_laws.specs.Derivations.{IsAmong, first as here, later, Derives, done, make, skip, keep, call, pass, stop, more}
use Rattle.vv_grammar_laws.proofs.Codes.{code, same-code, has, has-here, has-left, has-right, has-cases, within, within-has, apart, apart-has, codes, codes-has}
use Rattle.vv_grammar_laws.proofs.Sets.{empty, first, follow}
use Rattle.vv_grammar_laws.proofs.Check.{joined, firsts, nulls, fits, turns, are_single, each_fits, else_fits}
use Rattle.vv_grammar_laws.proofs.Checked.{checked}

abbrev pub Within : List ℕ → List ℕ → Type 0
Within xs ys = (c : ℕ) → has xs c ≡ true → has ys c ≡ true

abbrev pub Apart : List ℕ → List ℕ → Type 0
Apart xs ys = (c : ℕ) → has xs c ≡ true → has ys c ≡ true → ⊥

-- what stands behind each step is among what can follow it
abbrev pub Good : List Step → Type 0
Good [] = Unit {0}
Good (step.Make f ∷ K) = Good K
Good (step.Skip w ∷ K) = Good K
Good (step.Keep w ∷ K) = Good K
Good (step.Call p ∷ K) = Within (firsts K []) (follow p) × Good K
Good (step.Many p ∷ K) = Within (first p ++ firsts K []) (follow p) × Apart (firsts K []) (first p) × Good K

joined-mono : (b : Bool) (xs ys zs : List ℕ) → Within ys zs → Within (joined b xs ys) (joined b xs zs)
joined-mono false xs ys zs w c h = h
joined-mono true xs ys zs w c h = elim (has-cases xs ys c h) [
  | inl l ↦ has-left xs zs c l
  | inr r ↦ has-right xs zs c (w c r)
]

pub firsts-mono : (R : List Step) (F G : List ℕ) → Within F G → Within (firsts R F) (firsts R G)
firsts-mono [] F G w c h = w c h
firsts-mono (step.Make f ∷ R) F G w c h = firsts-mono R F G w c h
firsts-mono (step.Skip t ∷ R) F G w c h = h
firsts-mono (step.Keep t ∷ R) F G w c h = h
firsts-mono (step.Call p ∷ R) F G w c h = joined-mono (empty p) (first p) (firsts R F) (firsts R G) (firsts-mono R F G w) c h
firsts-mono (step.Many p ∷ R) F G w c h = joined-mono true (first p) (firsts R F) (firsts R G) (firsts-mono R F G w) c h

pub firsts-append : (R K : List Step) → firsts (R ++ K) [] ≡ firsts R (firsts K [])
firsts-append [] K = refl
firsts-append (step.Make f ∷ R) K = firsts-append R K
firsts-append (step.Skip t ∷ R) K = refl
firsts-append (step.Keep t ∷ R) K = refl
firsts-append (step.Call p ∷ R) K = ap (joined (empty p) (first p)) (firsts-append R K)
firsts-append (step.Many p ∷ R) K = ap (λ (xs : List ℕ). first p ++ xs) (firsts-append R K)

firsts-in : (R K : List Step) (F : List ℕ) → Within (firsts K []) F → Within (firsts (R ++ K) []) (firsts R F)
firsts-in R K F w c h = firsts-mono R (firsts K []) F w c (ap (λ (xs : List ℕ). has xs c) (sym (firsts-append R K)) ∙ h)

-- what steps can start with stands in them, or behind them where they can be empty
firsts-split : (R : List Step) (F : List ℕ) (c : ℕ) → has (firsts R F) c ≡ true
    → (has (firsts R []) c ≡ true) ⊎ ((nulls R ≡ true) × (has F c ≡ true))
firsts-split [] F c h = inr (refl, h)
firsts-split (step.Make f ∷ R) F c h = firsts-split R F c h
firsts-split (step.Skip t ∷ R) F c h = inl h
firsts-split (step.Keep t ∷ R) F c h = inl h
firsts-split (step.Many p ∷ R) F c h = elim (has-cases (first p) (firsts R F) c h) [
  | inl l ↦ inl (has-left (first p) (firsts R []) c l)
  | inr r ↦ elim (firsts-split R F c r) [
    | inl l ↦ inl (has-right (first p) (firsts R []) c l)
    | inr b ↦ inr b
  ]
]
firsts-split (step.Call p ∷ R) F c h = go (empty p) refl (firsts-split R F c) h
  where
    go : (b : Bool) → empty p ≡ b → (has (firsts R F) c ≡ true → (has (firsts R []) c ≡ true) ⊎ ((nulls R ≡ true) × (has F c ≡ true)))
        → has (joined b (first p) (firsts R F)) c ≡ true
        → (has (joined b (first p) (firsts R [])) c ≡ true) ⊎ (((b && nulls R) ≡ true) × (has F c ≡ true))
    go false e deep h = inl h
    go true e deep h = elim (has-cases (first p) (firsts R F) c h) [
      | inl l ↦ inl (has-left (first p) (firsts R []) c l)
      | inr r ↦ elim (deep r) [
        | inl l ↦ inl (has-right (first p) (firsts R []) c l)
        | inr b ↦ inr b
      ]
    ]

-- steps that fit before a stack make a stack
pub good-append : (R K : List Step) (F : List ℕ) → fits R F ≡ true → Within (firsts K []) F → Good K → Good (R ++ K)
good-append [] K F h w g = g
good-append (step.Make f ∷ R) K F h w g = good-append R K F h w g
good-append (step.Skip t ∷ R) K F h w g = good-append R K F h w g
good-append (step.Keep t ∷ R) K F h w g = good-append R K F h w g
good-append (step.Call p ∷ R) K F h w g =
    let both = and_parts (within (firsts R F) (follow p)) (fits R F) h in
    (λ c m. within-has (firsts R F) (follow p) c both.0 (firsts-in R K F w c m), good-append R K F both.1 w g)
good-append (step.Many p ∷ R) K F h w g =
    let both = and_parts (within (first p ++ firsts R F) (follow p)) (apart (firsts R F) (first p) && fits R F) h in
    let more = and_parts (apart (firsts R F) (first p)) (fits R F) both.1 in (
      λ c m. within-has (first p ++ firsts R F) (follow p) c both.0 (joined-mono true (first p) (firsts (R ++ K) []) (firsts R F) (firsts-in R K F w) c m),
      λ c m n. apart-has (firsts R F) (first p) c more.0 (firsts-in R K F w c m) n,
      good-append R K F more.1 w g,
    )

-- what the check says of a place
pub record IsChecked (e : Edition) (p : Place) : Type 0 where
  pub single : are_single (alternatives e p) ≡ true
  pub turns_in : within (turns (alternatives e p)) (first p) ≡ true
  pub each : each_fits (alternatives e p) (follow p) ≡ true
  pub other : else_fits (otherwise p) p (alternatives e p) ≡ true

pub is_checked : (e : Edition) (p : Place) → IsChecked e p
is_checked e p =
    let a = and_parts (are_single (alternatives e p)) (within (turns (alternatives e p)) (first p) && (each_fits (alternatives e p) (follow p) && else_fits (otherwise p) p (alternatives e p))) (checked e p) in
    let b = and_parts (within (turns (alternatives e p)) (first p)) (each_fits (alternatives e p) (follow p) && else_fits (otherwise p) p (alternatives e p)) a.1 in
    let c = and_parts (each_fits (alternatives e p) (follow p)) (else_fits (otherwise p) p (alternatives e p)) b.1 in
    record { single = a.0; turns_in = b.0; each = c.0; other = c.1 }

pub among-turns : (c : Choice) (cs : List Choice) (t : Terminal) → IsAmong c cs → contains c.on t ≡ true → has (turns cs) (code t) ≡ true
among-turns c [] t a h = elim a [ ]
among-turns c (_ ∷ rest) t (here _ _) h = has-left (codes c.on) (turns rest) (code t) (codes-has c.on t h)
among-turns c (_ ∷ rest) t (later _ d _ a) h = has-right (codes d.on) (turns rest) (code t) (among-turns c rest t a h)

pub among-fits : (c : Choice) (cs : List Choice) (F : List ℕ) → IsAmong c cs → each_fits cs F ≡ true → fits c.steps F ≡ true
among-fits c [] F a h = elim a [ ]
among-fits c (_ ∷ rest) F (here _ _) h = (and_parts (fits c.steps F) (each_fits rest F) h).0
among-fits c (_ ∷ rest) F (later _ d _ a) h = among-fits c rest F a (and_parts (fits d.steps F) (each_fits rest F) h).1

pub turn-first : (e : Edition) (p : Place) (c : Choice) (t : Terminal) → IsAmong c (alternatives e p) → contains c.on t ≡ true → has (first p) (code t) ≡ true
turn-first e p c t a h = within-has (turns (alternatives e p)) (first p) (code t) (is_checked e p).turns_in (among-turns c (alternatives e p) t a h)

-- what the check says of what a place admits else
pub record IsElse (p : Place) (cs : List Choice) (ss : List Step) : Type 0 where
  pub nulled : (not (nulls ss) || empty p) ≡ true
  pub inside : within (firsts ss []) (first p) ≡ true
  pub told : apart (firsts ss (follow p)) (turns cs) ≡ true
  pub fit : fits ss (follow p) ≡ true

pub is_else : (e : Edition) (p : Place) (ss : List Step) → otherwise p ≡ Some ss → IsElse p (alternatives e p) ss
is_else e p ss o =
    let cs = alternatives e p in
    let h : else_fits (Some ss) p cs ≡ true = ap (λ (x : Option (List Step)). else_fits x p cs) (sym o) ∙ (is_checked e p).other in
    let a = and_parts (not (nulls ss) || empty p) (within (firsts ss []) (first p) && (apart (firsts ss (follow p)) (turns cs) && fits ss (follow p))) h in
    let b = and_parts (within (firsts ss []) (first p)) (apart (firsts ss (follow p)) (turns cs) && fits ss (follow p)) a.1 in
    let c = and_parts (apart (firsts ss (follow p)) (turns cs)) (fits ss (follow p)) b.1 in
    record { nulled = a.0; inside = b.0; told = c.0; fit = c.1 }

-- the first token is among these, if there is one
abbrev pub Begins : List Terminal → List ℕ → Type 0
Begins [] F = Unit {0}
Begins (t ∷ u) F = has F (code t) ≡ true

begins-mono : (u : List Terminal) (F G : List ℕ) → Within F G → Begins u F → Begins u G
begins-mono [] F G w b = tt
begins-mono (t ∷ u) F G w b = w (code t) b

joined-first : (b : Bool) (xs ys : List ℕ) → Within xs (joined b xs ys)
joined-first false xs ys c h = h
joined-first true xs ys c h = has-left xs ys c h

joined-behind : (b : Bool) (xs ys : List ℕ) → b ≡ true → Within ys (joined b xs ys)
joined-behind false xs ys e c h = absurd (false≢true e)
joined-behind true xs ys e c h = has-right xs ys c h

implied : (a b : Bool) → (not a || b) ≡ true → a ≡ true → b ≡ true
implied true b h e = h
implied false b h e = absurd (false≢true e)

else-within : (e : Edition) (p : Place) (ss K : List Step) → otherwise p ≡ Some ss → Within (firsts (ss ++ K) []) (firsts (step.Call p ∷ K) [])
else-within e p ss K o c h =
    let k = is_else e p ss o in
    elim (firsts-split ss (firsts K []) c (ap (λ (xs : List ℕ). has xs c) (sym (firsts-append ss K)) ∙ h)) [
      | inl l ↦ joined-first (empty p) (first p) (firsts K []) c (within-has (firsts ss []) (first p) c k.inside l)
      | inr r ↦ joined-behind (empty p) (first p) (firsts K []) (implied (nulls ss) (empty p) k.nulled r.0) c r.1
    ]

-- The first token of what is derived is among those that the steps can start with.
pub starts : (e : Edition) (K : List Step) (u : List Terminal) (es : List Event) → Derives e K u es → Begins u (firsts K [])
starts e _ _ _ done = tt
starts e _ _ _ (make f K u es d) = starts e K u es d
starts e _ _ _ (skip w t K u es s d) = has-here (code w) (code t) [] (same-code w t s)
starts e _ _ _ (keep w t K u es s d) = has-here (code w) (code t) [] (same-code w t s)
starts e _ _ _ (call p c t K u es a h d) = joined-first (empty p) (first p) (firsts K []) (code t) (turn-first e p c t a h)
starts e _ _ _ (pass p ss K u es o d) = begins-mono u (firsts (ss ++ K) []) (firsts (step.Call p ∷ K) []) (else-within e p ss K o) (starts e (ss ++ K) u es d)
starts e _ _ _ (stop p K u es d) = begins-mono u (firsts K []) (first p ++ firsts K []) (λ c h. has-right (first p) (firsts K []) c h) (starts e K u es d)
starts e _ _ _ (more p c t K u es a h k d) = has-left (first p) (firsts K []) (code t) (turn-first e p c t a h)
