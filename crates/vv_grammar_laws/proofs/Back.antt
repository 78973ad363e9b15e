-- One move of the machine, backwards: what is derived from its state begins with it, with the same depths.
use Rattle.std.proofs.Common.{◌≡◌, ℕ, ◌+◌, Bool, true, false, if◌then◌else◌, List, [], ◌∷◌, ◌++◌, Option, Some, None, refl, sym, ap, ◌∙◌, subst}
use Rattle.vv_grammar.specs.declared.edition.Edition.{Edition}
use Rattle.vv_grammar.specs.declared.event.Event.{Event}
use Rattle.vv_grammar.specs.declared.event.Event.TheVariants as event
use Rattle.vv_grammar.specs.declared.form.Form.TheVariants as form
use Rattle.vv_grammar.specs.declared.place.Place.{Place}
use Rattle.vv_machine.specs.declared.stack.Pending.{Pending}
use Rattle.vv_grammar.specs.declared.step.Level.{Level}
use Rattle.vv_grammar.specs.declared.step.Step.{Step}
use Rattle.vv_grammar.specs.declared.step.Step.TheVariants as step
use Rattle.vv_grammar.specs.declared.step.Take.{Take}
use Rattle.vv_grammar.specs.declared.step.Take.TheVariants as take
use Rattle.vv_grammar.specs.declared.terminal.Terminal.{Terminal}
use Rattle.vv_grammar.specs.Terminals.{same, contains}
use Rattle.vv_grammar.specs.Table.{Choice, alternatives, otherwise, level_of}
use Rattle.vv_machine.specs.Machine as machine
use Rattle.vv_machine.specs.Machine.{Turn, turn, takes, as_part, chosen, next_terminal, inside, marked, as_step, begun, steps_in}
use Rattle.vv_grammar_laws.specs.Derivations.{IsAmong, left, noted, Derives, make, skip, keep, call, pass, stop, more}
use Rattle.vv_grammar_laws.proofs.Plain.{head}
use Rattle.vv_grammar_laws.proofs.Acts.{IsTurn, Chosen, chosen-turn}
use Rattle.vv_grammar_laws.proofs.Bridge.{bare, bare-steps, past}
use Rattle.vv_grammar_laws.specs.Depths.{Opening, opening, behind_choice, next_at, openings}
use Rattle.vv_grammar_laws.proofs.Marks.{AreMarked, marks-on, marks-nothing}

-- a derivation by the same steps of the same tokens, written otherwise
pub same_derivation : (e : Edition) (S T : List Step) (x y : List Terminal) (es : List Event) → S ≡ T → x ≡ y → (d : Derives e S x es) → (F : List Pending) (c : ℕ)
    → (f : Derives e T y es) × (openings e S x es d F c ≡ openings e T y es f F c)
same_derivation e S T x y es v w d F c =
    subst (λ (z : List Terminal). (f : Derives e T z es) × (openings e S x es d F c ≡ openings e T z es f F c)) w
    (subst (λ (Z : List Step). (f : Derives e Z x es) × (openings e S x es d F c ≡ openings e Z x es f F c)) v (d, refl))

-- the tokens before a move, by those behind it
abbrev pub IsFront : Bool → Option Terminal → List Terminal → List Terminal → Type 0
IsFront false x w u = u ≡ w
IsFront true x w u = (t : Terminal) × (x ≡ Some t) × (u ≡ t ∷ w)

-- What is derived from one state, where something is derived from the next one.
pub record Backed (e : Edition) (ts : List Terminal) (J : List Pending) (at : ℕ) (m : Option ℕ) (w : List Terminal) (es : List Event) (M : List Pending) (c : ℕ) (k : Option ℕ)
    (d : Derives e (bare M) w es) : Type 0 where
  pub taken : Bool
  pub next : c ≡ past taken at
  pub tokens : List Terminal
  pub front : IsFront taken (next_terminal ts at) w tokens
  pub events : List Event
  pub derives : Derives e (bare J) tokens events
  pub before : List Opening
  pub marks : (os : List Opening) → AreMarked m os → AreMarked k (os ++ before)
  pub told : openings e (bare J) tokens events derives J at ≡ before ++ openings e (bare M) w es d M c

abbrev pub Returns : Edition → List Terminal → List Pending → ℕ → Option ℕ → machine.Advance → Type 0
Returns e ts J at m (machine.advances fs M c k) =
    (w : List Terminal) (es : List Event) (d : Derives e (bare M) w es) → (c ≡ at → head w ≡ next_terminal ts at) → Backed e ts J at m w es M c k d
Returns e ts J at m machine.fails = Unit {0}
Returns e ts J at m machine.ends = Unit {0}

-- how a choice is put before what its steps derive
abbrev Wrap : Edition → Level → Choice → List Pending → Pending → List Pending → ℕ → Type 0
Wrap e l c base o K at =
    (t : Terminal) (w : List Terminal) (es : List Event) → contains c.on t ≡ true → (d : Derives e (c.steps ++ bare base) (left c.take t w) es)
    → (f : Derives e (o.step ∷ bare K) (t ∷ w) (noted c.take ++ es))
    × (openings e (o.step ∷ bare K) (t ∷ w) (noted c.take ++ es) f (o ∷ K) at
    ≡ opening l o at ++ openings e (c.steps ++ bare base) (left c.take t w) es d (steps_in c.steps (behind_choice c.take (inside l o) at) ++ base) (next_at c.take at))

wrapped : (e : Edition) (ts : List Terminal) (l : Level) (c : Choice) (base : List Pending) (o : Pending) (K : List Pending) (at : ℕ) → Wrap e l c base o K at
    → (m : Take) → c.take ≡ m → (t : Terminal) (v w : List Terminal) (es : List Event) → contains c.on t ≡ true → v ≡ left m t w
    → (d : Derives e (bare (steps_in c.steps (behind_choice m (inside l o) at) ++ base)) v es)
    → (f : Derives e (o.step ∷ bare K) (t ∷ w) (noted c.take ++ es))
    × (openings e (o.step ∷ bare K) (t ∷ w) (noted c.take ++ es) f (o ∷ K) at
    ≡ opening l o at ++ openings e (bare (steps_in c.steps (behind_choice m (inside l o) at) ++ base)) v es d (steps_in c.steps (behind_choice m (inside l o) at) ++ base) (next_at m at))
wrapped e ts l c base o K at wrap m h t v w es y n d =
    let M = steps_in c.steps (behind_choice m (inside l o) at) ++ base in
    let F = steps_in c.steps (behind_choice c.take (inside l o) at) ++ base in
    let s = same_derivation e (bare M) (c.steps ++ bare base) v (left c.take t w) es (bare-steps c.steps (behind_choice m (inside l o) at) base)
    (n ∙ ap (λ (z : Take). left z t w) (sym h)) d F (next_at c.take at) in
    let r = wrap t w es y s.0 in (
      r.0,
      r.1 ∙ ap (λ (z : List Opening). opening l o at ++ z)
          (sym s.1
          ∙ ap (λ (z : Take). openings e (bare M) v es d (steps_in c.steps (behind_choice z (inside l o) at) ++ base) (next_at z at)) h),
    )

taking-returns : (e : Edition) (ts : List Terminal) (l : Level) (c : Choice) (base : List Pending) (o : Pending) (K : List Pending) (at : ℕ) (k : Option ℕ) → Wrap e l c base o K at
    → (t : Terminal) → next_terminal ts at ≡ Some t → contains c.on t ≡ true
    → (m : Take) → c.take ≡ m → Returns e ts (o ∷ K) at k (machine.taking m at c.steps (inside l o) base (marked l o at k))
taking-returns e ts l c base o K at k wrap t n y take.Keep h = λ w es d look.
    let r = wrapped e ts l c base o K at wrap take.Keep h t w w es y refl d in
    record { taken = true; next = refl; tokens = t ∷ w; front = (t, n, refl); events = noted c.take ++ es; derives = r.0; before = opening l o at; marks = marks-on l o at k; told = r.1 }
taking-returns e ts l c base o K at k wrap t n y take.Skip h = λ w es d look.
    let r = wrapped e ts l c base o K at wrap take.Skip h t w w es y refl d in
    record { taken = true; next = refl; tokens = t ∷ w; front = (t, n, refl); events = noted c.take ++ es; derives = r.0; before = opening l o at; marks = marks-on l o at k; told = r.1 }
taking-returns e ts l c base o K at k wrap t n y take.Look h = go
  where
    HasSome : Option Terminal → Type 0
    HasSome None = ⊥
    HasSome (Some x) = Unit {0}

    the_one : Terminal → Option Terminal → Terminal
    the_one z None = z
    the_one z (Some s) = s

    go : Returns e ts (o ∷ K) at k (machine.taking take.Look at c.steps (inside l o) base (marked l o at k))
    go [] es d look = absurd (subst HasSome (sym (look refl ∙ n)) tt)
    go (x ∷ w) es d look =
        let is : x ≡ t = ap (the_one t) (look refl ∙ n) in
        let r = wrapped e ts l c base o K at wrap take.Look h x (x ∷ w) w es (ap (contains c.on) is ∙ y) refl d in
        record { taken = false; next = refl; tokens = x ∷ w; front = refl; events = noted c.take ++ es; derives = r.0; before = opening l o at; marks = marks-on l o at k; told = r.1 }

turning-returns : (e : Edition) (ts : List Terminal) (p : Place) (base : List Pending) (o : Pending) (K : List Pending) (at : ℕ) (m : Option ℕ)
    → (r : Turn) → ((c : Choice) → IsAmong c (alternatives e p) → turn c.take c.steps ≡ r → Wrap e (level_of p) c base o K at)
    → (t : Terminal) → next_terminal ts at ≡ Some t → IsTurn (alternatives e p) t r → Returns e ts (o ∷ K) at m (machine.turning p r o at base m)
turning-returns e ts p base o K at m r wrap t n i =
    subst (λ (x : Turn). Returns e ts (o ∷ K) at m (machine.turning p x o at base m)) i.is
    (taking-returns e ts (level_of p) i.choice base o K at m (wrap i.choice i.among i.is) t n i.has i.choice.take refl)

-- at the next token a turn is chosen or not
abbrev At : Edition → List Terminal → Place → ℕ → Option Turn → Type 0
At e ts p at None = Unit {0}
At e ts p at (Some r) = (t : Terminal) × (next_terminal ts at ≡ Some t) × IsTurn (alternatives e p) t r

chosen-at : (e : Edition) (ts : List Terminal) (p : Place) (at : ℕ) (x : Option Terminal) → next_terminal ts at ≡ x → At e ts p at (chosen e p x)
chosen-at e ts p at None n = tt
chosen-at e ts p at (Some t) n = widen (chosen e p (Some t)) (chosen-turn (alternatives e p) t)
  where
    widen : (r : Option Turn) → Chosen (alternatives e p) t r → At e ts p at r
    widen None h = tt
    widen (Some r) h = (t, n, h)

call-wraps : (e : Edition) (p : Place) (o : Pending) (K : List Pending) (at : ℕ) → o.step ≡ step.Call p → (c : Choice) → IsAmong c (alternatives e p) → Wrap e (level_of p) c K o K at
call-wraps e p o K at h c among t w es y d =
    let s = same_derivation e (step.Call p ∷ bare K) (o.step ∷ bare K) (t ∷ w) (t ∷ w) (noted c.take ++ es) (ap (λ (s : Step). s ∷ bare K) (sym h)) refl
    (call p c t (bare K) w es among y d) (o ∷ K) at in
    (s.0, sym s.1)

many-wraps : (e : Edition) (p : Place) (o : Pending) (K : List Pending) (at : ℕ) → o.step ≡ step.Many p → (c : Choice) → IsAmong c (alternatives e p) → takes c.take ≡ true
    → Wrap e (level_of p) c (as_step o (step.Make form.Add) ∷ (o ∷ K)) o K at
many-wraps e p o K at h c among k t w es y d =
    let T = step.Make form.Add ∷ (step.Many p ∷ bare K) in
    let F = steps_in c.steps (behind_choice c.take (inside (level_of p) o) at) ++ (as_step o (step.Make form.Add) ∷ (o ∷ K)) in
    let q = same_derivation e (c.steps ++ (step.Make form.Add ∷ (o.step ∷ bare K))) (c.steps ++ T) (left c.take t w) (left c.take t w) es
    (ap (λ (s : Step). c.steps ++ (step.Make form.Add ∷ (s ∷ bare K))) h) refl d F (next_at c.take at) in
    let s = same_derivation e (step.Many p ∷ bare K) (o.step ∷ bare K) (t ∷ w) (t ∷ w) (noted c.take ++ es) (ap (λ (s : Step). s ∷ bare K) (sym h)) refl
    (more p c t (bare K) w es among y k q.0) (o ∷ K) at in
    (s.0, sym s.1 ∙ ap (λ (z : List Opening). opening (level_of p) o at ++ z) (sym q.1))

call-returns : (e : Edition) (ts : List Terminal) (p : Place) (o : Pending) (K : List Pending) (at : ℕ) (m : Option ℕ) → o.step ≡ step.Call p
    → (r : Option Turn) → chosen e p (next_terminal ts at) ≡ r → At e ts p at r → (z : Option (List Step)) → otherwise p ≡ z → Returns e ts (o ∷ K) at m (machine.called r z p o at K m)
call-returns e ts p o K at m h (Some r) j a z k = turning-returns e ts p K o K at m r (λ c x i. call-wraps e p o K at h c x) a.0 a.1 a.2
call-returns e ts p o K at m h None j a None k = tt
call-returns e ts p o K at m h None j a (Some ss) k = λ w es d look.
    let M = steps_in ss o ++ K in
    let q = same_derivation e (bare M) (ss ++ bare K) w w es (bare-steps ss o K) refl d M at in
    let s = same_derivation e (step.Call p ∷ bare K) (o.step ∷ bare K) w w es (ap (λ (s : Step). s ∷ bare K) (sym h)) refl
    (pass p ss (bare K) w es k q.0) (o ∷ K) at in
    record {
      taken = false;
      next = refl;
      tokens = w;
      front = refl;
      events = es;
      derives = s.0;
      before = [];
      marks = marks-nothing m;
      told = sym s.1 ∙ sym q.1;
    }

none-returns : (e : Edition) (ts : List Terminal) (p : Place) (o : Pending) (K : List Pending) (at : ℕ) (m : Option ℕ) → o.step ≡ step.Many p → Returns e ts (o ∷ K) at m (machine.repeated None p o at K m)
none-returns e ts p o K at m h w es d look =
    let s = same_derivation e (step.Many p ∷ bare K) (o.step ∷ bare K) w w es (ap (λ (s : Step). s ∷ bare K) (sym h)) refl (stop p (bare K) w es d) (o ∷ K) at in
    record { taken = false; next = refl; tokens = w; front = refl; events = es; derives = s.0; before = []; marks = marks-nothing m; told = sym s.1 }

many-returns : (e : Edition) (ts : List Terminal) (p : Place) (o : Pending) (K : List Pending) (at : ℕ) (m : Option ℕ) → o.step ≡ step.Many p
    → (r : Option Turn) → At e ts p at r → Returns e ts (o ∷ K) at m (machine.repeated (as_part r) p o at K m)
many-returns e ts p o K at m h (Some r) a = go (takes r.take) refl
  where
    go : (b : Bool) → takes r.take ≡ b → Returns e ts (o ∷ K) at m (machine.repeated (if b then Some r else None) p o at K m)
    go false k = none-returns e ts p o K at m h
    go true k = turning-returns e ts p (as_step o (step.Make form.Add) ∷ (o ∷ K)) o K at m r
        (λ c x i. many-wraps e p o K at h c x (ap (λ (z : Turn). takes z.take) i ∙ k)) a.0 a.1 a.2
many-returns e ts p o K at m h None a = none-returns e ts p o K at m h

skip-returns : (e : Edition) (ts : List Terminal) (x : Terminal) (o : Pending) (K : List Pending) (at : ℕ) (m : Option ℕ) → o.step ≡ step.Skip x
    → (n : Option Terminal) → next_terminal ts at ≡ n → Returns e ts (o ∷ K) at m (machine.token event.Skip x n at K m)
skip-returns e ts x o K at m h None n = tt
skip-returns e ts x o K at m h (Some t) n = go (same x t) refl
  where
    go : (b : Bool) → same x t ≡ b → Returns e ts (o ∷ K) at m (if b then machine.advances (event.Skip ∷ []) K (at + 1) m else machine.fails)
    go false y = tt
    go true y = λ w es d look.
        let s = same_derivation e (step.Skip x ∷ bare K) (o.step ∷ bare K) (t ∷ w) (t ∷ w) (event.Skip ∷ es) (ap (λ (s : Step). s ∷ bare K) (sym h)) refl
        (skip x t (bare K) w es y d) (o ∷ K) at in
        record { taken = true; next = refl; tokens = t ∷ w; front = (t, n, refl); events = event.Skip ∷ es; derives = s.0; before = []; marks = marks-nothing m; told = sym s.1 }

keep-returns : (e : Edition) (ts : List Terminal) (x : Terminal) (o : Pending) (K : List Pending) (at : ℕ) (m : Option ℕ) → o.step ≡ step.Keep x
    → (n : Option Terminal) → next_terminal ts at ≡ n → Returns e ts (o ∷ K) at m (machine.token event.Keep x n at K m)
keep-returns e ts x o K at m h None n = tt
keep-returns e ts x o K at m h (Some t) n = go (same x t) refl
  where
    go : (b : Bool) → same x t ≡ b → Returns e ts (o ∷ K) at m (if b then machine.advances (event.Keep ∷ []) K (at + 1) m else machine.fails)
    go false y = tt
    go true y = λ w es d look.
        let s = same_derivation e (step.Keep x ∷ bare K) (o.step ∷ bare K) (t ∷ w) (t ∷ w) (event.Keep ∷ es) (ap (λ (s : Step). s ∷ bare K) (sym h)) refl
        (keep x t (bare K) w es y d) (o ∷ K) at in
        record { taken = true; next = refl; tokens = t ∷ w; front = (t, n, refl); events = event.Keep ∷ es; derives = s.0; before = []; marks = marks-nothing m; told = sym s.1 }

step-returns : (e : Edition) (ts : List Terminal) (o : Pending) (K : List Pending) (at : ℕ) (m : Option ℕ) → (s : Step) → o.step ≡ s
    → Returns e ts (o ∷ K) at m (machine.advance_of e (next_terminal ts at) s o at K m)
step-returns e ts o K at m (step.Call p) h = call-returns e ts p o K at m h (chosen e p (next_terminal ts at)) refl (chosen-at e ts p at (next_terminal ts at) refl) (otherwise p) refl
step-returns e ts o K at m (step.Many p) h = many-returns e ts p o K at m h (chosen e p (next_terminal ts at)) (chosen-at e ts p at (next_terminal ts at) refl)
step-returns e ts o K at m (step.Skip x) h = skip-returns e ts x o K at m h (next_terminal ts at) refl
step-returns e ts o K at m (step.Keep x) h = keep-returns e ts x o K at m h (next_terminal ts at) refl
step-returns e ts o K at m (step.Make x) h = λ w es d look.
    let s = same_derivation e (step.Make x ∷ bare K) (o.step ∷ bare K) w w (event.Make x ∷ es) (ap (λ (s : Step). s ∷ bare K) (sym h)) refl (make x (bare K) w es d) (o ∷ K) at in
    record { taken = false; next = refl; tokens = w; front = refl; events = event.Make x ∷ es; derives = s.0; before = []; marks = marks-nothing m; told = sym s.1 }

-- What is derived from the next state is derived from this one, behind the token that the move takes.
pub returns : (e : Edition) (ts : List Terminal) (o : Pending) (K : List Pending) (at : ℕ) (m : Option ℕ) → Returns e ts (o ∷ K) at m (machine.advance e ts (o ∷ K) at m)
returns e ts o K at m = step-returns e ts o K at m o.step refl
