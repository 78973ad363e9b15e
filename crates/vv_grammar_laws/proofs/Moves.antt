-- One move of the machine: what is derived from its state starts with it, with the same depths.
use Rattle.std.proofs.Common.{◌≡◌, ℕ, ◌+◌, Bool, true, false, if◌then◌else◌, List, [], ◌∷◌, ◌++◌, Option, Some, None, refl, sym, ap, ◌∙◌, subst}
use Rattle.vv_grammar.specs.declared.edition.Edition.{Edition}
use Rattle.vv_grammar.specs.declared.event.Event.{Event}
use Rattle.vv_grammar.specs.declared.event.Event.TheVariants as event
use Rattle.vv_grammar.specs.declared.form.Form.TheVariants as form
use Rattle.vv_machine.specs.declared.stack.Pending.{Pending}
use Rattle.vv_grammar.specs.declared.step.Step.{Step}
use Rattle.vv_grammar.specs.declared.step.Step.TheVariants as step
use Rattle.vv_grammar.specs.declared.step.Take.{Take}
use Rattle.vv_grammar.specs.declared.step.Take.TheVariants as take
use Rattle.vv_grammar.specs.declared.terminal.Terminal.{Terminal}
use Rattle.vv_grammar.specs.Table.{otherwise, level_of}
use Rattle.vv_machine.specs.Machine as machine
use Rattle.vv_machine.specs.Machine.{Turn, turn, takes, as_part, chosen, next_terminal, inside, marked, as_step, begun, steps_in}
use Rattle.vv_grammar_laws.specs.Derivations.{left, Derives, done, make, skip, keep, call, pass, stop, more}
use Rattle.vv_grammar_laws.proofs.Sets.{follow}
use Rattle.vv_grammar_laws.proofs.Followed.{Good, good-append, starts, is_else}
use Rattle.vv_grammar_laws.proofs.Plain.{head, behind, turn-chosen, stop-chosen, pass-chosen, call-good}
use Rattle.vv_grammar_laws.proofs.Bridge.{bare, bare-steps, past}
use Rattle.vv_grammar_laws.specs.Depths.{Opening, opening, behind_choice, next_at, openings}
use Rattle.vv_grammar_laws.proofs.Marks.{AreMarked, marks-on, marks-nothing}

-- What is derived from a state goes on from the next one.
pub record Onward (e : Edition) (at : ℕ) (u : List Terminal) (all : List Opening) (m : Option ℕ) (M : List Pending) (c : ℕ) (k : Option ℕ) : Type 0 where
  pub taken : Bool
  pub next : c ≡ past taken at
  pub steps : List Step
  pub are : bare M ≡ steps
  pub events : List Event
  pub derives : Derives e steps (behind taken u) events
  pub before : List Opening
  pub marks : (os : List Opening) → AreMarked m os → AreMarked k (os ++ before)
  pub told : all ≡ before ++ openings e steps (behind taken u) events derives M c
  pub good : Good steps

abbrev pub Inverted : Edition → ℕ → List Terminal → List Opening → Option ℕ → machine.Advance → Type 0
Inverted e at u all m (machine.advances fs M c k) = Onward e at u all m M c k
Inverted e at u all m machine.fails = ⊥
Inverted e at u all m machine.ends = ⊥

taking-inverted : (e : Edition) (k : Take) (ss S : List Step) (t : Terminal) (u : List Terminal) (es : List Event) (base : List Pending) (os : List Opening) (i : Pending) (at : ℕ) (m n : Option ℕ)
    → bare base ≡ S → (d : Derives e (ss ++ S) (left k t u) es) → Good (ss ++ S) → ((bs : List Opening) → AreMarked m bs → AreMarked n (bs ++ os))
    → Inverted e at (t ∷ u) (os ++ openings e (ss ++ S) (left k t u) es d (steps_in ss (behind_choice k i at) ++ base) (next_at k at)) m (machine.taking k at ss i base n)
taking-inverted e take.Keep ss S t u es base os i at m n b d g h = record {
  taken = true;
  next = refl;
  steps = ss ++ S;
  are = bare-steps ss (begun i at) base ∙ ap (λ (z : List Step). ss ++ z) b;
  events = es;
  derives = d;
  before = os;
  marks = h;
  told = refl;
  good = g;
}
taking-inverted e take.Skip ss S t u es base os i at m n b d g h = record {
  taken = true;
  next = refl;
  steps = ss ++ S;
  are = bare-steps ss (begun i at) base ∙ ap (λ (z : List Step). ss ++ z) b;
  events = es;
  derives = d;
  before = os;
  marks = h;
  told = refl;
  good = g;
}
taking-inverted e take.Look ss S t u es base os i at m n b d g h = record {
  taken = false;
  next = refl;
  steps = ss ++ S;
  are = bare-steps ss i base ∙ ap (λ (z : List Step). ss ++ z) b;
  events = es;
  derives = d;
  before = os;
  marks = h;
  told = refl;
  good = g;
}

abbrev lead : Step → List Step → Step
lead s [] = s
lead s (x ∷ K) = x

abbrev trail : List Step → List Step
trail [] = []
trail (x ∷ K) = K

abbrev IsSome : List Step → Type 0
IsSome [] = ⊥
IsSome (s ∷ K) = Unit {0}

-- What is derived from a state of the machine begins with its move.
pub inverted : (e : Edition) (R : List Step) (u : List Terminal) (es : List Event) (d : Derives e R u es) → Good R
    → (ts : List Terminal) (o : Pending) (K : List Pending) (at : ℕ) (m : Option ℕ) → bare (o ∷ K) ≡ R → head u ≡ next_terminal ts at
    → Inverted e at u (openings e R u es d (o ∷ K) at) m (machine.advance_of e (next_terminal ts at) o.step o at K m)
inverted e _ _ _ done g ts o K at m h n = absurd (subst IsSome h tt)
inverted e _ _ _ (make x R u es d) g ts o K at m h n =
    subst (λ (s : Step). Inverted e at u (openings e R u es d K at) m (machine.advance_of e (next_terminal ts at) s o at K m)) (sym (ap (lead o.step) h))
    (record { taken = false; next = refl; steps = R; are = ap trail h; events = es; derives = d; before = []; marks = marks-nothing m; told = refl; good = g })
inverted e _ _ _ (skip w t R u es y d) g ts o K at m h n =
    subst (λ (s : Step). Inverted e at (t ∷ u) (openings e R u es d K (at + 1)) m (machine.advance_of e (next_terminal ts at) s o at K m)) (sym (ap (lead o.step) h))
    (subst (λ (z : Option Terminal). Inverted e at (t ∷ u) (openings e R u es d K (at + 1)) m (machine.token event.Skip w z at K m)) n
    (subst (λ (z : Bool). Inverted e at (t ∷ u) (openings e R u es d K (at + 1)) m (if z then machine.advances (event.Skip ∷ []) K (at + 1) m else machine.fails)) (sym y)
    (record { taken = true; next = refl; steps = R; are = ap trail h; events = es; derives = d; before = []; marks = marks-nothing m; told = refl; good = g })))
inverted e _ _ _ (keep w t R u es y d) g ts o K at m h n =
    subst (λ (s : Step). Inverted e at (t ∷ u) (openings e R u es d K (at + 1)) m (machine.advance_of e (next_terminal ts at) s o at K m)) (sym (ap (lead o.step) h))
    (subst (λ (z : Option Terminal). Inverted e at (t ∷ u) (openings e R u es d K (at + 1)) m (machine.token event.Keep w z at K m)) n
    (subst (λ (z : Bool). Inverted e at (t ∷ u) (openings e R u es d K (at + 1)) m (if z then machine.advances (event.Keep ∷ []) K (at + 1) m else machine.fails)) (sym y)
    (record { taken = true; next = refl; steps = R; are = ap trail h; events = es; derives = d; before = []; marks = marks-nothing m; told = refl; good = g })))
inverted e _ _ _ (call p c t R u es a y d) g ts o K at m h n =
    let all = openings e (step.Call p ∷ R) (t ∷ u) _ (call p c t R u es a y d) (o ∷ K) at in
    subst (λ (s : Step). Inverted e at (t ∷ u) all m (machine.advance_of e (next_terminal ts at) s o at K m)) (sym (ap (lead o.step) h))
    (subst (λ (z : Option Turn). Inverted e at (t ∷ u) all m (machine.called z (otherwise p) p o at K m)) (sym (turn-chosen e p c t a y) ∙ ap (chosen e p) n)
    (taking-inverted e c.take c.steps R t u es K (opening (level_of p) o at) (inside (level_of p) o) at m (marked (level_of p) o at m) (ap trail h) d (call-good e p c R a g.0 g.1)
    (marks-on (level_of p) o at m)))
inverted e _ _ _ (pass p ss R u es x d) g ts o K at m h n =
    let all = openings e (ss ++ R) u es d (steps_in ss o ++ K) at in
    subst (λ (s : Step). Inverted e at u all m (machine.advance_of e (next_terminal ts at) s o at K m)) (sym (ap (lead o.step) h))
    (subst (λ (z : Option Turn). Inverted e at u all m (machine.called z (otherwise p) p o at K m))
    (sym (pass-chosen e p ss R u x g.0 (starts e (ss ++ R) u es d)) ∙ ap (chosen e p) n)
    (subst (λ (z : Option (List Step)). Inverted e at u all m (machine.called None z p o at K m)) (sym x)
    (record {
      taken = false;
      next = refl;
      steps = ss ++ R;
      are = bare-steps ss o K ∙ ap (λ (z : List Step). ss ++ z) (ap trail h);
      events = es;
      derives = d;
      before = [];
      marks = marks-nothing m;
      told = refl;
      good = good-append ss R (follow p) (is_else e p ss x).fit g.0 g.1;
    })))
inverted e _ _ _ (stop p R u es d) g ts o K at m h n =
    let all = openings e R u es d K at in
    subst (λ (s : Step). Inverted e at u all m (machine.advance_of e (next_terminal ts at) s o at K m)) (sym (ap (lead o.step) h))
    (subst (λ (z : Option Turn). Inverted e at u all m (machine.repeated (as_part z) p o at K m)) (sym (stop-chosen e p R u g.1 (starts e R u es d)) ∙ ap (chosen e p) n)
    (record { taken = false; next = refl; steps = R; are = ap trail h; events = es; derives = d; before = []; marks = marks-nothing m; told = refl; good = g.2 }))
inverted e _ _ _ (more p c t R u es a y k d) g ts o K at m h n =
    let base = as_step o (step.Make form.Add) ∷ (o ∷ K) in
    let all = openings e (step.Many p ∷ R) (t ∷ u) _ (more p c t R u es a y k d) (o ∷ K) at in
    subst (λ (s : Step). Inverted e at (t ∷ u) all m (machine.advance_of e (next_terminal ts at) s o at K m)) (sym (ap (lead o.step) h))
    (subst (λ (z : Option Turn). Inverted e at (t ∷ u) all m (machine.repeated (as_part z) p o at K m)) (sym (turn-chosen e p c t a y) ∙ ap (chosen e p) n)
    (subst (λ (b : Bool). Inverted e at (t ∷ u) all m (machine.repeated (if b then Some (turn c.take c.steps) else None) p o at K m)) (sym k)
    (taking-inverted e c.take c.steps (step.Make form.Add ∷ (step.Many p ∷ R)) t u es base (opening (level_of p) o at) (inside (level_of p) o) at m (marked (level_of p) o at m)
    (ap (λ (z : List Step). step.Make form.Add ∷ z) h) d (call-good e p c (step.Make form.Add ∷ (step.Many p ∷ R)) a g.0 g) (marks-on (level_of p) o at m))))
