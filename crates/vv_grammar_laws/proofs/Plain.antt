-- The machine without levels: what is derived is gone through, and in one way.
use Rattle.std.proofs.Common.{◌≡◌, inl, inr, ℕ, Bool, true, false, if◌then◌else◌, List, [], ◌∷◌, ◌++◌, Option, Some, None, refl, sym, ap, ◌∙◌, subst}
use Rattle.std.proofs.lemmas.Bool.{and_parts, cases_Bool}
use Rattle.vv_grammar.specs.declared.edition.Edition.{Edition}
use Rattle.vv_grammar.specs.declared.event.Event.{Event}
use Rattle.vv_grammar.specs.declared.event.Event.TheVariants as event
use Rattle.vv_grammar.specs.declared.form.Form.TheVariants as form
use Rattle.vv_grammar.specs.declared.place.Place.{Place}
use Rattle.vv_grammar.specs.declared.step.Step.{Step}
use Rattle.vv_grammar.specs.declared.step.Step.TheVariants as step
use Rattle.vv_grammar.specs.declared.terminal.Terminal.{Terminal}
use Rattle.vv_grammar.specs.Terminals.{same, contains}
use Rattle.vv_grammar.specs.Table.{Choice, alternatives, otherwise}
use Rattle.vv_machine.specs.Machine.{Turn, turn, choose, chosen, takes, as_part}
use Rattle.vv_grammar.specs.declared.step.Take.{Take}
use Rattle.vv_grammar.specs.declared.step.Take.TheVariants as take
use Rattle.vv_grammar_laws.specs.Derivations.{IsAmong, first as here, later, left, noted, Derives, done, make, skip, keep, call, pass, stop, more}
use Rattle.vv_grammar_laws.proofs.Codes.{code, has, has-left, has-right, within-has, apart, apart-has, codes, codes-has}
use Rattle.vv_grammar_laws.proofs.Sets.{first, follow}
use Rattle.vv_grammar_laws.proofs.Check.{firsts, turns, are_single}
use Rattle.vv_grammar_laws.proofs.Followed.{Within, Apart, Good, Begins, starts, firsts-append, firsts-mono, good-append, is_checked, is_else, among-turns, among-fits}

-- What one step makes of the steps that are to come, by the next token alone.
pub data Act : Type 0 where
  -- events happen, these steps are still to come, and the next token is taken or not
  goes : List Event → List Step → Bool → Act
  stuck : Act
  over : Act

abbrev pub turned : Turn → List Step → Act
turned r K = goes (noted r.take) (r.steps ++ K) (takes r.take)

abbrev pub called : Option Turn → Option (List Step) → List Step → Act
called (Some r) o K = turned r K
called None (Some ss) K = goes [] (ss ++ K) false
called None None K = stuck

abbrev pub repeated : Option Turn → Place → List Step → Act
repeated (Some r) p K = turned r (step.Make form.Add ∷ step.Many p ∷ K)
repeated None p K = goes [] K false

abbrev pub token : Event → Terminal → Option Terminal → List Step → Act
token f w None K = stuck
token f w (Some t) K = if same w t then goes (f ∷ []) K true else stuck

abbrev pub act_of : Edition → Step → Option Terminal → List Step → Act
act_of e (step.Call p) t K = called (chosen e p t) (otherwise p) K
act_of e (step.Many p) t K = repeated (as_part (chosen e p t)) p K
act_of e (step.Skip w) t K = token event.Skip w t K
act_of e (step.Keep w) t K = token event.Keep w t K
act_of e (step.Make f) t K = goes (event.Make f ∷ []) K false

abbrev pub act : Edition → List Step → Option Terminal → Act
act e [] t = over
act e (s ∷ K) t = act_of e s t K

abbrev pub head : List Terminal → Option Terminal
head [] = None
head (t ∷ u) = Some t

abbrev pub behind : Bool → List Terminal → List Terminal
behind false u = u
behind true [] = []
behind true (t ∷ u) = u

-- step by step to the end of the steps and the tokens
pub data Runs (e : Edition) : List Step → List Terminal → List Event → Type 0 where
  end : Runs e [] [] []
  move : (K L : List Step) (u : List Terminal) (b : Bool) (es fs : List Event) → act e K (head u) ≡ goes es L b → Runs e L (behind b u) fs → Runs e K u (es ++ fs)

-- an alternative that has the token is the one that is chosen
none-turn : (cs : List Choice) (t : Terminal) → (has (turns cs) (code t) ≡ true → ⊥) → choose cs t ≡ None
none-turn [] t h = refl
none-turn (c ∷ cs) t h = elim (cases_Bool (contains c.on t)) [
  | inl y ↦ absurd (h (has-left (codes c.on) (turns cs) (code t) (codes-has c.on t y)))
  | inr n ↦ ap (λ (b : Bool). if b then Some (turn c.take c.steps) else choose cs t) n ∙ none-turn cs t (λ k. h (has-right (codes c.on) (turns cs) (code t) k))
]

one-turn : (c : Choice) (cs : List Choice) (t : Terminal) → are_single cs ≡ true → IsAmong c cs → contains c.on t ≡ true → choose cs t ≡ Some (turn c.take c.steps)
one-turn c [] t s a h = elim a [ ]
one-turn c (_ ∷ cs) t s (here _ _) h = ap (λ (b : Bool). if b then Some (turn c.take c.steps) else choose cs t) h
one-turn c (_ ∷ cs) t s (later _ d _ a) h =
    let both = and_parts (apart (codes d.on) (turns cs)) (are_single cs) s in
    elim (cases_Bool (contains d.on t)) [
      | inl y ↦ absurd (apart-has (codes d.on) (turns cs) (code t) both.0 (codes-has d.on t y) (among-turns c cs t a h))
      | inr n ↦ ap (λ (b : Bool). if b then Some (turn d.take d.steps) else choose cs t) n ∙ one-turn c cs t both.1 a h
    ]

pub turn-chosen : (e : Edition) (p : Place) (c : Choice) (t : Terminal) → IsAmong c (alternatives e p) → contains c.on t ≡ true → choose (alternatives e p) t ≡ Some (turn c.take c.steps)
turn-chosen e p c t a h = one-turn c (alternatives e p) t (is_checked e p).single a h

-- where a list ends, no alternative has the next token
pub stop-chosen : (e : Edition) (p : Place) (K : List Step) (u : List Terminal) → Apart (firsts K []) (first p) → Begins u (firsts K []) → chosen e p (head u) ≡ None
stop-chosen e p K [] n b = refl
stop-chosen e p K (t ∷ u) n b = none-turn (alternatives e p) t (λ h. n (code t) b (within-has (turns (alternatives e p)) (first p) (code t) (is_checked e p).turns_in h))

-- where a place goes on otherwise, no alternative has the next token
pub pass-chosen : (e : Edition) (p : Place) (ss K : List Step) (u : List Terminal) → otherwise p ≡ Some ss → Within (firsts K []) (follow p)
    → Begins u (firsts (ss ++ K) []) → chosen e p (head u) ≡ None
pass-chosen e p ss K [] o w b = refl
pass-chosen e p ss K (t ∷ u) o w b =
    none-turn (alternatives e p) t (λ h. apart-has (firsts ss (follow p)) (turns (alternatives e p)) (code t) (is_else e p ss o).told (at (code t) b) h)
  where
    at : Within (firsts (ss ++ K) []) (firsts ss (follow p))
    at c h = firsts-mono ss (firsts K []) (follow p) w c (ap (λ (xs : List ℕ). has xs c) (sym (firsts-append ss K)) ∙ h)

pub call-good : (e : Edition) (p : Place) (c : Choice) (K : List Step) → IsAmong c (alternatives e p) → Within (firsts K []) (follow p) → Good K → Good (c.steps ++ K)
call-good e p c K a w g = good-append c.steps K (follow p) (among-fits c (alternatives e p) (follow p) a (is_checked e p).each) w g

left-behind : (k : Take) (t : Terminal) (u : List Terminal) → left k t u ≡ behind (takes k) (t ∷ u)
left-behind take.Keep t u = refl
left-behind take.Skip t u = refl
left-behind take.Look t u = refl

turn-runs : (e : Edition) (c : Choice) (t : Terminal) (L : List Step) (u : List Terminal) (es : List Event)
    → Runs e L (left c.take t u) es → Runs e L (behind (takes c.take) (t ∷ u)) es
turn-runs e c t L u es r = subst (λ (v : List Terminal). Runs e L v es) (left-behind c.take t u) r

-- What is derived is gone through.
pub forward : (e : Edition) (K : List Step) (u : List Terminal) (es : List Event) → Derives e K u es → Good K → Runs e K u es
forward e _ _ _ done g = end
forward e _ _ _ (make f K u es d) g = move (step.Make f ∷ K) K u false (event.Make f ∷ []) es refl (forward e K u es d g)
forward e _ _ _ (skip w t K u es s d) g =
    move (step.Skip w ∷ K) K (t ∷ u) true (event.Skip ∷ []) es (ap (λ (b : Bool). if b then goes (event.Skip ∷ []) K true else stuck) s) (forward e K u es d g)
forward e _ _ _ (keep w t K u es s d) g =
    move (step.Keep w ∷ K) K (t ∷ u) true (event.Keep ∷ []) es (ap (λ (b : Bool). if b then goes (event.Keep ∷ []) K true else stuck) s) (forward e K u es d g)
forward e _ _ _ (call p c t K u es a h d) g =
    move (step.Call p ∷ K) (c.steps ++ K) (t ∷ u) (takes c.take) (noted c.take) es
    (ap (λ (r : Option Turn). called r (otherwise p) K) (turn-chosen e p c t a h))
    (turn-runs e c t (c.steps ++ K) u es (forward e (c.steps ++ K) (left c.take t u) es d (call-good e p c K a g.0 g.1)))
forward e _ _ _ (pass p ss K u es o d) g =
    move (step.Call p ∷ K) (ss ++ K) u false [] es
    (ap (λ (r : Option Turn). called r (otherwise p) K) (pass-chosen e p ss K u o g.0 (starts e (ss ++ K) u es d))
    ∙ ap (λ (o : Option (List Step)). called None o K) o)
    (forward e (ss ++ K) u es d (good-append ss K (follow p) (is_else e p ss o).fit g.0 g.1))
forward e _ _ _ (stop p K u es d) g =
    move (step.Many p ∷ K) K u false [] es
    (ap (λ (r : Option Turn). repeated (as_part r) p K) (stop-chosen e p K u g.1 (starts e K u es d)))
    (forward e K u es d g.2)
forward e _ _ _ (more p c t K u es a h k d) g =
    move (step.Many p ∷ K) (c.steps ++ (step.Make form.Add ∷ step.Many p ∷ K)) (t ∷ u) (takes c.take) (noted c.take) es
    (ap (λ (r : Option Turn). repeated r p K) (ap as_part (turn-chosen e p c t a h) ∙ ap (λ (b : Bool). if b then Some (turn c.take c.steps) else None) k))
    (turn-runs e c t (c.steps ++ (step.Make form.Add ∷ step.Many p ∷ K)) u es (forward e (c.steps ++ (step.Make form.Add ∷ step.Many p ∷ K)) (left c.take t u) es d
    (call-good e p c (step.Make form.Add ∷ step.Many p ∷ K) a g.0 g)))

abbrev pub events_of : Act → List Event
events_of (goes es L b) = es
events_of stuck = []
events_of over = []

abbrev pub steps_of : Act → List Step
steps_of (goes es L b) = L
steps_of stuck = []
steps_of over = []

abbrev pub took : Act → Bool
took (goes es L b) = b
took stuck = false
took over = false

abbrev pub Goes : Act → Type 0
Goes (goes es L b) = Unit {0}
Goes stuck = ⊥
Goes over = ⊥

-- what a run does next is what the step does
pub data Continues (e : Edition) (K : List Step) (u : List Terminal) (fs : List Event) : Type 0 where
  continues : (rest : List Event) → fs ≡ events_of (act e K (head u)) ++ rest → Runs e (steps_of (act e K (head u))) (behind (took (act e K (head u))) u) rest → Continues e K u fs

pub continued : (e : Edition) (K : List Step) (u : List Terminal) (fs : List Event) → Goes (act e K (head u)) → Runs e K u fs → Continues e K u fs
continued e _ _ _ g end = absurd g
continued e _ _ _ g (move K L u b es fs m r) =
    continues fs (ap (λ (x : Act). events_of x ++ fs) (sym m)) (subst (λ (x : Act). Runs e (steps_of x) (behind (took x) u) fs) (sym m) r)

-- There is one way to go through.
ended : (e : Edition) (K : List Step) (u : List Terminal) (fs : List Event) → K ≡ [] → Runs e K u fs → [] ≡ fs
ended e _ _ _ k end = refl
ended e _ _ _ k (move K L u b es fs m r) = absurd (subst Goes (sym m ∙ ap (λ (x : List Step). act e x (head u)) k) tt)

pub one : (e : Edition) (K : List Step) (u : List Terminal) (es fs : List Event) → Runs e K u es → Runs e K u fs → es ≡ fs
one e _ _ _ fs end r = ended e [] [] fs refl r
one e _ _ _ fs (move K L u b xs ys m r) s =
    elim (continued e K u fs (subst Goes (sym m) tt) s) [
      | continues ds d q ↦
          ap (λ (x : List Event). xs ++ x) (one e L (behind b u) ys ds r (subst (λ (x : Act). Runs e (steps_of x) (behind (took x) u) ds) m q))
          ∙ (ap (λ (x : Act). events_of x ++ ds) (sym m) ∙ sym d)
    ]
