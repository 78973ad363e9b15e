-- What a step of the machine was, and that a derivation goes back over it.
use Rattle.std.proofs.Common.{◌≡◌, Bool, true, false, if◌then◌else◌, List, [], ◌∷◌, ◌++◌, Option, Some, None, refl, ap, ◌∙◌, subst}
use Rattle.vv_grammar.specs.declared.edition.Edition.{Edition}
use Rattle.vv_grammar.specs.declared.event.Event.{Event}
use Rattle.vv_grammar.specs.declared.event.Event.TheVariants as event
use Rattle.vv_grammar.specs.declared.form.Form.{Form}
use Rattle.vv_grammar.specs.declared.form.Form.TheVariants as form
use Rattle.vv_grammar.specs.declared.place.Place.{Place}
use Rattle.vv_grammar.specs.declared.step.Step.{Step}
use Rattle.vv_grammar.specs.declared.step.Step.TheVariants as step
use Rattle.vv_grammar.specs.declared.step.Take.{Take}
use Rattle.vv_grammar.specs.declared.step.Take.TheVariants as take
use Rattle.vv_grammar.specs.declared.terminal.Terminal.{Terminal}
use Rattle.vv_grammar.specs.Terminals.{same, contains}
use Rattle.vv_grammar.specs.Table.{Choice, alternatives, otherwise}
use Rattle.vv_machine.specs.Machine.{Turn, turn, choose, chosen, takes, as_part}
use Rattle.vv_grammar_laws.specs.Derivations.{IsAmong, first as here, later, left, noted, Derives, make, skip, keep, call, pass, stop, more}
use Rattle.vv_grammar_laws.proofs.Plain.{Act, goes, stuck, over, turned, called, repeated, act, head, behind}

pub data Acts (e : Edition) : List Step → Option Terminal → List Event → List Step → Bool → Type 0 where
  made : (f : Form) (K : List Step) (h : Option Terminal) → Acts e (step.Make f ∷ K) h (event.Make f ∷ []) K false
  skipped : (w t : Terminal) (K : List Step) → same w t ≡ true → Acts e (step.Skip w ∷ K) (Some t) (event.Skip ∷ []) K true
  kept : (w t : Terminal) (K : List Step) → same w t ≡ true → Acts e (step.Keep w ∷ K) (Some t) (event.Keep ∷ []) K true
  chose : (p : Place) (c : Choice) (t : Terminal) (K : List Step) → IsAmong c (alternatives e p) → contains c.on t ≡ true
      → Acts e (step.Call p ∷ K) (Some t) (noted c.take) (c.steps ++ K) (takes c.take)
  passed : (p : Place) (ss K : List Step) (h : Option Terminal) → otherwise p ≡ Some ss → chosen e p h ≡ None → Acts e (step.Call p ∷ K) h [] (ss ++ K) false
  stopped : (p : Place) (K : List Step) (h : Option Terminal) → Acts e (step.Many p ∷ K) h [] K false
  again : (p : Place) (c : Choice) (t : Terminal) (K : List Step) → IsAmong c (alternatives e p) → contains c.on t ≡ true → takes c.take ≡ true
      → Acts e (step.Many p ∷ K) (Some t) (noted c.take) (c.steps ++ (step.Make form.Add ∷ step.Many p ∷ K)) (takes c.take)

abbrev pub Did : Edition → List Step → Option Terminal → Act → Type 0
Did e K h (goes es L b) = Acts e K h es L b
Did e K h stuck = Unit {0}
Did e K h over = Unit {0}

-- the alternative that a choice is of
pub record IsTurn (cs : List Choice) (t : Terminal) (r : Turn) : Type 0 where
  pub choice : Choice
  pub among : IsAmong choice cs
  pub has : contains choice.on t ≡ true
  pub is : turn choice.take choice.steps ≡ r

abbrev pub Chosen : List Choice → Terminal → Option Turn → Type 0
Chosen cs t None = Unit {0}
Chosen cs t (Some r) = IsTurn cs t r

widened : (d : Choice) (cs : List Choice) (t : Terminal) (o : Option Turn) → Chosen cs t o → Chosen (d ∷ cs) t o
widened d cs t None h = tt
widened d cs t (Some r) h = record { choice = h.choice; among = later h.choice d cs h.among; has = h.has; is = h.is }

pub chosen-turn : (cs : List Choice) (t : Terminal) → Chosen cs t (choose cs t)
chosen-turn [] t = tt
chosen-turn (c ∷ cs) t = go (contains c.on t) refl (chosen-turn cs t)
  where
    go : (b : Bool) → contains c.on t ≡ b → Chosen cs t (choose cs t) → Chosen (c ∷ cs) t (if b then Some (turn c.take c.steps) else choose cs t)
    go true h k = record { choice = c; among = here c cs; has = h; is = refl }
    go false h k = widened c cs t (choose cs t) k

call-acts : (e : Edition) (p : Place) (K : List Step) (h : Option Terminal) (r : Option Turn) (o : Option (List Step))
    → chosen e p h ≡ r → otherwise p ≡ o → Did e (step.Call p ∷ K) h (called r o K)
call-acts e p K None None None c k = tt
call-acts e p K None None (Some ss) c k = passed p ss K None k c
call-acts e p K (Some t) None None c k = tt
call-acts e p K (Some t) None (Some ss) c k = passed p ss K (Some t) k c
call-acts e p K None (Some r) o c k = absurd (subst (λ (x : Option Turn). IsNone x) c tt)
  where
    IsNone : Option Turn → Type 0
    IsNone None = Unit {0}
    IsNone (Some r) = ⊥
call-acts e p K (Some t) (Some r) o c k =
    let i : IsTurn (alternatives e p) t r = subst (Chosen (alternatives e p) t) c (chosen-turn (alternatives e p) t) in
    subst (λ (x : Turn). Did e (step.Call p ∷ K) (Some t) (turned x K)) i.is (chose p i.choice t K i.among i.has)

many-acts : (e : Edition) (p : Place) (K : List Step) (h : Option Terminal) (r : Option Turn)
    → chosen e p h ≡ r → Did e (step.Many p ∷ K) h (repeated (as_part r) p K)
many-acts e p K h None c = stopped p K h
many-acts e p K None (Some r) c = absurd (subst (λ (x : Option Turn). IsNone x) c tt)
  where
    IsNone : Option Turn → Type 0
    IsNone None = Unit {0}
    IsNone (Some r) = ⊥
many-acts e p K (Some t) (Some r) c = go (takes r.take) refl
  where
    i : IsTurn (alternatives e p) t r
    i = subst (Chosen (alternatives e p) t) c (chosen-turn (alternatives e p) t)

    go : (b : Bool) → takes r.take ≡ b → Did e (step.Many p ∷ K) (Some t) (repeated (if b then Some r else None) p K)
    go false k = stopped p K (Some t)
    go true k =
        subst (λ (x : Turn). Did e (step.Many p ∷ K) (Some t) (turned x (step.Make form.Add ∷ step.Many p ∷ K))) i.is
        (again p i.choice t K i.among i.has (ap (λ (x : Turn). takes x.take) i.is ∙ k))

pub acted : (e : Edition) (K : List Step) (h : Option Terminal) → Did e K h (act e K h)
acted e [] h = tt
acted e (step.Make f ∷ K) h = made f K h
acted e (step.Call p ∷ K) h = call-acts e p K h (chosen e p h) (otherwise p) refl refl
acted e (step.Many p ∷ K) h = many-acts e p K h (chosen e p h) refl
acted e (step.Skip w ∷ K) None = tt
acted e (step.Skip w ∷ K) (Some t) = go (same w t) refl
  where
    go : (b : Bool) → same w t ≡ b → Did e (step.Skip w ∷ K) (Some t) (if b then goes (event.Skip ∷ []) K true else stuck)
    go true h = skipped w t K h
    go false h = tt
acted e (step.Keep w ∷ K) None = tt
acted e (step.Keep w ∷ K) (Some t) = go (same w t) refl
  where
    go : (b : Bool) → same w t ≡ b → Did e (step.Keep w ∷ K) (Some t) (if b then goes (event.Keep ∷ []) K true else stuck)
    go true h = kept w t K h
    go false h = tt

pub as_acts : (e : Edition) (K : List Step) (h : Option Terminal) (es : List Event) (L : List Step) (b : Bool) → act e K h ≡ goes es L b → Acts e K h es L b
as_acts e K h es L b m = subst (Did e K h) m (acted e K h)

abbrev pub the_one : Terminal → Option Terminal → Terminal
the_one d None = d
the_one d (Some t) = t

abbrev pub HasHead : Option Terminal → Type 0
HasHead None = ⊥
HasHead (Some t) = Unit {0}

behind-left : (k : Take) (t : Terminal) (u : List Terminal) → behind (takes k) (t ∷ u) ≡ left k t u
behind-left take.Keep t u = refl
behind-left take.Skip t u = refl
behind-left take.Look t u = refl

-- A derivation goes back over a step that was made at the same token.
pub back : (e : Edition) (K L : List Step) (h : Option Terminal) (es fs : List Event) (b : Bool) (v : List Terminal)
    → Acts e K h es L b → h ≡ head v → Derives e L (behind b v) fs → Derives e K v (es ++ fs)
back e _ _ _ _ fs _ v (made f K h) s d = make f K v fs d
back e _ _ _ _ fs _ [] (skipped w t K y) s d = absurd (subst HasHead s tt)
back e _ _ _ _ fs _ (x ∷ v) (skipped w t K y) s d = skip w x K v fs (subst (λ (z : Terminal). same w z ≡ true) (ap (the_one t) s) y) d
back e _ _ _ _ fs _ [] (kept w t K y) s d = absurd (subst HasHead s tt)
back e _ _ _ _ fs _ (x ∷ v) (kept w t K y) s d = keep w x K v fs (subst (λ (z : Terminal). same w z ≡ true) (ap (the_one t) s) y) d
back e _ _ _ _ fs _ [] (chose p c t K a y) s d = absurd (subst HasHead s tt)
back e _ _ _ _ fs _ (x ∷ v) (chose p c t K a y) s d =
    call p c x K v fs a (subst (λ (z : Terminal). contains c.on z ≡ true) (ap (the_one t) s) y) (subst (λ (z : List Terminal). Derives e (c.steps ++ K) z fs) (behind-left c.take x v) d)
back e _ _ _ _ fs _ v (passed p ss K h o n) s d = pass p ss K v fs o d
back e _ _ _ _ fs _ v (stopped p K h) s d = stop p K v fs d
back e _ _ _ _ fs _ [] (again p c t K a y k) s d = absurd (subst HasHead s tt)
back e _ _ _ _ fs _ (x ∷ v) (again p c t K a y k) s d =
    more p c x K v fs a (subst (λ (z : Terminal). contains c.on z ≡ true) (ap (the_one t) s) y) k (subst (λ (z : List Terminal). Derives e (c.steps ++ (step.Make form.Add ∷ step.Many p ∷ K)) z fs) (behind-left c.take x v) d)
