-- Places that tell late where something began stand only before what is taken next.
use Rattle.std.proofs.Common.{◌≡◌, ◌⊎◌, inl, inr, ℕ, ◌+◌, Bool, true, false, not, ◌&&◌, if◌then◌else◌, List, [], ◌∷◌, ◌++◌, Option, Some, None, refl, sym, ap, ◌∙◌, subst, arith}
use Rattle.std.proofs.lemmas.Bool.{and_parts}
use Rattle.vv_grammar.specs.declared.edition.Edition.{Edition}
use Rattle.vv_grammar.specs.declared.edition.Edition.TheVariants as edition
use Rattle.vv_grammar.specs.declared.event.Event.{Event}
use Rattle.vv_grammar.specs.declared.event.Event.TheVariants as event
use Rattle.vv_grammar.specs.declared.form.Form.TheVariants as form
use Rattle.vv_grammar.specs.declared.place.Place.{Place}
use Rattle.vv_grammar.specs.declared.place.Place.TheVariants as place
use Rattle.vv_machine.specs.declared.stack.Pending.{Pending}
use Rattle.vv_grammar.specs.declared.step.Level.{Level}
use Rattle.vv_grammar.specs.declared.step.Level.TheVariants as level
use Rattle.vv_grammar.specs.declared.step.Step.{Step}
use Rattle.vv_grammar.specs.declared.step.Step.TheVariants as step
use Rattle.vv_grammar.specs.declared.step.Take.{Take}
use Rattle.vv_grammar.specs.declared.step.Take.TheVariants as take
use Rattle.vv_grammar.specs.declared.terminal.Terminal.{Terminal}
use Rattle.vv_grammar.specs.Terminals.{same}
use Rattle.vv_grammar.specs.Table.{Choice, alternatives, otherwise, level_of}
use Rattle.vv_machine.specs.Machine as machine
use Rattle.vv_machine.specs.Machine.{Turn, takes, as_part, turn, choose, chosen, next_terminal, inside, marked, as_step, begun, steps_in, Leads, here, further}
use Rattle.vv_grammar_laws.specs.Derivations.{IsAmong, first, later}
use Rattle.vv_grammar_laws.proofs.Settled.{StaysAt, told}
use Rattle.vv_grammar_laws.proofs.Acts.{Chosen, chosen-turn}

-- whether something began at a token that was read before
abbrev pub is_behind : Level → Bool
is_behind level.ExpressionBehind = true
is_behind level.StatementBehind = true
is_behind _ = false

abbrev pub is_calm : Step → Bool
is_calm (step.Call p) = not (is_behind (level_of p))
is_calm (step.Many p) = not (is_behind (level_of p))
is_calm _ = true

abbrev pub are_calm : List Step → Bool
are_calm [] = true
are_calm (s ∷ ss) = is_calm s && are_calm ss

-- all but a first place that is called
abbrev pub are_calm_behind : List Step → Bool
are_calm_behind [] = true
are_calm_behind (step.Call p ∷ ss) = are_calm ss
are_calm_behind (s ∷ ss) = is_calm s && are_calm ss

abbrev pub calm_choice : Take → List Step → Bool
calm_choice take.Keep ss = are_calm ss
calm_choice take.Skip ss = are_calm ss
calm_choice take.Look ss = are_calm_behind ss

abbrev pub calm_choices : List Choice → Bool
calm_choices [] = true
calm_choices (c ∷ cs) = calm_choice c.take c.steps && calm_choices cs

abbrev pub calm_else : Option (List Step) → Bool
calm_else None = true
calm_else (Some ss) = are_calm_behind ss

abbrev pub is_calm_place : Edition → Place → Bool
is_calm_place e p = calm_choices (alternatives e p) && calm_else (otherwise p)

pub calm-place : (e : Edition) (p : Place) → is_calm_place e p ≡ true
calm-place edition.Vhdl93 place.SensitivityNames = refl
calm-place edition.Vhdl08 place.SensitivityNames = refl
calm-place e place.Expression = refl
calm-place e _ = refl

abbrev pub Calm : List Pending → Type 0
Calm [] = Unit {0}
Calm (o ∷ K) = (is_calm o.step ≡ true) × Calm K

-- all but a first place that is called
abbrev pub IsEdge : Step → Type 0
IsEdge (step.Call p) = Unit {0}
IsEdge (step.Many p) = not (is_behind (level_of p)) ≡ true
IsEdge (step.Skip w) = Unit {0}
IsEdge (step.Keep w) = Unit {0}
IsEdge (step.Make f) = Unit {0}

abbrev pub CalmBehind : List Pending → Type 0
CalmBehind [] = Unit {0}
CalmBehind (o ∷ K) = IsEdge o.step × Calm K

edge : (s : Step) → is_calm s ≡ true → IsEdge s
edge (step.Call p) h = tt
edge (step.Many p) h = h
edge (step.Skip w) h = tt
edge (step.Keep w) h = tt
edge (step.Make f) h = tt

pub calm-behind : (K : List Pending) → Calm K → CalmBehind K
calm-behind [] h = tt
calm-behind (o ∷ K) h = (edge o.step h.0, h.1)

pub calm-steps : (ss : List Step) (o : Pending) (K : List Pending) → are_calm ss ≡ true → Calm K → Calm (steps_in ss o ++ K)
calm-steps [] o K h k = k
calm-steps (s ∷ ss) o K h k = let b = and_parts (is_calm s) (are_calm ss) h in (b.0, calm-steps ss o K b.1 k)

edge-steps : (ss : List Step) (o : Pending) (K : List Pending) → are_calm_behind ss ≡ true → Calm K → CalmBehind (steps_in ss o ++ K)
edge-steps [] o K h k = calm-behind K k
edge-steps (step.Call p ∷ ss) o K h k = (tt, calm-steps ss o K h k)
edge-steps (step.Many p ∷ ss) o K h k = let b = and_parts (not (is_behind (level_of p))) (are_calm ss) h in (b.0, calm-steps ss o K b.1 k)
edge-steps (step.Skip w ∷ ss) o K h k = (tt, calm-steps ss o K h k)
edge-steps (step.Keep w ∷ ss) o K h k = (tt, calm-steps ss o K h k)
edge-steps (step.Make f ∷ ss) o K h k = (tt, calm-steps ss o K h k)

-- after a step all is calm, or no token was taken and all but the first step is
abbrev pub Calms : ℕ → machine.Advance → Type 0
Calms at (machine.advances fs M c m) = ((c ≡ at + 1) × Calm M) ⊎ ((c ≡ at) × CalmBehind M)
Calms at machine.fails = Unit {0}
Calms at machine.ends = Unit {0}

taking-calms : (k : Take) (ss : List Step) (o : Pending) (at : ℕ) (K : List Pending) (m : Option ℕ) → calm_choice k ss ≡ true → Calm K → Calms at (machine.taking k at ss o K m)
taking-calms take.Keep ss o at K m h k = inl (refl, calm-steps ss (begun o at) K h k)
taking-calms take.Skip ss o at K m h k = inl (refl, calm-steps ss (begun o at) K h k)
taking-calms take.Look ss o at K m h k = inr (refl, edge-steps ss o K h k)

turning-calms : (p : Place) (r : Turn) (o : Pending) (at : ℕ) (K : List Pending) (m : Option ℕ) → calm_choice r.take r.steps ≡ true → Calm K → Calms at (machine.turning p r o at K m)
turning-calms p r o at K m h k = taking-calms r.take r.steps (inside (level_of p) o) at K (marked (level_of p) o at m) h k

among-calm : (c : Choice) (cs : List Choice) → IsAmong c cs → calm_choices cs ≡ true → calm_choice c.take c.steps ≡ true
among-calm c [] a h = elim a [ ]
among-calm c (_ ∷ cs) (first _ _) h = (and_parts (calm_choice c.take c.steps) (calm_choices cs) h).0
among-calm c (_ ∷ cs) (later _ d _ a) h = among-calm c cs a (and_parts (calm_choice d.take d.steps) (calm_choices cs) h).1

abbrev Turns : Option Turn → Type 0
Turns None = Unit {0}
Turns (Some r) = calm_choice r.take r.steps ≡ true

turn-calm : (e : Edition) (p : Place) (x : Option Terminal) → Turns (chosen e p x)
turn-calm e p None = tt
turn-calm e p (Some t) = go (choose (alternatives e p) t) (chosen-turn (alternatives e p) t)
  where
    go : (r : Option Turn) → Chosen (alternatives e p) t r → Turns r
    go None h = tt
    go (Some r) h = subst (λ (x : Turn). calm_choice x.take x.steps ≡ true) h.is
        (among-calm h.choice (alternatives e p) h.among (and_parts (calm_choices (alternatives e p)) (calm_else (otherwise p)) (calm-place e p)).0)

part-calm : (r : Option Turn) → Turns r → Turns (as_part r)
part-calm None h = tt
part-calm (Some r) h = go (takes r.take)
  where
    go : (b : Bool) → Turns (if b then Some r else None)
    go false = tt
    go true = h

called-calms : (r : Option Turn) (z : Option (List Step)) (p : Place) (o : Pending) (at : ℕ) (K : List Pending) (m : Option ℕ) → Turns r → calm_else z ≡ true → Calm K → Calms at (machine.called r z p o at K m)
called-calms (Some r) z p o at K m t h k = turning-calms p r o at K m t k
called-calms None (Some ss) p o at K m t h k = inr (refl, edge-steps ss o K h k)
called-calms None None p o at K m t h k = tt

repeated-calms : (r : Option Turn) (p : Place) (o : Pending) (at : ℕ) (K : List Pending) (m : Option ℕ) → Turns r → is_calm o.step ≡ true → Calm K → Calms at (machine.repeated r p o at K m)
repeated-calms None p o at K m t h k = inr (refl, calm-behind K k)
repeated-calms (Some r) p o at K m t h k = turning-calms p r o at (as_step o (step.Make form.Add) ∷ (o ∷ K)) m t (refl, (h, k))

token-calms : (f : Event) (w : Terminal) (t : Option Terminal) (at : ℕ) (K : List Pending) (m : Option ℕ) → Calm K → Calms at (machine.token f w t at K m)
token-calms f w None at K m k = tt
token-calms f w (Some t) at K m k = go (same w t)
  where
    go : (b : Bool) → Calms at (if b then machine.advances (f ∷ []) K (at + 1) m else machine.fails)
    go true = inl (refl, k)
    go false = tt

step-calms : (e : Edition) (t : Option Terminal) (s : Step) (o : Pending) (at : ℕ) (K : List Pending) (m : Option ℕ) → o.step ≡ s → IsEdge s → Calm K → Calms at (machine.advance_of e t s o at K m)
step-calms e t (step.Call p) o at K m h i k = called-calms (chosen e p t) (otherwise p) p o at K m (turn-calm e p t) (and_parts (calm_choices (alternatives e p)) (calm_else (otherwise p)) (calm-place e p)).1 k
step-calms e t (step.Many p) o at K m h i k = repeated-calms (as_part (chosen e p t)) p o at K m (part-calm (chosen e p t) (turn-calm e p t)) (ap is_calm h ∙ i) k
step-calms e t (step.Skip w) o at K m h i k = token-calms event.Skip w t at K m k
step-calms e t (step.Keep w) o at K m h i k = token-calms event.Keep w t at K m k
step-calms e t (step.Make f) o at K m h i k = inr (refl, calm-behind K k)

pub calms : (e : Edition) (ts : List Terminal) (L : List Pending) (at : ℕ) (m : Option ℕ) → CalmBehind L → Calms at (machine.advance e ts L at m)
calms e ts [] at m h = tt
calms e ts (o ∷ K) at m h = step-calms e (next_terminal ts at) o.step o at K m refl h.0 h.1

-- How the machine came to a state: at its token it began, or it took the one before, with no mark. All was calm then, and since then no token was taken.
pub data Arrival (e : Edition) (ts : List Terminal) (K : List Pending) (a : ℕ) (Z : List Pending) : ℕ → Option ℕ → Type 0 where
  at_start : (rs : List Event) (k : Option ℕ) → Calm K → Leads e ts K a rs Z a k → Arrival e ts K a Z a k
  by_token : (es fs rs : List Event) (L M : List Pending) (b : ℕ) (m k : Option ℕ) → Leads e ts K a es L b m → machine.move e ts L b m ≡ machine.goes fs M (b + 1) None → Calm M
      → Leads e ts M (b + 1) rs Z (b + 1) k → Arrival e ts K a Z (b + 1) k

on-from : (e : Edition) (ts : List Terminal) (K : List Pending) (a : ℕ) (L M : List Pending) (b : ℕ) (m n : Option ℕ) (fs : List Event) → machine.move e ts L b m ≡ machine.goes fs M b n
    → Arrival e ts K a L b m → Arrival e ts K a M b n
on-from e ts K a L M _ _ n fs h (at_start rs k c l) = at_start (rs ++ fs) n c (further e ts K L M a a a k n rs fs l h)
on-from e ts K a L M _ _ n fs h (by_token es gs rs O P b q k j i c l) =
    by_token es gs (rs ++ fs) O P b q n j i c (further e ts P L M (b + 1) (b + 1) (b + 1) k n rs fs l h)

no-mark : (b : ℕ) (n : Option ℕ) → StaysAt b (b + 1) n → n ≡ None
no-mark b None h = refl
no-mark b (Some x) h = absurd (let s : b + 1 ≡ b = h in omega (arith, s))

pub arrival : (e : Edition) (ts : List Terminal) (K : List Pending) (a : ℕ) (es : List Event) (L : List Pending) (b : ℕ) (m : Option ℕ) → Leads e ts K a es L b m → Calm K
    → Arrival e ts K a L b m × CalmBehind L
arrival e _ _ _ _ _ _ _ (here _ ts K at) k = (at_start [] None k (here e ts K at), calm-behind K k)
arrival e _ _ _ _ _ _ _ (further _ ts K L M a b c m n es fs l h) k =
    let r = arrival e ts K a es L b m l k in
    let x = told b m (machine.advance e ts L b m) (machine.goes fs M c n) h in
    elim (subst (Calms b) x.0 (calms e ts L b m r.1)) [
      | inl all ↦ (
        let none : n ≡ None = no-mark b n (subst (λ (z : ℕ). StaysAt b z n) all.0 x.1) in
            subst (λ (z : ℕ). Arrival e ts K a M z n) (sym all.0) (subst (Arrival e ts K a M (b + 1)) (sym none)
            (by_token es fs [] L M b m None l (h ∙ ap (λ (z : ℕ). machine.goes fs M z n) all.0 ∙ ap (machine.goes fs M (b + 1)) none) all.1 (here e ts M (b + 1)))),
        calm-behind M all.1,
      )
      | inr same ↦ (
        subst (λ (z : ℕ). Arrival e ts K a M z n) (sym same.0) (on-from e ts K a L M b m n fs (h ∙ ap (λ (z : ℕ). machine.goes fs M z n) same.0) r.0),
        same.1,
      )
    ]
