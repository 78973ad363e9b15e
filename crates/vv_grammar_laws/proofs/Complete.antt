-- Whatever is derived is read, unless it is too deep.
use Rattle.std.proofs.Common.{◌≡◌, ◌⊎◌, inl, inr, ℕ, Bool, List, [], ◌∷◌, ◌++◌, Option, Some, None, drop, refl, sym, ap, ◌∙◌, subst, append_assoc}
use Rattle.std.proofs.lemmas.List.{append-nil}
use Rattle.vv_grammar.specs.declared.edition.Edition.{Edition}
use Rattle.vv_grammar.specs.declared.event.Event.{Event}
use Rattle.vv_grammar.specs.declared.form.Form.TheVariants as form
use Rattle.vv_machine.specs.declared.machine.Stop.TheVariants as stop
use Rattle.vv_machine.specs.declared.stack.Pending.{Pending}
use Rattle.vv_grammar.specs.declared.step.Step.{Step}
use Rattle.vv_grammar.specs.declared.step.Step.TheVariants as step
use Rattle.vv_grammar.specs.declared.terminal.Terminal.{Terminal}
use Rattle.vv_machine.specs.Machine as machine
use Rattle.vv_machine.specs.Machine.{next_terminal, starting_with, Leads, here, further, Halts}
use Rattle.vv_grammar_laws.specs.Derivations.{Derives}
use Rattle.vv_grammar_laws.specs.Starts.{Start, steps_for}
use Rattle.vv_grammar_laws.proofs.Plain as plain
use Rattle.vv_grammar_laws.proofs.Plain.{Act, act, head, behind, forward, Runs, end, move, Goes, events_of, steps_of, took}
use Rattle.vv_grammar_laws.proofs.Paths.{IsStuck}
use Rattle.vv_grammar_laws.proofs.Settled.{Settles, settles}
use Rattle.vv_grammar_laws.proofs.Bridge.{bare, bare-start, past, Agrees, agrees, head-from, drop-past}
use Rattle.vv_grammar_laws.proofs.Readings.{good-start}

-- the machine reads all, or it finds it too deep
abbrev pub Outcome : Edition → List Terminal → List Pending → ℕ → List Event → Type 0
Outcome e ts K a es = ((b : ℕ) × Leads e ts K a es [] b None × (drop b ts ≡ [])) ⊎ ((n : ℕ) × Halts e ts K a (stop.Deep n))

abbrev pub IsOver : Act → Type 0
IsOver (plain.goes es L b) = ⊥
IsOver plain.stuck = ⊥
IsOver plain.over = Unit {0}

-- only nothing to come is bare of steps
bare-nothing : (K : List Pending) → bare K ≡ [] → K ≡ []
bare-nothing [] h = refl
bare-nothing (o ∷ K) h = absurd (subst IsNone h tt)
  where
    IsNone : List Step → Type 0
    IsNone [] = ⊥
    IsNone (s ∷ K) = Unit {0}

-- what the run goes on with from a state of the machine
abbrev pub OnFrom : Edition → List Terminal → List Pending → ℕ → List Step → List Terminal → List Event → Type 0
OnFrom e ts K0 a R u fs = (es : List Event) (K : List Pending) (at : ℕ) (m : Option ℕ) → Leads e ts K0 a es K at m → bare K ≡ R → drop at ts ≡ u → Outcome e ts K0 a (es ++ fs)

ended : (e : Edition) (ts : List Terminal) (K0 : List Pending) (a : ℕ) → OnFrom e ts K0 a [] [] []
ended e ts K0 a es K at None l h k =
    inl (at, subst (λ (x : List Event). Leads e ts K0 a x [] at None) (sym (append-nil es)) (subst (λ (x : List Pending). Leads e ts K0 a es x at None) (bare-nothing K h) l), k)
ended e ts K0 a es K at (Some n) l h k =
    inr (n, record { events = es; rest = K; next = at; mark = Some n; leads = l; stops = ap (λ (x : List Pending). machine.move e ts x at (Some n)) (bare-nothing K h) })

-- one move, by what it makes
went : (e : Edition) (ts : List Terminal) (K0 : List Pending) (a : ℕ) (L : List Step) (u : List Terminal) (b : Bool) (es fs gs : List Event) (K : List Pending) (at : ℕ) (k : Option ℕ)
    → Leads e ts K0 a gs K at k → drop at ts ≡ u → act e (bare K) (next_terminal ts at) ≡ plain.goes es L b
    → OnFrom e ts K0 a L (behind b u) fs
    → (v : machine.Move) → machine.move e ts K at k ≡ v → Settles at k (machine.advance e ts K at k) v → Outcome e ts K0 a (gs ++ (es ++ fs))
went e ts K0 a L u b es fs gs K at q l k x on (machine.goes hs M c n) i j =
    let g : Agrees (machine.advances hs M c n) (act e (bare K) (next_terminal ts at)) at
    = subst (λ (z : machine.Advance). Agrees z (act e (bare K) (next_terminal ts at)) at) j.0 (agrees e ts K at q) in
    let both : plain.goes hs (bare M) g.0 ≡ plain.goes es L b = sym g.1 ∙ x in
    let r = on (gs ++ hs) M c n (further e ts K0 K M a at c q n gs hs l i) (ap steps_of both)
    (ap (λ (n : ℕ). drop n ts) (g.2 ∙ ap (λ (z : Bool). past z at) (ap took both)) ∙ drop-past b ts at ∙ ap (behind b) k) in
    subst (Outcome e ts K0 a) (append_assoc gs hs fs ∙ ap (λ (z : List Event). gs ++ (z ++ fs)) (ap events_of both)) r
went e ts K0 a L u b es fs gs K at q l k x on machine.stuck i j =
    let g : act e (bare K) (next_terminal ts at) ≡ plain.stuck = subst (λ (z : machine.Advance). Agrees z (act e (bare K) (next_terminal ts at)) at) j (agrees e ts K at q) in
    absurd (subst IsStuck (sym (sym x ∙ g)) tt)
went e ts K0 a L u b es fs gs K at q l k x on (machine.deep n) i j = inr (n, record { events = gs; rest = K; next = at; mark = q; leads = l; stops = i })
went e ts K0 a L u b es fs gs K at q l k x on machine.over i j =
    let g : act e (bare K) (next_terminal ts at) ≡ plain.over = subst (λ (z : machine.Advance). Agrees z (act e (bare K) (next_terminal ts at)) at) j.0 (agrees e ts K at q) in
    absurd (subst IsOver (sym (sym x ∙ g)) tt)

moved : (e : Edition) (ts : List Terminal) (K0 : List Pending) (a : ℕ) (R L : List Step) (u : List Terminal) (b : Bool) (es fs : List Event)
    → act e R (head u) ≡ plain.goes es L b → OnFrom e ts K0 a L (behind b u) fs → OnFrom e ts K0 a R u (es ++ fs)
moved e ts K0 a R L u b es fs m on gs K at q l h k =
    let x : act e (bare K) (next_terminal ts at) ≡ plain.goes es L b =
    ap (act e (bare K)) (sym (head-from ts at)) ∙ (ap (λ (z : List Step). act e z (head (drop at ts))) h ∙ ap (λ (z : List Terminal). act e R (head z)) k) ∙ m in
    went e ts K0 a L u b es fs gs K at q l k x on (machine.move e ts K at q) refl (settles at q (machine.advance e ts K at q))

outcome : (e : Edition) (ts : List Terminal) (K0 : List Pending) (a : ℕ) (R : List Step) (u : List Terminal) (fs : List Event) → Runs e R u fs → OnFrom e ts K0 a R u fs
outcome e ts K0 a _ _ _ end = ended e ts K0 a
outcome e ts K0 a _ _ _ (move R L u b es fs m r) = moved e ts K0 a R L u b es fs m (outcome e ts K0 a L (behind b u) fs r)

around : ℕ → Pending
around a = record { step = step.Make form.Empty; expressions = 0; statements = 0; began = a }

bare-of : (ss : List Step) (a : ℕ) → bare (starting_with ss a) ≡ ss
unfolding around
bare-of ss a = bare-start ss (around a)

-- Whatever is derived is read, unless it is too deep.
pub complete : (e : Edition) (s : Start) (ts : List Terminal) (a : ℕ) (fs : List Event) → Derives e (steps_for s) (drop a ts) fs
    → Outcome e ts (starting_with (steps_for s) a) a fs
complete e s ts a fs d =
    outcome e ts (starting_with (steps_for s) a) a (steps_for s) (drop a ts) fs (forward e (steps_for s) (drop a ts) fs d (good-start s))
    [] (starting_with (steps_for s) a) a None (here e ts (starting_with (steps_for s) a) a) (bare-of (steps_for s) a) refl
