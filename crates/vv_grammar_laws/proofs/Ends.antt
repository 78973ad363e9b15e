-- What the machine reads is derived and is the longest, and what it refuses is derived by nothing.
use Rattle.std.proofs.Common.{◌≡◌, ℕ, true, List, [], ◌∷◌, ◌++◌, drop, Option, Some, None, refl, sym, ap, ◌∙◌, subst, append_assoc}
use Rattle.std.proofs.lemmas.List.{append-nil, append_cancel_right}
use Rattle.vv_grammar.specs.declared.edition.Edition.{Edition}
use Rattle.vv_grammar.specs.declared.event.Event.{Event}
use Rattle.vv_machine.specs.declared.machine.Stop.TheVariants as stop
use Rattle.vv_machine.specs.declared.stack.Pending.{Pending}
use Rattle.vv_grammar.specs.declared.step.Step.{Step}
use Rattle.vv_grammar.specs.declared.terminal.Terminal.{Terminal}
use Rattle.vv_machine.specs.Machine as machine
use Rattle.vv_machine.specs.Machine.{next_terminal, starting_with, Leads, Halts}
use Rattle.vv_grammar.specs.declared.form.Form.TheVariants as form
use Rattle.vv_grammar.specs.declared.step.Step.TheVariants as step
use Rattle.vv_grammar_laws.specs.Derivations.{Derives, IsViable}
use Rattle.vv_grammar_laws.specs.Starts.{Start, file, expression, name, aggregate, steps_for, AreBetween}
use Rattle.vv_grammar_laws.specs.Readings.{IsReading, IsRefusal, IsTooDeep, GoesOn, MayEnd}
use Rattle.vv_grammar_laws.proofs.Plain as plain
use Rattle.vv_grammar_laws.proofs.Plain.{Act, act, head, forward, Runs}
use Rattle.vv_grammar_laws.proofs.Seals.{Closed, closed-append}
use Rattle.vv_grammar_laws.proofs.Paths.{Path, Onward, follow, not-stuck, not-further, derived}
use Rattle.vv_grammar_laws.proofs.Bridge.{bare, bare-start, Agrees, agrees, head-from, way}
use Rattle.vv_grammar_laws.specs.Depths.{IsTooDeepAt}
use Rattle.vv_grammar_laws.proofs.Calm.{Calm, CalmBehind, Arrival, arrival}
use Rattle.vv_grammar_laws.proofs.Settled.{told}
use Rattle.vv_grammar_laws.proofs.Back.{same_derivation}
use Rattle.vv_grammar_laws.proofs.Free.{freely, shallowly}
use Rattle.vv_grammar_laws.proofs.Empties.{never-stuck}
use Rattle.vv_grammar_laws.proofs.Readings.{good-start, at_most_one}

closed-start : (s : Start) → Closed (steps_for s)
closed-start file = closed-append (steps_for file) [] true refl (λ h. refl) tt
closed-start expression = closed-append (steps_for expression) [] true refl (λ h. refl) tt
closed-start name = closed-append (steps_for name) [] true refl (λ h. refl) tt
closed-start aggregate = closed-append (steps_for aggregate) [] true refl (λ h. refl) tt

-- from a start
abbrev pub Way : Edition → Start → List Terminal → ℕ → List Event → List Pending → ℕ → Type 0
Way e s ts a es L b = (q : List Terminal) × AreBetween ts a b q × Path e (bare L) (drop b ts) (steps_for s) q es

around : ℕ → Pending
around a = record { step = step.Make form.Empty; expressions = 0; statements = 0; began = a }

pub start-way : (e : Edition) (s : Start) (ts : List Terminal) (a b : ℕ) (m : Option ℕ) (es : List Event) (L : List Pending) → Leads e ts (starting_with (steps_for s) a) a es L b m
    → Way e s ts a es L b
unfolding around
start-way e s ts a b m es L l =
    let w = way e ts (starting_with (steps_for s) a) a es L b m l in
    (w.tokens, w.between, subst (λ (x : List Step). Path e (bare L) (drop b ts) x w.tokens es) (bare-start (steps_for s) (around a)) w.path)

-- what starts with the same tokens comes by the same steps
pub followed : (e : Edition) (s : Start) (M : List Step) (v : List Terminal) (q : List Terminal) (es : List Event) (t : Terminal) → head v ≡ Some t
    → Path e M v (steps_for s) q es → (i : IsViable e (steps_for s) (q ++ (t ∷ []))) → Onward e M (t ∷ i.more)
followed e s M v q es t h p i =
    let r = forward e (steps_for s) ((q ++ (t ∷ [])) ++ i.more) i.events i.derives (good-start s) in
    follow e M v (t ∷ i.more) h (steps_for s) q es i.events p (subst (λ (x : List Terminal). Runs e (steps_for s) x i.events) (append_assoc q (t ∷ []) i.more) r)

-- the same tokens between the same numbers
pub between-one : (ts : List Terminal) (a b : ℕ) (p q : List Terminal) → AreBetween ts a b p → AreBetween ts a b q → p ≡ q
between-one ts a b p q v w = append_cancel_right p q (drop b ts) (sym v.split ∙ w.split)

calm-start : (s : Start) (a : ℕ) → Calm (starting_with (steps_for s) a)
calm-start file a = (refl, (refl, (refl, tt)))
calm-start expression a = (refl, tt)
calm-start name a = (refl, tt)
calm-start aggregate a = (refl, (refl, tt))

pub steps-start : (s : Start) (a : ℕ) → bare (starting_with (steps_for s) a) ≡ steps_for s
unfolding around
steps-start s a = bare-start (steps_for s) (around a)

pub came : (e : Edition) (s : Start) (ts : List Terminal) (a : ℕ) (es : List Event) (L : List Pending) (b : ℕ) (m : Option ℕ) → Leads e ts (starting_with (steps_for s) a) a es L b m
    → Arrival e ts (starting_with (steps_for s) a) a L b m × CalmBehind L
came e s ts a es L b m l = arrival e ts (starting_with (steps_for s) a) a es L b m l (calm-start s a)

pub closed-first : (s : Start) (a : ℕ) → Closed (bare (starting_with (steps_for s) a))
closed-first s a = subst Closed (sym (steps-start s a)) (closed-start s)

-- the tokens that were gone through go on to something in which nothing before the next one is too deep
pub goes-on : (e : Edition) (s : Start) (ts : List Terminal) (a : ℕ) (es : List Event) (L : List Pending) (b : ℕ) (m : Option ℕ) → Leads e ts (starting_with (steps_for s) a) a es L b m
    → (q : List Terminal) → AreBetween ts a b q → GoesOn e s a b q
goes-on e s ts a es L b m l q w =
    let K = starting_with (steps_for s) a in
    let r = freely e ts K a L b m (came e s ts a es L b m l).0 in
    let d = same_derivation e (bare K) (steps_for s) (r.tokens ++ r.more) (q ++ r.more) r.events (steps-start s a)
    (ap (λ (x : List Terminal). x ++ r.more) (between-one ts a b r.tokens q r.between w)) r.derives K a in
    record {
      more = r.more;
      events = r.events;
      derives = d.0;
      free = λ n l h. r.free n l (subst (IsTooDeepAt n) (sym d.1) h);
    }

abbrev pub IsNonempty : List Terminal → Type 0
IsNonempty [] = ⊥
IsNonempty (t ∷ u) = Unit {0}

-- what was read, derived so that nothing in it is too deep
pub record ReadShallow (e : Edition) (s : Start) (ts : List Terminal) (a b : ℕ) (es : List Event) (q : List Terminal) : Type 0 where
  pub derives : Derives e (steps_for s) q es
  pub shallow : (n : ℕ) → IsTooDeep e s q es derives a n → ⊥

read-shallow : (e : Edition) (s : Start) (ts : List Terminal) (a b : ℕ) (es : List Event) → Leads e ts (starting_with (steps_for s) a) a es [] b None
    → (q : List Terminal) → AreBetween ts a b q → Derives e (steps_for s) q es → ReadShallow e s ts a b es q
read-shallow e s ts a b es l q w known =
    let K = starting_with (steps_for s) a in
    let r = shallowly e ts K a b None (closed-first s a) (came e s ts a es [] b None l).0 in
    let d = same_derivation e (bare K) (steps_for s) r.tokens q r.events (steps-start s a) (between-one ts a b r.tokens q r.between w) r.derives K a in
    subst (λ (x : List Event). ReadShallow e s ts a b x q) (at_most_one e s q r.events es d.0 known) (record {
      derives = d.0;
      shallow = λ n h. r.none n (subst (IsTooDeepAt n) (sym d.1) h);
    })

pub reads : (e : Edition) (s : Start) (ts : List Terminal) (a b : ℕ) (es : List Event) → Leads e ts (starting_with (steps_for s) a) a es [] b None → IsReading e s ts a b es
reads e s ts a b es l =
    let w = start-way e s ts a b None es [] l in
    let r = read-shallow e s ts a b es l w.0 w.1 (derived e (drop b ts) (steps_for s) w.0 es w.2 (closed-start s)) in
    record {
      tokens = w.0;
      between = w.1;
      derives = r.derives;
      shallow = r.shallow;
      longest = λ t n i.
          let o = followed e s [] (drop b ts) w.0 es t (head-from ts b ∙ n) w.2 i in
          subst IsNonempty (not-further e [] (t ∷ i.more) o.events refl o.runs) tt;
    }

pub refuses : (e : Edition) (s : Start) (ts : List Terminal) (a n : ℕ) → Halts e ts (starting_with (steps_for s) a) a (stop.Misplaced n) → IsRefusal e s ts a n
refuses e s ts a n h = subst (IsRefusal e s ts a) (sym h.stops.1) (record {
  tokens = w.0;
  between = w.1;
  goes_on = goes-on e s ts a h.events h.rest h.next h.mark h.leads w.0 w.1;
  never = λ t k i.
      let o = followed e s (bare h.rest) (drop h.next ts) w.0 h.events t (head-from ts h.next ∙ k) w.2 i in
      not-stuck e (bare h.rest) (t ∷ i.more) o.events (ap (act e (bare h.rest)) (sym k) ∙ stands) o.runs;
  ends = λ fs k d.
      let K = starting_with (steps_for s) a in
      let r = subst (λ (S : List Step). Runs e S w.0 fs) (sym (steps-start s a)) (forward e (steps_for s) w.0 fs d (good-start s)) in
      never-stuck e ts K a h.rest h.next h.mark (came e s ts a h.events h.rest h.next h.mark h.leads).0 (closed-first s a) fails w.0 w.1 (λ c p q. between-one ts a c p q) fs r;
})
  where
    w : Way e s ts a h.events h.rest h.next
    w = start-way e s ts a h.next h.mark h.events h.rest h.leads

    fails : machine.advance e ts h.rest h.next h.mark ≡ machine.fails
    fails = told h.next h.mark (machine.advance e ts h.rest h.next h.mark) machine.stuck h.stops.0

    stands : act e (bare h.rest) (next_terminal ts h.next) ≡ plain.stuck
    stands = subst (λ (x : machine.Advance). Agrees x (act e (bare h.rest) (next_terminal ts h.next)) h.next) fails (agrees e ts h.rest h.next h.mark)

-- where all tokens from one on are derived, they are read to the last
all-read : (e : Edition) (s : Start) (ts : List Terminal) (a b : ℕ) (es fs : List Event) → Derives e (steps_for s) (drop a ts) fs
    → IsReading e s ts a b es → drop b ts ≡ []
all-read e s ts a b es fs d r = go (drop b ts) refl
  where
    go : (rest : List Terminal) → drop b ts ≡ rest → drop b ts ≡ []
    go [] h = h
    go (t ∷ rest) h = absurd (r.longest t (sym (head-from ts b) ∙ ap head h) (record {
      more = rest;
      events = fs;
      derives = subst (λ (x : List Terminal). Derives e (steps_for s) x fs) (r.between.split ∙ ap (λ (x : List Terminal). r.tokens ++ x) h ∙ sym (append_assoc r.tokens (t ∷ []) rest)) d;
    }))

pub read_whole : (e : Edition) (s : Start) (ts : List Terminal) (a b : ℕ) (es fs : List Event) → Derives e (steps_for s) (drop a ts) fs
    → Leads e ts (starting_with (steps_for s) a) a es [] b None → (es ≡ fs) × (drop b ts ≡ [])
read_whole e s ts a b es fs d l =
    let r = reads e s ts a b es l in
    let n = all-read e s ts a b es fs d r in
    let same : drop a ts ≡ r.tokens = r.between.split ∙ ap (λ (x : List Terminal). r.tokens ++ x) n ∙ append-nil r.tokens in
    (at_most_one e s r.tokens es fs r.derives (subst (λ (x : List Terminal). Derives e (steps_for s) x fs) same d), n)

-- behind the last token all may end
may-end : (s : Start) (ts : List Terminal) (n : ℕ) → next_terminal ts n ≡ None → MayEnd s ts n
may-end file ts n h = h
may-end expression ts n h = tt
may-end name ts n h = tt
may-end aggregate ts n h = tt

pub never_refused : (e : Edition) (s : Start) (ts : List Terminal) (a n : ℕ) (fs : List Event) → Derives e (steps_for s) (drop a ts) fs
    → Halts e ts (starting_with (steps_for s) a) a (stop.Misplaced n) → ⊥
never_refused e s ts a n fs d h = go (drop n ts) refl
  where
    r : IsRefusal e s ts a n
    r = refuses e s ts a n h

    go : (rest : List Terminal) → drop n ts ≡ rest → ⊥
    go [] k = r.ends fs (may-end s ts n (sym (head-from ts n) ∙ ap head k))
        (subst (λ (x : List Terminal). Derives e (steps_for s) x fs) (r.between.split ∙ ap (λ (x : List Terminal). r.tokens ++ x) k ∙ append-nil r.tokens) d)
    go (t ∷ rest) k = r.never t (sym (head-from ts n) ∙ ap head k) (record {
      more = rest;
      events = fs;
      derives = subst (λ (x : List Terminal). Derives e (steps_for s) x fs) (r.between.split ∙ ap (λ (x : List Terminal). r.tokens ++ x) k ∙ sym (append_assoc r.tokens (t ∷ []) rest)) d;
    })
