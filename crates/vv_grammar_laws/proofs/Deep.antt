-- Where the machine finds something too deep, it is so in all that starts with the same tokens.
use Rattle.std.proofs.Common.{◌≡◌, inl, inr, ℕ, zero, suc, nat_eq, ◌+◌, ◌≤◌, Bool, true, false, List, [], ◌∷◌, ◌++◌, length, drop, Option, Some, None, refl, sym, ap, ◌∙◌, subst, arith}
use Rattle.std.proofs.lemmas.Bool.{true≢false, eq-eqb}
use Rattle.vv_grammar.specs.declared.edition.Edition.{Edition}
use Rattle.vv_grammar.specs.declared.event.Event.{Event}
use Rattle.vv_machine.specs.declared.machine.Stop.TheVariants as stop
use Rattle.vv_machine.specs.declared.stack.Pending.{Pending}
use Rattle.vv_grammar.specs.declared.terminal.Terminal.{Terminal}
use Rattle.vv_machine.specs.Machine as machine
use Rattle.vv_machine.specs.Machine.{next_terminal, starting_with, Leads, Halts}
use Rattle.vv_grammar_laws.specs.Derivations.{Derives}
use Rattle.vv_grammar_laws.specs.Depths.{openings, IsTooDeepAt}
use Rattle.vv_grammar_laws.specs.Starts.{Start, steps_for, AreBetween}
use Rattle.vv_grammar_laws.specs.Readings.{GoesOn, IsDeep, IsTooDeep, IsShallow, IsReadWhole}
use Rattle.vv_grammar_laws.proofs.Plain as plain
use Rattle.vv_grammar_laws.proofs.Plain.{act, head}
use Rattle.vv_grammar_laws.proofs.Acts.{as_acts, HasHead}
use Rattle.vv_grammar_laws.proofs.Settled.{told}
use Rattle.vv_grammar_laws.proofs.Marks.{deep-left}
use Rattle.vv_grammar_laws.proofs.Bridge.{bare, past, Agrees, agrees, needs-head, head-from}
use Rattle.vv_grammar_laws.proofs.Readings.{good-start}
use Rattle.vv_grammar_laws.proofs.Back.{same_derivation}
use Rattle.vv_grammar_laws.proofs.Calm.{Calm, CalmBehind, Calms, calms, Arrival}
use Rattle.vv_grammar_laws.proofs.Words.{productive}
use Rattle.vv_grammar_laws.proofs.Free.{behind-token, between-next, no-deep}
use Rattle.vv_grammar_laws.proofs.Over.{nothing-comes, ended-unmarked}
use Rattle.vv_grammar_laws.proofs.Complete.{complete}
use Rattle.vv_grammar_laws.proofs.Ways.{AreThose, followed, advanced}
use Rattle.vv_grammar_laws.proofs.States.{begin-began, led, fine, Fine}
use Rattle.vv_grammar_laws.proofs.Ends.{Way, start-way, steps-start, came, closed-first, goes-on, between-one}

-- The step with which something is too deep takes a token.
record Takes (e : Edition) (ts : List Terminal) (L : List Pending) (b : ℕ) (m : Option ℕ) (n : ℕ) : Type 0 where
  events : List Event
  rest : List Pending
  is : machine.advance e ts L b m ≡ machine.advances events rest (b + 1) (Some n)
  token : Terminal
  here : next_terminal ts b ≡ Some token

the-token : (x : Option Terminal) → HasHead x → (t : Terminal) × (x ≡ Some t)
the-token None h = absurd h
the-token (Some t) h = (t, refl)

takes-token : (e : Edition) (ts : List Terminal) (L M : List Pending) (b c : ℕ) (m : Option ℕ) (n : ℕ) (es : List Event)
    → machine.advance e ts L b m ≡ machine.advances es M c (Some n) → nat_eq c b ≡ false → Takes e ts L b m n
takes-token e ts L M b c m n es h f = go g.0 g.1 g.2
  where
    g : Agrees (machine.advances es M c (Some n)) (act e (bare L) (next_terminal ts b)) b
    g = subst (λ (x : machine.Advance). Agrees x (act e (bare L) (next_terminal ts b)) b) h (agrees e ts L b m)

    go : (y : Bool) → act e (bare L) (next_terminal ts b) ≡ plain.goes es (bare M) y → c ≡ past y b → Takes e ts L b m n
    go false i j = absurd (true≢false (sym (eq-eqb c b j) ∙ f))
    go true i j =
        let t = the-token (next_terminal ts b) (needs-head e (bare L) (bare M) (next_terminal ts b) es true (as_acts e (bare L) (next_terminal ts b) es (bare M) true i) tt) in
        record { events = es; rest = M; is = h ∙ ap (λ (z : ℕ). machine.advances es M z (Some n)) j; token = t.0; here = t.1 }

no-some : (n : ℕ) → (let x : Option ℕ = Some n in x) ≡ None → ⊥
no-some n h = subst IsSome h tt
  where
    IsSome : Option ℕ → Type 0
    IsSome None = ⊥
    IsSome (Some x) = Unit {0}

takes : (e : Edition) (s : Start) (ts : List Terminal) (a : ℕ) (es : List Event) (L : List Pending) (b : ℕ) (m : Option ℕ) (n : ℕ) → Leads e ts (starting_with (steps_for s) a) a es L b m
    → machine.move e ts L b m ≡ machine.deep n → Takes e ts L b m n
takes e s ts a es L b m n l h = elim (told b m (machine.advance e ts L b m) (machine.deep n) h) [
  | inl x ↦
      let K = starting_with (steps_for s) a in
      let none : L ≡ [] = nothing-comes e ts L b m x.0 in
      let way = subst (λ (z : List Pending). Arrival e ts K a z b m) none (came e s ts a es L b m l).0 in
      absurd (no-some n (sym x.1 ∙ ended-unmarked e ts K a b m (closed-first s a) way))
  | inr x ↦ takes-token e ts L x.1 b x.2 m n x.0 x.3 x.4
]

-- behind the token all is calm
then-calm : (e : Edition) (ts : List Terminal) (L : List Pending) (b : ℕ) (m : Option ℕ) (n : ℕ) → CalmBehind L → (t : Takes e ts L b m n) → Calm t.rest
then-calm e ts L b m n h t = elim (subst (Calms b) t.is (calms e ts L b m h)) [
  | inl x ↦ x.1
  | inr x ↦ absurd (let s : b + 1 ≡ b = x.0 in omega (arith, s))
]

-- these tokens, and the next one, are those of the file
prefix-heads : (q v w : List Terminal) (t : Terminal) (i : ℕ) → i ≤ length q → head v ≡ Some t → head w ≡ Some t → head (drop i (q ++ v)) ≡ head (drop i (q ++ w))
prefix-heads [] v w t zero l h k = h ∙ sym k
prefix-heads [] v w t (suc i) l h k = absurd (omega (arith, l))
prefix-heads (x ∷ q) v w t zero l h k = refl
prefix-heads (x ∷ q) v w t (suc i) l h k = prefix-heads q v w t i (omega (arith, l)) h k

abbrev no-terminals : List Terminal
no-terminals = []

drop-nothing : (n : ℕ) → no-terminals ≡ drop n no-terminals
drop-nothing zero = refl
drop-nothing (suc n) = refl

drop-drop : (a i : ℕ) (ts : List Terminal) → drop i (drop a ts) ≡ drop (a + i) ts
drop-drop zero i ts = ap (λ (n : ℕ). drop n ts) (let g : i ≡ 0 + i = omega arith in g)
drop-drop (suc a) i [] = sym (drop-nothing i) ∙ drop-nothing (suc a + i)
drop-drop (suc a) i (t ∷ ts) = drop-drop a i ts ∙ ap (λ (n : ℕ). drop n (t ∷ ts)) (let g : suc (a + i) ≡ suc a + i = omega arith in g)

those : (ts : List Terminal) (a b : ℕ) (q v : List Terminal) (t : Terminal) → AreBetween ts a b q → next_terminal ts b ≡ Some t → head v ≡ Some t → AreThose ts a b (q ++ v)
those ts a b q v t w n h i l =
    let size : b ≡ a + length q = w.size in
    prefix-heads q v (drop b ts) t i (omega (arith, size, l)) h (head-from ts b ∙ n)
    ∙ ap (λ (x : List Terminal). head (drop i x)) (sym w.split)
    ∙ ap head (drop-drop a i ts)
    ∙ head-from ts (a + i)

-- what is too deep then is so in all that starts with the same tokens
settles : (e : Edition) (s : Start) (ts : List Terminal) (a : ℕ) (es : List Event) (L : List Pending) (b : ℕ) (m : Option ℕ) (n : ℕ) → Leads e ts (starting_with (steps_for s) a) a es L b m
    → (t : Takes e ts L b m n) → (q : List Terminal) → AreBetween ts a b q → (more : List Terminal) (fs : List Event) (d : Derives e (steps_for s) (q ++ (t.token ∷ more)) fs)
    → IsTooDeep e s (q ++ (t.token ∷ more)) fs d a n
settles e s ts a es L b m n l t q w more fs d =
    let K = starting_with (steps_for s) a in
    let u = q ++ (t.token ∷ more) in
    let tokens : AreThose ts a b u = those ts a b q (t.token ∷ more) t.token w t.here refl in
    let r = followed e ts K a es L b m l (steps_for s) u fs d (good-start s) (steps-start s a) b (omega arith) tokens in
    let x = advanced e ts a L t.rest b (b + 1) m (Some n) t.events t.is u (openings e (steps_for s) u fs d K a) b (omega arith) tokens r in
    subst (IsTooDeepAt n) (sym x.told) (deep-left n x.before (openings e x.steps (drop x.far u) x.events x.derives t.rest (b + 1)) x.marks.0)

-- and the tokens go on to something in which nothing before it is
firsts : (e : Edition) (s : Start) (ts : List Terminal) (a : ℕ) (es : List Event) (L : List Pending) (b : ℕ) (m : Option ℕ) (n : ℕ) → Leads e ts (starting_with (steps_for s) a) a es L b m
    → n ≤ b → (t : Takes e ts L b m n) → (q : List Terminal) → AreBetween ts a b q → GoesOn e s a n (q ++ (t.token ∷ []))
firsts e s ts a es L b m n l by t q w =
    let K = starting_with (steps_for s) a in
    let p = productive e t.rest (then-calm e ts L b m n (came e s ts a es L b m l).1 t) in
    let later = openings e (bare t.rest) p.0 p.1.events p.1.derives t.rest (b + 1) in
    let r = behind-token e ts K a es t.events L t.rest b m (Some n) l t.is p.0 p.1.events p.1.derives in
    let d = same_derivation e (bare K) (steps_for s) (r.tokens ++ p.0) ((q ++ (t.token ∷ [])) ++ p.0) r.events (steps-start s a)
    (ap (λ (x : List Terminal). x ++ p.0) (between-one ts a (b + 1) r.tokens (q ++ (t.token ∷ [])) r.between (between-next ts a b q t.token w t.here))) r.derives K a in
    record {
      more = p.0;
      events = r.events;
      derives = d.0;
      free = λ k f h. no-deep (b + 1) k r.before later (omega (arith, f, by)) (λ x. (let g : n ≤ k = r.marks.1 k x in omega (arith, f, g))) (p.1.starts t.rest (b + 1))
          (subst (IsTooDeepAt k) (sym d.1 ∙ r.told) h);
    }

mark-by : (e : Edition) (s : Start) (ts : List Terminal) (a : ℕ) (es : List Event) (L : List Pending) (b : ℕ) (m : Option ℕ) (n : ℕ) → Leads e ts (starting_with (steps_for s) a) a es L b m
    → Takes e ts L b m n → n ≤ b
mark-by e s ts a es L b m n l t =
    let r = led e ts (starting_with (steps_for s) a) a es L b m l (begin-began (steps_for s) a) in
    (subst (Fine b) t.is (fine e ts L b m r.0 r.1)).1

pub too_deep : (e : Edition) (s : Start) (ts : List Terminal) (a n : ℕ) → Halts e ts (starting_with (steps_for s) a) a (stop.Deep n) → IsDeep e s ts a n
too_deep e s ts a n h =
    let w : Way e s ts a h.events h.rest h.next = start-way e s ts a h.next h.mark h.events h.rest h.leads in
    let t = takes e s ts a h.events h.rest h.next h.mark n h.leads h.stops in
    let by : n ≤ h.next = mark-by e s ts a h.events h.rest h.next h.mark n h.leads t in
    record {
      next = h.next;
      by = by;
      tokens = w.0;
      between = w.1;
      goes_on = goes-on e s ts a h.events h.rest h.next h.mark h.leads w.0 w.1;
      token = t.token;
      here = t.here;
      first = firsts e s ts a h.events h.rest h.next h.mark n h.leads by t w.0 w.1;
      settled = settles e s ts a h.events h.rest h.next h.mark n h.leads t w.0 w.1;
    }

abbrev the_one : Terminal → Option Terminal → Terminal
the_one t None = t
the_one t (Some x) = x

-- so it is in what the tokens of the file derive
pub deep_in : (e : Edition) (s : Start) (ts : List Terminal) (a n : ℕ) (fs : List Event) (d : Derives e (steps_for s) (drop a ts) fs)
    → Halts e ts (starting_with (steps_for s) a) a (stop.Deep n) → IsTooDeep e s (drop a ts) fs d a n
deep_in e s ts a n fs d h = go (drop i.next ts) refl
  where
    i : IsDeep e s ts a n
    i = too_deep e s ts a n h

    go : (rest : List Terminal) → drop i.next ts ≡ rest → IsTooDeep e s (drop a ts) fs d a n
    go [] k = absurd (subst IsSome (sym i.here ∙ sym (head-from ts i.next) ∙ ap head k) tt)
      where
        IsSome : Option Terminal → Type 0
        IsSome None = ⊥
        IsSome (Some t) = Unit {0}
    go (t ∷ rest) k =
        let is : t ≡ i.token = ap (the_one t) (ap head (sym k) ∙ head-from ts i.next ∙ i.here) in
        let f = same_derivation e (steps_for s) (steps_for s) (drop a ts) (i.tokens ++ (i.token ∷ rest)) fs refl
        (i.between.split ∙ ap (λ (x : List Terminal). i.tokens ++ x) (k ∙ ap (λ (x : Terminal). x ∷ rest) is)) d (starting_with (steps_for s) a) a in
        subst (IsTooDeepAt n) (sym f.1) (i.settled rest fs f.0)

-- what is derived and not too deep is read
pub whole : (e : Edition) (s : Start) (ts : List Terminal) (a : ℕ) (fs : List Event) (d : Derives e (steps_for s) (drop a ts) fs) → IsShallow e s (drop a ts) fs d a
    → IsReadWhole e s ts a fs
whole e s ts a fs d h = elim (complete e s ts a fs d) [
  | inl r ↦ r
  | inr w ↦ absurd (h w.0 (deep_in e s ts a w.0 fs d w.1))
]
