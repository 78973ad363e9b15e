-- What the machine has gone through so far goes on in a way in which nothing before it is too deep.
use Rattle.std.proofs.Common.{◌≡◌, inl, inr, ℕ, suc, ◌+◌, ◌≤◌, ◌<◌, Bool, true, false, List, [], ◌∷◌, ◌++◌, length, drop, Option, Some, None, refl, sym, ap, ◌∙◌, subst, append_assoc, arith}
use Rattle.std.proofs.lemmas.List.{length-append, append-nil}
use Rattle.vv_grammar.specs.declared.edition.Edition.{Edition}
use Rattle.vv_grammar.specs.declared.event.Event.{Event}
use Rattle.vv_machine.specs.declared.stack.Pending.{Pending}
use Rattle.vv_grammar.specs.declared.step.Step.{Step}
use Rattle.vv_grammar.specs.declared.terminal.Terminal.{Terminal}
use Rattle.vv_machine.specs.Machine as machine
use Rattle.vv_machine.specs.Machine.{next_terminal, steps_in, Leads, here, further}
use Rattle.vv_grammar_laws.specs.Derivations.{Derives, done, make, skip, keep, call, pass, stop, more}
use Rattle.vv_grammar_laws.specs.Depths.{Opening, openings, IsTooDeepAt}
use Rattle.vv_grammar_laws.specs.Starts.{AreBetween}
use Rattle.vv_grammar_laws.proofs.Plain.{head}
use Rattle.vv_grammar_laws.proofs.Acts.{as_acts}
use Rattle.vv_grammar_laws.proofs.Seals.{Closed, closed-acts, IsEmpty}
use Rattle.vv_grammar_laws.proofs.Paths.{Path, here as path-here, looks, takes, derived}
use Rattle.vv_grammar_laws.proofs.Bridge.{bare, past, head-from, drop-next, way}
use Rattle.vv_grammar_laws.proofs.Calm.{Arrival, at_start, by_token}
use Rattle.vv_grammar_laws.proofs.Words.{From, productive}
use Rattle.vv_grammar_laws.proofs.Settled.{told}
use Rattle.vv_grammar_laws.proofs.Marks.{AreMarked, deep-either}
use Rattle.vv_grammar_laws.proofs.Back.{same_derivation, IsFront, Backed, Returns, returns}

-- Something is derived from a first state, where something is derived from a later one.
pub record Behind (e : Edition) (ts : List Terminal) (K : List Pending) (a b : ℕ) (m : Option ℕ) (w : List Terminal) (later : List Opening) : Type 0 where
  pub tokens : List Terminal
  pub between : AreBetween ts a b tokens
  pub events : List Event
  pub derives : Derives e (bare K) (tokens ++ w) events
  pub before : List Opening
  pub marks : AreMarked m before
  pub told : openings e (bare K) (tokens ++ w) events derives K a ≡ before ++ later

between-nothing : (ts : List Terminal) (a : ℕ) → AreBetween ts a a []
between-nothing ts a = record { split = refl; size = omega arith }

abbrev HasHead : List Terminal → Type 0
HasHead [] = ⊥
HasHead (t ∷ u) = Unit {0}

split-head : (xs : List Terminal) (t : Terminal) → head xs ≡ Some t → (rest : List Terminal) × (xs ≡ t ∷ rest)
split-head [] t h = absurd (subst IsSome (sym h) tt)
  where
    IsSome : Option Terminal → Type 0
    IsSome None = ⊥
    IsSome (Some x) = Unit {0}
split-head (x ∷ xs) t h = (xs, ap (λ (z : Terminal). z ∷ xs) (ap the_one h))
  where
    the_one : Option Terminal → Terminal
    the_one None = x
    the_one (Some z) = z

pub between-next : (ts : List Terminal) (a b : ℕ) (q : List Terminal) (t : Terminal) → AreBetween ts a b q → next_terminal ts b ≡ Some t → AreBetween ts a (b + 1) (q ++ (t ∷ []))
between-next ts a b q t w n =
    let s = split-head (drop b ts) t (head-from ts b ∙ n) in
    let r : s.0 ≡ drop (b + 1) ts = drop-next ts s.0 t b s.1 in
    let size : length (q ++ (t ∷ [])) ≡ length q + 1 = length-append q (t ∷ []) in
    let was : b ≡ a + length q = w.size in
    record {
      split = w.split ∙ ap (λ (x : List Terminal). q ++ x) (s.1 ∙ ap (λ (x : List Terminal). t ∷ x) r) ∙ sym (append_assoc q (t ∷ []) (drop (b + 1) ts));
      size = omega (arith, size, was);
    }

-- the tokens in front of a step, joined with those that came before them
onto : (e : Edition) (ts : List Terminal) (K : List Pending) (a b c : ℕ) (m k : Option ℕ) (taken : Bool) (u w : List Terminal) (all later before : List Opening)
    → c ≡ past taken b → IsFront taken (next_terminal ts b) w u → ((os : List Opening) → AreMarked m os → AreMarked k (os ++ before)) → all ≡ before ++ later
    → Behind e ts K a b m u all → Behind e ts K a c k w later
onto e ts K a b c m k false u w all later before n f marks t r =
    let d = same_derivation e (bare K) (bare K) (r.tokens ++ u) (r.tokens ++ w) r.events refl (ap (λ (x : List Terminal). r.tokens ++ x) f) r.derives K a in
    subst (λ (x : ℕ). Behind e ts K a x k w later) (sym n) (record {
      tokens = r.tokens;
      between = r.between;
      events = r.events;
      derives = d.0;
      before = r.before ++ before;
      marks = marks r.before r.marks;
      told = sym d.1 ∙ r.told ∙ ap (λ (x : List Opening). r.before ++ x) t ∙ sym (append_assoc r.before before later);
    })
onto e ts K a b c m k true u w all later before n f marks t r =
    let x : Terminal = f.0 in
    let d = same_derivation e (bare K) (bare K) (r.tokens ++ u) ((r.tokens ++ (x ∷ [])) ++ w) r.events refl
    (ap (λ (y : List Terminal). r.tokens ++ y) f.2 ∙ sym (append_assoc r.tokens (x ∷ []) w)) r.derives K a in
    subst (λ (y : ℕ). Behind e ts K a y k w later) (sym n) (record {
      tokens = r.tokens ++ (x ∷ []);
      between = between-next ts a b r.tokens x r.between f.1;
      events = r.events;
      derives = d.0;
      before = r.before ++ before;
      marks = marks r.before r.marks;
      told = sym d.1 ∙ r.told ∙ ap (λ (y : List Opening). r.before ++ y) t ∙ sym (append_assoc r.before before later);
    })

front-head : (taken : Bool) (ts : List Terminal) (b c : ℕ) (w u : List Terminal) → c ≡ past taken b → IsFront taken (next_terminal ts b) w u → (c ≡ b → head w ≡ next_terminal ts b) → head u ≡ next_terminal ts b
front-head false ts b c w u n f look = ap head f ∙ look n
front-head true ts b c w u n f look = ap head f.2 ∙ sym f.1

-- one step back
behind-step : (e : Edition) (ts : List Terminal) (K : List Pending) (a : ℕ) (L M : List Pending) (b c : ℕ) (m k : Option ℕ) (gs : List Event)
    → machine.advance e ts L b m ≡ machine.advances gs M c k
    → (w : List Terminal) (fs : List Event) (d : Derives e (bare M) w fs) → (c ≡ b → head w ≡ next_terminal ts b)
    → ((u : List Terminal) (hs : List Event) (x : Derives e (bare L) u hs) → head u ≡ next_terminal ts b → Behind e ts K a b m u (openings e (bare L) u hs x L b))
    → Behind e ts K a c k w (openings e (bare M) w fs d M c)
behind-step e ts K a [] M b c m k gs h w fs d look on = absurd (subst IsAdvance (sym h) tt)
  where
    IsAdvance : machine.Advance → Type 0
    IsAdvance (machine.advances es L c m) = Unit {0}
    IsAdvance machine.fails = ⊥
    IsAdvance machine.ends = ⊥
behind-step e ts K a (o ∷ L) M b c m k gs h w fs d look on =
    let back : Returns e ts (o ∷ L) b m (machine.advances gs M c k) = subst (Returns e ts (o ∷ L) b m) h (returns e ts o L b m) in
    let r : Backed e ts (o ∷ L) b m w fs M c k d = back w fs d look in
    onto e ts K a b c m k r.taken r.tokens w (openings e (bare (o ∷ L)) r.tokens r.events r.derives (o ∷ L) b) (openings e (bare M) w fs d M c)
    r.before r.next r.front r.marks r.told
    (on r.tokens r.events r.derives (front-head r.taken ts b c w r.tokens r.next r.front look))

pub behind-way : (e : Edition) (ts : List Terminal) (K : List Pending) (a : ℕ) (es : List Event) (L : List Pending) (b : ℕ) (m : Option ℕ) → Leads e ts K a es L b m
    → (w : List Terminal) (fs : List Event) (d : Derives e (bare L) w fs) → head w ≡ next_terminal ts b → Behind e ts K a b m w (openings e (bare L) w fs d L b)
behind-way e _ _ _ _ _ _ _ (here _ ts K at) w fs d h = record {
  tokens = [];
  between = between-nothing ts at;
  events = fs;
  derives = d;
  before = [];
  marks = λ k x. x;
  told = refl;
}
behind-way e _ _ _ _ _ _ _ (further _ ts K L M a b c m k es gs l i) w fs d h =
    let x = told b m (machine.advance e ts L b m) (machine.goes gs M c k) i in
    behind-step e ts K a L M b c m k gs x.0 w fs d (λ j. h ∙ ap (next_terminal ts) j) (λ u hs y n. behind-way e ts K a es L b m l u hs y n)

-- The tokens before a token go on, and nothing that starts before it is too deep.
pub record Freely (e : Edition) (ts : List Terminal) (K : List Pending) (a b : ℕ) : Type 0 where
  pub tokens : List Terminal
  pub between : AreBetween ts a b tokens
  pub more : List Terminal
  pub events : List Event
  pub derives : Derives e (bare K) (tokens ++ more) events
  pub free : (n : ℕ) → n < b → IsTooDeepAt n (openings e (bare K) (tokens ++ more) events derives K a) → ⊥

not-from : (b n : ℕ) (ys : List Opening) → n < b → From b ys → IsTooDeepAt n ys → ⊥
not-from b n [] l f h = h
not-from b n (y ∷ ys) l f h = elim h [
  | inl i ↦ let x : y.at ≡ n = i.0 in let g : b ≤ y.at = f.0 in omega (arith, x, g, l)
  | inr i ↦ not-from b n ys l f.1 i
]

pub no-deep : (b n : ℕ) (xs ys : List Opening) → n < b → (IsTooDeepAt n xs → ⊥) → From b ys → IsTooDeepAt n (xs ++ ys) → ⊥
no-deep b n xs ys l s f h = elim (deep-either n xs ys h) [
  | inl i ↦ s i
  | inr i ↦ not-from b n ys l f i
]

freed : (e : Edition) (ts : List Terminal) (K : List Pending) (a b : ℕ) (w : List Terminal) (later : List Opening) → From b later → Behind e ts K a b None w later → Freely e ts K a b
freed e ts K a b w later f r = record {
  tokens = r.tokens;
  between = r.between;
  more = w;
  events = r.events;
  derives = r.derives;
  free = λ n l h. no-deep b n r.before later l (r.marks n) f (subst (IsTooDeepAt n) r.told h);
}

-- behind the token that was taken last anything that is derived will do
pub behind-token : (e : Edition) (ts : List Terminal) (K : List Pending) (a : ℕ) (es fs : List Event) (L M : List Pending) (b : ℕ) (m k : Option ℕ) → Leads e ts K a es L b m
    → machine.advance e ts L b m ≡ machine.advances fs M (b + 1) k → (w : List Terminal) (gs : List Event) (d : Derives e (bare M) w gs)
    → Behind e ts K a (b + 1) k w (openings e (bare M) w gs d M (b + 1))
behind-token e ts K a es fs L M b m k l h w gs d =
    behind-step e ts K a L M b (b + 1) m k fs h w gs d (λ i. absurd (omega (arith, i))) (λ u hs x n. behind-way e ts K a es L b m l u hs x n)

pub freely : (e : Edition) (ts : List Terminal) (K : List Pending) (a : ℕ) (Z : List Pending) (b : ℕ) (m : Option ℕ) → Arrival e ts K a Z b m → Freely e ts K a b
freely e ts K a Z _ _ (at_start rs k c l) =
    let p = productive e K c in
    freed e ts K a a p.0 (openings e (bare K) p.0 p.1.events p.1.derives K a) (p.1.starts K a)
    (record { tokens = []; between = between-nothing ts a; events = p.1.events; derives = p.1.derives; before = []; marks = λ k x. x; told = refl })
freely e ts K a Z _ _ (by_token es fs rs L M b m k l h c n) =
    let p = productive e M c in
    freed e ts K a (b + 1) p.0 (openings e (bare M) p.0 p.1.events p.1.derives M (b + 1)) (p.1.starts M (b + 1))
    (behind-token e ts K a es fs L M b m None l (told b m (machine.advance e ts L b m) (machine.goes fs M (b + 1) None) h).0 p.0 p.1.events p.1.derives)

-- The tokens are derived, and nothing in them is too deep.
pub record Shallowly (e : Edition) (ts : List Terminal) (K : List Pending) (a b : ℕ) : Type 0 where
  pub tokens : List Terminal
  pub between : AreBetween ts a b tokens
  pub events : List Event
  pub derives : Derives e (bare K) tokens events
  pub none : (n : ℕ) → IsTooDeepAt n (openings e (bare K) tokens events derives K a) → ⊥

-- where no token is derived, nothing starts
no-openings : (e : Edition) (K : List Step) (u : List Terminal) (es : List Event) (d : Derives e K u es) → IsEmpty u → (F : List Pending) (at : ℕ) → openings e K u es d F at ≡ []
no-openings e _ _ _ done n F at = refl
no-openings e _ _ _ (make f K u es d) n [] at = refl
no-openings e _ _ _ (make f K u es d) n (o ∷ F) at = no-openings e K u es d n F at
no-openings e _ _ _ (skip w t K u es s d) n F at = absurd n
no-openings e _ _ _ (keep w t K u es s d) n F at = absurd n
no-openings e _ _ _ (call p c t K u es a h d) n F at = absurd n
no-openings e _ _ _ (pass p ss K u es x d) n [] at = refl
no-openings e _ _ _ (pass p ss K u es x d) n (o ∷ F) at = no-openings e (ss ++ K) u es d n (steps_in ss o ++ F) at
no-openings e _ _ _ (stop p K u es d) n [] at = refl
no-openings e _ _ _ (stop p K u es d) n (o ∷ F) at = no-openings e K u es d n F at
no-openings e _ _ _ (more p c t K u es a h k d) n F at = absurd n

shallowed : (e : Edition) (ts : List Terminal) (K : List Pending) (a b : ℕ) (later : List Opening) → later ≡ [] → Behind e ts K a b None [] later → Shallowly e ts K a b
shallowed e ts K a b later n r =
    let d = same_derivation e (bare K) (bare K) (r.tokens ++ []) r.tokens r.events refl (append-nil r.tokens) r.derives K a in
    record {
      tokens = r.tokens;
      between = r.between;
      events = r.events;
      derives = d.0;
      none = λ m h. r.marks m (subst (IsTooDeepAt m) (sym d.1 ∙ r.told ∙ ap (λ (x : List Opening). r.before ++ x) n ∙ append-nil r.before) h);
    }

-- with no token taken the rest is derived from nothing
pub rest-derived : (e : Edition) (ts : List Terminal) (M : List Pending) (b : ℕ) (k : Option ℕ) (rs : List Event) → Closed (bare M) → Leads e ts M b rs [] b k → Derives e (bare M) [] rs
rest-derived e ts M b k rs c l =
    let w = way e ts M b rs [] b k l in
    let n : w.tokens ≡ [] = no-tokens w.tokens w.between.size in
    derived e (drop b ts) (bare M) [] rs (subst (λ (x : List Terminal). Path e [] (drop b ts) (bare M) x rs) n w.path) c
  where
    no-tokens : (q : List Terminal) → b ≡ b + length q → q ≡ []
    no-tokens [] h = refl
    no-tokens (t ∷ q) h = absurd (let g : b ≡ b + suc (length q) = h in omega (arith, g))

pub closed-path : (e : Edition) (M : List Step) (v : List Terminal) (K : List Step) (q : List Terminal) (es : List Event) → Path e M v K q es → Closed K → Closed M
closed-path e M v _ _ _ path-here c = c
closed-path e M v _ _ _ (looks K L q es fs m p) c = closed-path e M v L q fs p (closed-acts e K L (head (q ++ v)) es false (as_acts e K (head (q ++ v)) es L false m) c)
closed-path e M v _ _ _ (takes K L t q es fs m p) c = closed-path e M v L q fs p (closed-acts e K L (Some t) es true (as_acts e K (Some t) es L true m) c)

pub shallowly : (e : Edition) (ts : List Terminal) (K : List Pending) (a b : ℕ) (m : Option ℕ) → Closed (bare K) → Arrival e ts K a [] b m → Shallowly e ts K a b
shallowly e ts K a _ _ c (at_start rs k q l) =
    let d = rest-derived e ts K a k rs c l in
    shallowed e ts K a a (openings e (bare K) [] rs d K a) (no-openings e (bare K) [] rs d tt K a)
    (record { tokens = []; between = between-nothing ts a; events = rs; derives = d; before = []; marks = λ n x. x; told = refl })
shallowly e ts K a _ _ c (by_token es fs rs L M b m k l h q n) =
    let w = way e ts K a (es ++ fs) M (b + 1) None (further e ts K L M a b (b + 1) m None es fs l h) in
    let d = rest-derived e ts M (b + 1) k rs (closed-path e (bare M) (drop (b + 1) ts) (bare K) w.tokens (es ++ fs) w.path c) n in
    shallowed e ts K a (b + 1) (openings e (bare M) [] rs d M (b + 1)) (no-openings e (bare M) [] rs d tt M (b + 1))
    (behind-token e ts K a es fs L M b m None l (told b m (machine.advance e ts L b m) (machine.goes fs M (b + 1) None) h).0 [] rs d)
