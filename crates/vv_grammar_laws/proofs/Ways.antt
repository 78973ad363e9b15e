-- The machine's way from one state to another: what is derived from the first starts with it, with the same depths.
use Rattle.std.proofs.Common.{◌≡◌, ℕ, zero, suc, ◌+◌, ◌≤◌, Bool, true, false, List, [], ◌∷◌, ◌++◌, Option, drop, refl, sym, ap, ◌∙◌, subst, append_assoc, arith}
use Rattle.vv_grammar.specs.declared.edition.Edition.{Edition}
use Rattle.vv_grammar.specs.declared.event.Event.{Event}
use Rattle.vv_machine.specs.declared.stack.Pending.{Pending}
use Rattle.vv_grammar.specs.declared.step.Step.{Step}
use Rattle.vv_grammar.specs.declared.terminal.Terminal.{Terminal}
use Rattle.vv_machine.specs.Machine as machine
use Rattle.vv_machine.specs.Machine.{next_terminal, Leads, here, further}
use Rattle.vv_grammar_laws.specs.Derivations.{Derives}
use Rattle.vv_grammar_laws.proofs.Followed.{Good}
use Rattle.vv_grammar_laws.proofs.Plain.{act, head, behind}
use Rattle.vv_grammar_laws.proofs.Bridge.{bare, past, Agrees, agrees}
use Rattle.vv_grammar_laws.specs.Depths.{Opening, openings}
use Rattle.vv_grammar_laws.proofs.Settled.{told}
use Rattle.vv_grammar_laws.proofs.Marks.{AreMarked}
use Rattle.vv_grammar_laws.proofs.Moves.{Onward, Inverted, inverted}

-- from the token with number a on, these tokens are those of the file up to number z
abbrev pub AreThose : List Terminal → ℕ → ℕ → List Terminal → Type 0
AreThose ts a z u = (i : ℕ) → a + i ≤ z → head (drop i u) ≡ next_terminal ts (a + i)

-- What is derived from a state goes on from a later one.
pub record Farther (e : Edition) (a : ℕ) (u : List Terminal) (all : List Opening) (L : List Pending) (b : ℕ) (m : Option ℕ) : Type 0 where
  pub far : ℕ
  pub is : b ≡ a + far
  pub steps : List Step
  pub are : bare L ≡ steps
  pub events : List Event
  pub derives : Derives e steps (drop far u) events
  pub before : List Opening
  pub marks : AreMarked m before
  pub told : all ≡ before ++ openings e steps (drop far u) events derives L b
  pub good : Good steps

behind-drop : (k : Bool) (n : ℕ) (u : List Terminal) → behind k (drop n u) ≡ drop (past k n) u
behind-drop false n u = refl
behind-drop true zero [] = refl
behind-drop true (suc n) [] = ap (λ (i : ℕ). drop i []) (let i : suc (n + 1) ≡ suc n + 1 = omega arith in i)
behind-drop true zero (t ∷ u) = refl
behind-drop true (suc n) (t ∷ u) = behind-drop true n u ∙ ap (λ (i : ℕ). drop i (t ∷ u)) (let i : suc (n + 1) ≡ suc n + 1 = omega arith in i)

past-sum : (k : Bool) (a n : ℕ) → past k (a + n) ≡ a + past k n
past-sum false a n = refl
past-sum true a n = omega arith

by-past : (k : Bool) (n : ℕ) → n ≤ past k n
by-past false n = omega arith
by-past true n = omega arith

-- a derivation of the same tokens, written otherwise
pub along : (e : Edition) (S : List Step) (x y : List Terminal) (es : List Event) → x ≡ y → (d : Derives e S x es) → (F : List Pending) (c : ℕ)
    → (f : Derives e S y es) × (openings e S x es d F c ≡ openings e S y es f F c)
along e S x y es w d F c = subst (λ (z : List Terminal). (f : Derives e S z es) × (openings e S x es d F c ≡ openings e S z es f F c)) w (d, refl)

-- one step further
pub moved : (e : Edition) (a : ℕ) (u : List Terminal) (all : List Opening) (L : List Pending) (b : ℕ) (m : Option ℕ) (r : Farther e a u all L b m) (M : List Pending) (c : ℕ) (k : Option ℕ)
    → Onward e b (drop r.far u) (openings e r.steps (drop r.far u) r.events r.derives L b) m M c k → Farther e a u all M c k
moved e a u all L b m r M c k o =
    let w = along e o.steps (behind o.taken (drop r.far u)) (drop (past o.taken r.far) u) o.events (behind-drop o.taken r.far u) o.derives M c in
    record {
      far = past o.taken r.far;
      is = o.next ∙ ap (past o.taken) r.is ∙ past-sum o.taken a r.far;
      steps = o.steps;
      are = o.are;
      events = o.events;
      derives = w.0;
      before = r.before ++ o.before;
      marks = o.marks r.before r.marks;
      told = r.told ∙ ap (λ (y : List Opening). r.before ++ y) (o.told ∙ ap (λ (y : List Opening). o.before ++ y) w.1)
          ∙ sym (append_assoc r.before o.before (openings e o.steps (drop (past o.taken r.far) u) o.events w.0 M c));
      good = o.good;
    }

pub further-by : (e : Edition) (ts : List Terminal) (L M : List Pending) (b c : ℕ) (m k : Option ℕ) (fs : List Event) → machine.advance e ts L b m ≡ machine.advances fs M c k → b ≤ c
further-by e ts L M b c m k fs h =
    let g = subst (λ (x : machine.Advance). Agrees x (act e (bare L) (next_terminal ts b)) b) h (agrees e ts L b m) in
    subst (λ (x : ℕ). b ≤ x) (sym g.2) (by-past g.0 b)

-- one step further along the tokens of the file
pub advanced : (e : Edition) (ts : List Terminal) (a : ℕ) (L M : List Pending) (b c : ℕ) (m k : Option ℕ) (gs : List Event)
    → machine.advance e ts L b m ≡ machine.advances gs M c k
    → (u : List Terminal) (all : List Opening) (z : ℕ) → b ≤ z → AreThose ts a z u → Farther e a u all L b m → Farther e a u all M c k
advanced e ts a [] M b c m k gs i u all z by those r = absurd (subst IsAdvance (sym i) tt)
  where
    IsAdvance : machine.Advance → Type 0
    IsAdvance (machine.advances es L c m) = Unit {0}
    IsAdvance machine.fails = ⊥
    IsAdvance machine.ends = ⊥
advanced e ts a (o ∷ L) M b c m k gs i u all z by those r =
    let is : b ≡ a + r.far = r.is in
    let n : head (drop r.far u) ≡ next_terminal ts b = those r.far (omega (arith, by, is)) ∙ ap (next_terminal ts) (sym is) in
    moved e a u all (o ∷ L) b m r M c k
    (subst (Inverted e b (drop r.far u) (openings e r.steps (drop r.far u) r.events r.derives (o ∷ L) b) m) i
    (inverted e r.steps (drop r.far u) r.events r.derives r.good ts o L b m r.are n))

pub followed : (e : Edition) (ts : List Terminal) (K : List Pending) (a : ℕ) (es : List Event) (L : List Pending) (b : ℕ) (m : Option ℕ) → Leads e ts K a es L b m
    → (R : List Step) (u : List Terminal) (fs : List Event) (d : Derives e R u fs) → Good R → bare K ≡ R → (z : ℕ) → b ≤ z → AreThose ts a z u
    → Farther e a u (openings e R u fs d K a) L b m
followed e _ _ _ _ _ _ _ (here _ ts K at) R u fs d g h z by those = record {
  far = 0;
  is = omega arith;
  steps = R;
  are = h;
  events = fs;
  derives = d;
  before = [];
  marks = λ k x. x;
  told = refl;
  good = g;
}
followed e _ _ _ _ _ _ _ (further _ ts K L M a b c m k es gs l i) R u fs d g h z by those =
    let x = told b m (machine.advance e ts L b m) (machine.goes gs M c k) i in
    let up : b ≤ c = further-by e ts L M b c m k gs x.0 in
    advanced e ts a L M b c m k gs x.0 u (openings e R u fs d K a) z (omega (arith, up, by)) those (followed e ts K a es L b m l R u fs d g h z (omega (arith, up, by)) those)
