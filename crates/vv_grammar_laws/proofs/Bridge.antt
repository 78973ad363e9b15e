-- The machine and the one without levels make the same steps.
use Rattle.std.proofs.Common.{◌≡◌, ℕ, zero, suc, ◌+◌, Bool, true, false, if◌then◌else◌, List, [], ◌∷◌, ◌++◌, length, drop, Option, Some, None, slice_get, refl, sym, ap, ◌∙◌, subst, append_assoc, arith}
use Rattle.std.proofs.lemmas.List.{length-append}
use Rattle.vv_grammar.specs.declared.edition.Edition.{Edition}
use Rattle.vv_grammar.specs.declared.event.Event.{Event}
use Rattle.vv_grammar.specs.declared.event.Event.TheVariants as event
use Rattle.vv_grammar.specs.declared.form.Form.TheVariants as form
use Rattle.vv_grammar.specs.declared.place.Place.{Place}
use Rattle.vv_machine.specs.declared.stack.Pending.{Pending}
use Rattle.vv_grammar.specs.declared.step.Step.{Step}
use Rattle.vv_grammar.specs.declared.step.Step.TheVariants as step
use Rattle.vv_grammar.specs.declared.step.Take.{Take}
use Rattle.vv_grammar.specs.declared.step.Take.TheVariants as take
use Rattle.vv_grammar.specs.declared.terminal.Terminal.{Terminal}
use Rattle.vv_grammar.specs.Terminals.{same}
use Rattle.vv_grammar.specs.Table.{otherwise, level_of}
use Rattle.vv_machine.specs.Machine as machine
use Rattle.vv_machine.specs.Machine.{Turn, turn, chosen, next_terminal, inside, marked, as_step, begun, steps_in, Leads, here, further}
use Rattle.vv_grammar_laws.specs.Derivations.{noted}
use Rattle.vv_grammar_laws.specs.Starts.{AreBetween}
use Rattle.vv_grammar_laws.proofs.Settled.{told}
use Rattle.vv_grammar_laws.proofs.Plain as plain
use Rattle.vv_grammar_laws.proofs.Plain.{Act, act_of, act, head, behind}
use Rattle.vv_grammar_laws.proofs.Acts.{Acts, as_acts, HasHead, made, skipped, kept, chose, passed, stopped, again}
use Rattle.vv_grammar_laws.proofs.Paths.{Path, then-looks, then-takes}
use Rattle.vv_grammar_laws.proofs.Paths as path

abbrev pub bare : List Pending → List Step
bare [] = []
bare (o ∷ K) = o.step ∷ bare K

pub bare-steps : (ss : List Step) (o : Pending) (K : List Pending) → bare (steps_in ss o ++ K) ≡ ss ++ bare K
bare-steps [] o K = refl
bare-steps (s ∷ ss) o K = ap (λ (x : List Step). s ∷ x) (bare-steps ss o K)

pub bare-start : (ss : List Step) (o : Pending) → bare (steps_in ss o) ≡ ss
bare-start [] o = refl
bare-start (s ∷ ss) o = ap (λ (x : List Step). s ∷ x) (bare-start ss o)

abbrev pub past : Bool → ℕ → ℕ
past true at = at + 1
past false at = at

-- what a step of the machine makes is what the step makes without levels
abbrev pub Agrees : machine.Advance → Act → ℕ → Type 0
Agrees (machine.advances es L c m) x at = (b : Bool) × (x ≡ plain.goes es (bare L) b) × (c ≡ past b at)
Agrees machine.fails x at = x ≡ plain.stuck
Agrees machine.ends x at = x ≡ plain.over

taking-agrees : (k : Take) (at : ℕ) (ss : List Step) (o : Pending) (K : List Pending) (m : Option ℕ)
    → Agrees (machine.taking k at ss o K m) (plain.goes (noted k) (ss ++ bare K) (machine.takes k)) at
taking-agrees take.Keep at ss o K m = (true, ap (λ (x : List Step). plain.goes (event.Keep ∷ []) x true) (sym (bare-steps ss (begun o at) K)), refl)
taking-agrees take.Skip at ss o K m = (true, ap (λ (x : List Step). plain.goes (event.Skip ∷ []) x true) (sym (bare-steps ss (begun o at) K)), refl)
taking-agrees take.Look at ss o K m = (false, ap (λ (x : List Step). plain.goes [] x false) (sym (bare-steps ss o K)), refl)

turning-agrees : (p : Place) (r : Turn) (o : Pending) (at : ℕ) (K : List Pending) (m : Option ℕ) → Agrees (machine.turning p r o at K m) (plain.turned r (bare K)) at
turning-agrees p r o at K m = taking-agrees r.take at r.steps (inside (level_of p) o) K (marked (level_of p) o at m)

called-agrees : (r : Option Turn) (other : Option (List Step)) (p : Place) (o : Pending) (at : ℕ) (K : List Pending) (m : Option ℕ)
    → Agrees (machine.called r other p o at K m) (plain.called r other (bare K)) at
called-agrees (Some r) other p o at K m = turning-agrees p r o at K m
called-agrees None (Some ss) p o at K m = (false, ap (λ (x : List Step). plain.goes [] x false) (sym (bare-steps ss o K)), refl)
called-agrees None None p o at K m = refl

repeated-agrees : (r : Option Turn) (p : Place) (o : Pending) (at : ℕ) (K : List Pending) (m : Option ℕ) → o.step ≡ step.Many p
    → Agrees (machine.repeated r p o at K m) (plain.repeated r p (bare K)) at
repeated-agrees None p o at K m h = (false, refl, refl)
repeated-agrees (Some r) p o at K m h =
    subst (λ (x : Step). Agrees (machine.turning p r o at (as_step o (step.Make form.Add) ∷ o ∷ K) m) (plain.turned r (step.Make form.Add ∷ x ∷ bare K)) at) h
    (turning-agrees p r o at (as_step o (step.Make form.Add) ∷ o ∷ K) m)

token-agrees : (f : Event) (w : Terminal) (t : Option Terminal) (at : ℕ) (K : List Pending) (m : Option ℕ) → Agrees (machine.token f w t at K m) (plain.token f w t (bare K)) at
token-agrees f w None at K m = refl
token-agrees f w (Some t) at K m = go (same w t)
  where
    go : (b : Bool) → Agrees (if b then machine.advances (f ∷ []) K (at + 1) m else machine.fails) (if b then plain.goes (f ∷ []) (bare K) true else plain.stuck) at
    go true = (true, refl, refl)
    go false = refl

step-agrees : (e : Edition) (t : Option Terminal) (s : Step) (o : Pending) (at : ℕ) (K : List Pending) (m : Option ℕ) → o.step ≡ s
    → Agrees (machine.advance_of e t s o at K m) (act_of e s t (bare K)) at
step-agrees e t (step.Call p) o at K m h = called-agrees (chosen e p t) (otherwise p) p o at K m
step-agrees e t (step.Many p) o at K m h = repeated-agrees (machine.as_part (chosen e p t)) p o at K m h
step-agrees e t (step.Skip w) o at K m h = token-agrees event.Skip w t at K m
step-agrees e t (step.Keep w) o at K m h = token-agrees event.Keep w t at K m
step-agrees e t (step.Make f) o at K m h = (false, refl, refl)

pub agrees : (e : Edition) (ts : List Terminal) (K : List Pending) (at : ℕ) (m : Option ℕ) → Agrees (machine.advance e ts K at m) (act e (bare K) (next_terminal ts at)) at
agrees e ts [] at m = refl
agrees e ts (o ∷ K) at m = step-agrees e (next_terminal ts at) o.step o at K m refl

head-drop : (xs : List Terminal) (a : ℕ) → head (drop a xs) ≡ slice_get xs a
head-drop [] zero = refl
head-drop [] (suc a) = refl
head-drop (x ∷ xs) zero = refl
head-drop (x ∷ xs) (suc a) = head-drop xs a

pub head-from : (ts : List Terminal) (a : ℕ) → head (drop a ts) ≡ next_terminal ts a
head-from ts a = head-drop ts a

pub drop-next : (xs ys : List Terminal) (x : Terminal) (a : ℕ) → drop a xs ≡ x ∷ ys → ys ≡ drop (a + 1) xs
drop-next [] ys x zero h = absurd (subst (λ (z : List Terminal). HasHead (head z)) (sym h) tt)
drop-next [] ys x (suc a) h = absurd (subst (λ (z : List Terminal). HasHead (head z)) (sym h) tt)
drop-next (y ∷ xs) ys x zero h = ap (behind true) (sym h)
drop-next (y ∷ xs) ys x (suc a) h = drop-next xs ys x a h ∙ ap (λ (i : ℕ). drop i (y ∷ xs)) (let i : suc (a + 1) ≡ suc a + 1 = omega arith in i)

abbrev pub IsTrueOf : Bool → Type 0
IsTrueOf true = Unit {0}
IsTrueOf false = ⊥

pub needs-head : (e : Edition) (K L : List Step) (h : Option Terminal) (es : List Event) (b : Bool) → Acts e K h es L b → IsTrueOf b → HasHead h
needs-head e _ _ _ _ _ (made f K h) x = absurd x
needs-head e _ _ _ _ _ (skipped w t K y) x = tt
needs-head e _ _ _ _ _ (kept w t K y) x = tt
needs-head e _ _ _ _ _ (chose p c t K a y) x = tt
needs-head e _ _ _ _ _ (passed p ss K h o n) x = absurd x
needs-head e _ _ _ _ _ (stopped p K h) x = absurd x
needs-head e _ _ _ _ _ (again p c t K a y k) x = tt

-- The machine's way is a way of the one without levels.
pub record IsWay (e : Edition) (ts : List Terminal) (K : List Pending) (a : ℕ) (es : List Event) (L : List Pending) (b : ℕ) : Type 0 where
  pub tokens : List Terminal
  pub between : AreBetween ts a b tokens
  pub path : Path e (bare L) (drop b ts) (bare K) tokens es

onward : (e : Edition) (ts : List Terminal) (K L M : List Pending) (a b c : ℕ) (es fs : List Event) (w : IsWay e ts K a es L b)
    → (k : Bool) → act e (bare L) (next_terminal ts b) ≡ plain.goes fs (bare M) k → c ≡ past k b → IsWay e ts K a (es ++ fs) M c
onward e ts K L M a b c es fs w false m s =
    let p = then-looks e (bare L) (bare M) (drop b ts) fs (ap (act e (bare L)) (head-from ts b) ∙ m) (bare K) w.tokens es w.path in
    subst (IsWay e ts K a (es ++ fs) M) (sym s) (record { tokens = w.tokens; between = w.between; path = p })
onward e ts K L M a b c es fs w true m s = go (drop b ts) refl
  where
    go : (rest : List Terminal) → drop b ts ≡ rest → IsWay e ts K a (es ++ fs) M c
    go [] h = absurd (subst HasHead (sym (head-from ts b) ∙ ap head h) (needs-head e (bare L) (bare M) (next_terminal ts b) fs true (as_acts e (bare L) (next_terminal ts b) fs (bare M) true m) tt))
    go (t ∷ rest) h =
        let r : rest ≡ drop c ts = drop-next ts rest t b h ∙ ap (λ (i : ℕ). drop i ts) (sym s) in
        let n : act e (bare L) (Some t) ≡ plain.goes fs (bare M) true = ap (act e (bare L)) (sym (ap head h) ∙ head-from ts b) ∙ m in
        let p = then-takes e (bare L) (bare M) t rest fs n (bare K) w.tokens es (subst (λ (x : List Terminal). Path e (bare L) x (bare K) w.tokens es) h w.path) in
        let size : length (w.tokens ++ (t ∷ [])) ≡ length w.tokens + 1 = length-append w.tokens (t ∷ []) in
        let was : b ≡ a + length w.tokens = w.between.size in
        record {
          tokens = w.tokens ++ (t ∷ []);
          between = record {
            split = w.between.split ∙ ap (λ (x : List Terminal). w.tokens ++ x) (h ∙ ap (λ (x : List Terminal). t ∷ x) r) ∙ sym (append_assoc w.tokens (t ∷ []) (drop c ts));
            size = omega (arith, s, size, was);
          };
          path = subst (λ (x : List Terminal). Path e (bare M) x (bare K) (w.tokens ++ (t ∷ [])) (es ++ fs)) r p;
        }

moved : (e : Edition) (ts : List Terminal) (K L M : List Pending) (a b c : ℕ) (m n : Option ℕ) (es fs : List Event) (w : IsWay e ts K a es L b)
    → machine.move e ts L b m ≡ machine.goes fs M c n → IsWay e ts K a (es ++ fs) M c
moved e ts K L M a b c m n es fs w h =
    let x = told b m (machine.advance e ts L b m) (machine.goes fs M c n) h in
    let g : Agrees (machine.advances fs M c n) (act e (bare L) (next_terminal ts b)) b = subst (λ (z : machine.Advance). Agrees z (act e (bare L) (next_terminal ts b)) b) x.0 (agrees e ts L b m) in
    onward e ts K L M a b c es fs w g.0 g.1 g.2

pub way : (e : Edition) (ts : List Terminal) (K : List Pending) (a : ℕ) (es : List Event) (L : List Pending) (b : ℕ) (m : Option ℕ) → Leads e ts K a es L b m → IsWay e ts K a es L b
way e _ _ _ _ _ _ _ (here _ ts K at) = record { tokens = []; between = record { split = refl; size = omega arith }; path = path.here }
way e _ _ _ _ _ _ _ (further _ ts K L M a b c m n es fs l h) = moved e ts K L M a b c m n es fs (way e ts K a es L b m l) h

drop-nil : (i : ℕ) → drop i (let xs : List Terminal = [] in xs) ≡ []
drop-nil zero = refl
drop-nil (suc i) = refl

drop-after : (xs : List Terminal) (a : ℕ) → drop (a + 1) xs ≡ behind true (drop a xs)
drop-after xs a = go (drop a xs) refl
  where
    none : (ys : List Terminal) (i : ℕ) → drop i ys ≡ [] → drop (i + 1) ys ≡ []
    none [] i h = drop-nil (i + 1)
    none (y ∷ ys) zero h = absurd (subst (λ (z : List Terminal). HasHead (head z)) h tt)
    none (y ∷ ys) (suc i) h = ap (λ (k : ℕ). drop k (y ∷ ys)) (let k : suc i + 1 ≡ suc (i + 1) = omega arith in k) ∙ none ys i h

    go : (rest : List Terminal) → drop a xs ≡ rest → drop (a + 1) xs ≡ behind true (drop a xs)
    go [] h = none xs a h ∙ ap (behind true) (sym h)
    go (t ∷ rest) h = sym (drop-next xs rest t a h) ∙ ap (behind true) (sym h)

pub drop-past : (b : Bool) (xs : List Terminal) (a : ℕ) → drop (past b a) xs ≡ behind b (drop a xs)
drop-past true xs a = drop-after xs a
drop-past false xs a = refl
