-- Each move that takes no token makes what is to come lighter, and one that takes a token adds less than the token was worth: so the moves end.
use Rattle.std.proofs.Common.{◌≡◌, ℕ, zero, suc, ◌+◌, ◌-◌, ◌*◌, ◌<◌, ◌≤◌, max, nat_eq, nat_lt, Bool, true, false, ◌&&◌, if◌then◌else◌, List, [], ◌∷◌, ◌++◌, length, Option, Some, None, refl, sym, ap, ◌∙◌, subst, arith}
use Rattle.std.proofs.lemmas.Bool.{true≢false, and_parts}
use Rattle.std.proofs.lemmas.Option.{slice_get_within}
use borrow.Author.Tests.{ltb-true}
use Rattle.vv_grammar.specs.declared.edition.Edition.{Edition}
use Rattle.vv_grammar.specs.declared.edition.Edition.TheVariants as edition
use Rattle.vv_grammar.specs.declared.event.Event.{Event}
use Rattle.vv_grammar.specs.declared.event.Event.TheVariants as event
use Rattle.vv_grammar.specs.declared.form.Form.TheVariants as form
use Rattle.vv_grammar.specs.declared.place.Place.{Place}
use Rattle.vv_grammar.specs.declared.place.Place.TheVariants as place
use Rattle.vv_machine.specs.declared.stack.Pending.{Pending}
use Rattle.vv_grammar.specs.declared.step.Step.{Step}
use Rattle.vv_grammar.specs.declared.step.Step.TheVariants as step
use Rattle.vv_grammar.specs.declared.step.Take.{Take}
use Rattle.vv_grammar.specs.declared.step.Take.TheVariants as take
use Rattle.vv_grammar.specs.declared.terminal.Terminal.{Terminal}
use Rattle.vv_grammar.specs.Terminals.{same, contains}
use Rattle.vv_grammar.specs.Table.{Choice, alternatives, otherwise, level_of}
use Rattle.vv_machine.specs.Machine.{Turn, turn, choose, chosen, as_part, takes, Advance, advances, fails, ends, Move, goes, stuck, deep, over, next_terminal, inside, marked, as_step, begun, steps_in, taking, turning, called, repeated, token, advance_of, advance, settled, settled_if, move, drive, going, Outcome, enough}

-- what a step weighs, by the weights of places
abbrev pub weigh_step : (Place → ℕ) → Step → ℕ
weigh_step w (step.Call p) = w p
weigh_step w (step.Many p) = 1
weigh_step w (step.Skip t) = 1
weigh_step w (step.Keep t) = 1
weigh_step w (step.Make f) = 1

abbrev pub weigh : (Place → ℕ) → List Step → ℕ
weigh w [] = 0
weigh w (s ∷ ss) = weigh_step w s + weigh w ss

-- the heaviest of the steps that come without a token
abbrev pub heaviest : (Place → ℕ) → List Choice → ℕ → ℕ
heaviest w [] m = m
heaviest w (c ∷ cs) m = heaviest w cs (if takes c.take then m else max m (weigh w c.steps))

abbrev pub else_weight : (Place → ℕ) → Option (List Step) → ℕ
else_weight w None = 0
else_weight w (Some ss) = weigh w ss

-- what a place weighs, looking so many places deep
unfoldable pub weight_within : ℕ → Edition → Place → ℕ
weight_within zero e p = 0
weight_within (suc n) e p = suc (heaviest (weight_within n e) (alternatives e p) (else_weight (weight_within n e) (otherwise p)))

unfoldable pub weight : Edition → Place → ℕ
weight e p = weight_within 16 e p

-- an alternative is lighter than its place, or than a token
abbrev pub is_light : (Place → ℕ) → ℕ → Take → List Step → Bool
is_light w n take.Keep ss = nat_lt (weigh w ss) 62
is_light w n take.Skip ss = nat_lt (weigh w ss) 62
is_light w n take.Look ss = nat_lt (weigh w ss) n

abbrev pub are_light : (Place → ℕ) → ℕ → List Choice → Bool
are_light w n [] = true
are_light w n (c ∷ cs) = is_light w n c.take c.steps && are_light w n cs

abbrev pub else_light : (Place → ℕ) → ℕ → Option (List Step) → Bool
else_light w n None = true
else_light w n (Some ss) = nat_lt (weigh w ss) n

abbrev pub balanced : (Place → ℕ) → Edition → Place → Bool
balanced w e p = are_light w (w p) (alternatives e p) && (else_light w (w p) (otherwise p) && nat_lt (w p) 64)

pub balances : (e : Edition) (p : Place) → balanced (weight e) e p ≡ true
unfolding weight weight_within
balances edition.Vhdl93 place.SensitivityNames = refl
balances edition.Vhdl08 place.SensitivityNames = refl
balances e place.Expression = refl
balances e _ = refl

pub record IsBalanced (e : Edition) (p : Place) : Type 0 where
  pub light : are_light (weight e) (weight e p) (alternatives e p) ≡ true
  pub other : else_light (weight e) (weight e p) (otherwise p) ≡ true
  pub limit : weight e p < 64

pub is_balanced : (e : Edition) (p : Place) → IsBalanced e p
is_balanced e p =
    let w = weight e in
    let a = and_parts (are_light w (w p) (alternatives e p)) (else_light w (w p) (otherwise p) && nat_lt (w p) 64) (balances e p) in
    let b = and_parts (else_light w (w p) (otherwise p)) (nat_lt (w p) 64) a.1 in
    record { light = a.0; other = b.0; limit = ltb-true (weight e p) 64 b.1 }

abbrev pub rank : Edition → List Pending → ℕ
rank e [] = 0
rank e (o ∷ K) = weigh_step (weight e) o.step + rank e K

-- what a state weighs: what is to come, and the tokens that are left
abbrev pub measure : Edition → List Terminal → List Pending → ℕ → ℕ
measure e ts K at = rank e K + 64 * (length ts - at)

rank-steps : (e : Edition) (ss : List Step) (o : Pending) (K : List Pending) → rank e (steps_in ss o ++ K) ≡ weigh (weight e) ss + rank e K
rank-steps e [] o K = omega arith
rank-steps e (s ∷ ss) o K = let i : rank e (steps_in ss o ++ K) ≡ weigh (weight e) ss + rank e K = rank-steps e ss o K in omega (arith, i)

-- a step leads to a state that weighs less
abbrev pub Sinks : Edition → List Terminal → ℕ → Advance → Type 0
Sinks e ts n (advances es L b m) = measure e ts L b < n
Sinks e ts n fails = Unit {0}
Sinks e ts n ends = Unit {0}

-- a move leads to a state that weighs less
abbrev pub Falls : Edition → List Terminal → ℕ → Move → Type 0
Falls e ts n (goes es L b m) = measure e ts L b < n
Falls e ts n stuck = Unit {0}
Falls e ts n (deep m) = Unit {0}
Falls e ts n over = Unit {0}

-- where there is a next token, it is one of the tokens
abbrev pub IsNext : Option Terminal → ℕ → List Terminal → Type 0
IsNext None at ts = Unit {0}
IsNext (Some t) at ts = at < length ts

is_next : (ts : List Terminal) (at : ℕ) → IsNext (next_terminal ts at) at ts
is_next ts at = go (next_terminal ts at) refl
  where
    go : (o : Option Terminal) → next_terminal ts at ≡ o → IsNext o at ts
    go None h = tt
    go (Some t) h = slice_get_within ts at t h

abbrev pub IsLightTurn : (Place → ℕ) → ℕ → Option Turn → Type 0
IsLightTurn w n None = Unit {0}
IsLightTurn w n (Some r) = is_light w n r.take r.steps ≡ true

choose-light : (w : Place → ℕ) (n : ℕ) (cs : List Choice) (t : Terminal) → are_light w n cs ≡ true → IsLightTurn w n (choose cs t)
choose-light w n [] t h = tt
choose-light w n (c ∷ cs) t h = let both = and_parts (is_light w n c.take c.steps) (are_light w n cs) h in go (contains c.on t) both.0 (choose-light w n cs t both.1)
  where
    go : (b : Bool) → is_light w n c.take c.steps ≡ true → IsLightTurn w n (choose cs t) → IsLightTurn w n (if b then Some (turn c.take c.steps) else choose cs t)
    go true h k = h
    go false h k = k

chosen-light : (e : Edition) (p : Place) (t : Option Terminal) → IsLightTurn (weight e) (weight e p) (chosen e p t)
chosen-light e p None = tt
chosen-light e p (Some t) = choose-light (weight e) (weight e p) (alternatives e p) t (is_balanced e p).light

-- there is a next token where something is chosen
abbrev pub NeedsNext : Option Turn → ℕ → List Terminal → Type 0
NeedsNext None at ts = Unit {0}
NeedsNext (Some r) at ts = at < length ts

chosen-next : (e : Edition) (p : Place) (t : Option Terminal) (at : ℕ) (ts : List Terminal) → IsNext t at ts → NeedsNext (chosen e p t) at ts
chosen-next e p None at ts h = tt
chosen-next e p (Some t) at ts h = go (choose (alternatives e p) t)
  where
    go : (r : Option Turn) → NeedsNext r at ts
    go None = tt
    go (Some r) = h

took : (n at w r x : ℕ) → at < n → w < 62 → r < x + 2 → (w + r) + 64 * (n - (at + 1)) < x + 64 * (n - at)
took n at w r x h k l = omega arith

looked : (n at w r x : ℕ) → w + r < x → (w + r) + 64 * (n - at) < x + 64 * (n - at)
looked n at w r x h = omega arith

taking-sinks : (e : Edition) (ts : List Terminal) (k : Take) (at : ℕ) (ss : List Step) (o : Pending) (M : List Pending) (mark : Option ℕ) (n x : ℕ)
    → at < length ts → is_light (weight e) n k ss ≡ true → rank e M < x + 2 → (takes k ≡ false → n + rank e M ≤ x)
    → Sinks e ts (x + 64 * (length ts - at)) (taking k at ss o M mark)
taking-sinks e ts take.Keep at ss o M mark n x h k l m =
    rw (rank-steps e ss (begun o at) M) (took (length ts) at (weigh (weight e) ss) (rank e M) x h (ltb-true (weigh (weight e) ss) 62 k) l)
taking-sinks e ts take.Skip at ss o M mark n x h k l m =
    rw (rank-steps e ss (begun o at) M) (took (length ts) at (weigh (weight e) ss) (rank e M) x h (ltb-true (weigh (weight e) ss) 62 k) l)
taking-sinks e ts take.Look at ss o M mark n x h k l m =
    let a : weigh (weight e) ss < n = ltb-true (weigh (weight e) ss) n k in
    let b : n + rank e M ≤ x = m refl in
    rw (rank-steps e ss o M) (looked (length ts) at (weigh (weight e) ss) (rank e M) x (omega (arith, a, b)))

turning-sinks : (e : Edition) (ts : List Terminal) (p : Place) (r : Turn) (o : Pending) (at : ℕ) (M : List Pending) (mark : Option ℕ) (n x : ℕ)
    → at < length ts → is_light (weight e) n r.take r.steps ≡ true → rank e M < x + 2 → (takes r.take ≡ false → n + rank e M ≤ x)
    → Sinks e ts (x + 64 * (length ts - at)) (turning p r o at M mark)
turning-sinks e ts p r o at M mark n x h k l m = taking-sinks e ts r.take at r.steps (inside (level_of p) o) M (marked (level_of p) o at mark) n x h k l m

called-sinks : (e : Edition) (ts : List Terminal) (r : Option Turn) (other : Option (List Step)) (p : Place) (o : Pending) (at : ℕ) (K : List Pending) (mark : Option ℕ)
    → NeedsNext r at ts → IsLightTurn (weight e) (weight e p) r → else_light (weight e) (weight e p) other ≡ true
    → Sinks e ts ((weight e p + rank e K) + 64 * (length ts - at)) (called r other p o at K mark)
called-sinks e ts (Some r) other p o at K mark h k l = turning-sinks e ts p r o at K mark (weight e p) (weight e p + rank e K) h k (omega arith) (λ z. omega arith)
called-sinks e ts None (Some ss) p o at K mark h k l =
    let a : weigh (weight e) ss < weight e p = ltb-true (weigh (weight e) ss) (weight e p) l in
    rw (rank-steps e ss o K) (looked (length ts) at (weigh (weight e) ss) (rank e K) (weight e p + rank e K) (omega (arith, a)))
called-sinks e ts None None p o at K mark h k l = tt

repeated-sinks : (e : Edition) (ts : List Terminal) (r : Option Turn) (p : Place) (o : Pending) (at : ℕ) (K : List Pending) (mark : Option ℕ) → o.step ≡ step.Many p
    → NeedsNext r at ts → IsLightTurn (weight e) (weight e p) r
    → Sinks e ts ((1 + rank e K) + 64 * (length ts - at)) (repeated (as_part r) p o at K mark)
repeated-sinks e ts None p o at K mark s h k = omega arith
repeated-sinks e ts (Some r) p o at K mark s h k = go (takes r.take) refl
  where
    pushed : rank e (as_step o (step.Make form.Add) ∷ o ∷ K) ≡ 2 + rank e K
    pushed = let i : weigh_step (weight e) o.step ≡ 1 = ap (weigh_step (weight e)) s in omega (arith, i)

    go : (b : Bool) → takes r.take ≡ b → Sinks e ts ((1 + rank e K) + 64 * (length ts - at)) (repeated (if b then Some r else None) p o at K mark)
    go false t = omega arith
    go true t =
        turning-sinks e ts p r o at (as_step o (step.Make form.Add) ∷ o ∷ K) mark (weight e p) (1 + rank e K) h k
        (omega (arith, pushed)) (λ z. absurd (true≢false (sym t ∙ z)))

token-sinks : (e : Edition) (ts : List Terminal) (f : Event) (w : Terminal) (t : Option Terminal) (at : ℕ) (K : List Pending) (mark : Option ℕ) → IsNext t at ts
    → Sinks e ts ((1 + rank e K) + 64 * (length ts - at)) (token f w t at K mark)
token-sinks e ts f w None at K mark h = tt
token-sinks e ts f w (Some t) at K mark h = go (same w t)
  where
    go : (b : Bool) → Sinks e ts ((1 + rank e K) + 64 * (length ts - at)) (if b then advances (f ∷ []) K (at + 1) mark else fails)
    go true = omega arith
    go false = tt

step-sinks : (e : Edition) (ts : List Terminal) (s : Step) (o : Pending) (at : ℕ) (K : List Pending) (mark : Option ℕ) (t : Option Terminal) → o.step ≡ s → IsNext t at ts
    → Sinks e ts ((weigh_step (weight e) s + rank e K) + 64 * (length ts - at)) (advance_of e t s o at K mark)
step-sinks e ts (step.Call p) o at K mark t s h =
    called-sinks e ts (chosen e p t) (otherwise p) p o at K mark (chosen-next e p t at ts h) (chosen-light e p t) (is_balanced e p).other
step-sinks e ts (step.Many p) o at K mark t s h = repeated-sinks e ts (chosen e p t) p o at K mark s (chosen-next e p t at ts h) (chosen-light e p t)
step-sinks e ts (step.Skip w) o at K mark t s h = token-sinks e ts event.Skip w t at K mark h
step-sinks e ts (step.Keep w) o at K mark t s h = token-sinks e ts event.Keep w t at K mark h
step-sinks e ts (step.Make f) o at K mark t s h = omega arith

sinks : (e : Edition) (ts : List Terminal) (K : List Pending) (at : ℕ) (mark : Option ℕ) → Sinks e ts (measure e ts K at) (advance e ts K at mark)
sinks e ts [] at mark = tt
sinks e ts (o ∷ K) at mark = step-sinks e ts o.step o at K mark (next_terminal ts at) refl (is_next ts at)

settled-falls : (e : Edition) (ts : List Terminal) (n at : ℕ) (mark : Option ℕ) (x : Advance) → Sinks e ts n x → Falls e ts n (settled at mark x)
settled-falls e ts n at mark (advances es L b None) h = h
settled-falls e ts n at mark (advances es L b (Some m)) h = go (nat_eq b at)
  where
    go : (y : Bool) → Falls e ts n (settled_if y es L b m)
    go true = h
    go false = tt
settled-falls e ts n at None fails h = tt
settled-falls e ts n at (Some m) fails h = tt
settled-falls e ts n at None ends h = tt
settled-falls e ts n at (Some m) ends h = tt

-- Each move leads to a state that weighs less.
pub falls : (e : Edition) (ts : List Terminal) (K : List Pending) (at : ℕ) (mark : Option ℕ) → Falls e ts (measure e ts K at) (move e ts K at mark)
falls e ts K at mark = settled-falls e ts (measure e ts K at) at mark (advance e ts K at mark) (sinks e ts K at mark)

pub fell_to : (e : Edition) (ts : List Terminal) (K L : List Pending) (at b : ℕ) (mark later : Option ℕ) (fs : List Event) → move e ts K at mark ≡ goes fs L b later
    → measure e ts L b < measure e ts K at
fell_to e ts K L at b mark later fs i = subst (Falls e ts (measure e ts K at)) i (falls e ts K at mark)

pub going_on_as : (f g : List Pending → ℕ → Option ℕ → List Event → Outcome) (es : List Event) (at : ℕ) (v : Move)
    → ((fs : List Event) (L : List Pending) (b : ℕ) (m : Option ℕ) → v ≡ goes fs L b m → f L b m (es ++ fs) ≡ g L b m (es ++ fs)) → going f es at v ≡ going g es at v
going_on_as f g es at (goes fs L b m) h = h fs L b m refl
going_on_as f g es at stuck h = refl
going_on_as f g es at (deep n) h = refl
going_on_as f g es at over h = refl

-- More moves than a state weighs change nothing.
pub driven_on : (m n : ℕ) (e : Edition) (ts : List Terminal) (K : List Pending) (at : ℕ) (mark : Option ℕ) (es : List Event)
    → measure e ts K at < m → measure e ts K at < n → drive m e ts K at mark es ≡ drive n e ts K at mark es
unfolding drive
driven_on zero n e ts K at mark es h k = absurd (omega arith)
driven_on (suc m) zero e ts K at mark es h k = absurd (omega arith)
driven_on (suc m) (suc n) e ts K at mark es h k =
    going_on_as (λ L b x fs. drive m e ts L b x fs) (λ L b x fs. drive n e ts L b x fs) es at (move e ts K at mark)
    (λ fs L b x i. let f : measure e ts L b < measure e ts K at = fell_to e ts K L at b mark x fs i in driven_on m n e ts L b x (es ++ fs) (omega (arith, f)) (omega (arith, f)))

step-bounded : (e : Edition) (s : Step) → weigh_step (weight e) s ≤ 64
step-bounded e (step.Call p) = let h : weight e p < 64 = (is_balanced e p).limit in omega arith
step-bounded e (step.Many p) = omega arith
step-bounded e (step.Skip t) = omega arith
step-bounded e (step.Keep t) = omega arith
step-bounded e (step.Make f) = omega arith

rank-bounded : (e : Edition) (K : List Pending) → rank e K ≤ 64 * length K
rank-bounded e [] = omega arith
rank-bounded e (o ∷ K) = let h : weigh_step (weight e) o.step ≤ 64 = step-bounded e o.step in let k : rank e K ≤ 64 * length K = rank-bounded e K in omega arith

-- The moves are enough from each state on.
pub enough_moves : (e : Edition) (ts : List Terminal) (K : List Pending) (at : ℕ) → measure e ts K at < enough ts K
enough_moves e ts K at = let h : rank e K ≤ 64 * length K = rank-bounded e K in omega arith
