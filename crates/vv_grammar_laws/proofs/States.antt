-- What holds of each state of the machine: all that is to come began by now, and its mark is no later token.
use Rattle.std.proofs.Common.{ℕ, ◌+◌, ◌≤◌, Bool, true, false, if◌then◌else◌, List, [], ◌∷◌, ◌++◌, Option, Some, None, nat_lt, subst, arith}
use Rattle.vv_grammar.specs.declared.edition.Edition.{Edition}
use Rattle.vv_grammar.specs.declared.event.Event.{Event}
use Rattle.vv_grammar.specs.declared.event.Event.TheVariants as event
use Rattle.vv_grammar.specs.declared.form.Form.TheVariants as form
use Rattle.vv_grammar.specs.declared.place.Place.{Place}
use Rattle.vv_machine.specs.declared.stack.Pending.{Pending}
use Rattle.vv_grammar.specs.declared.step.Level.{Level}
use Rattle.vv_grammar.specs.declared.step.Level.TheVariants as level
use Rattle.vv_grammar.specs.declared.step.Step.{Step}
use Rattle.vv_grammar.specs.declared.step.Step.TheVariants as step
use Rattle.vv_grammar.specs.declared.step.Take.{Take}
use Rattle.vv_grammar.specs.declared.step.Take.TheVariants as take
use Rattle.vv_grammar.specs.declared.terminal.Terminal.{Terminal}
use Rattle.vv_grammar.specs.Terminals.{same}
use Rattle.vv_grammar.specs.Table.{otherwise, level_of}
use Rattle.vv_machine.specs.Machine as machine
use Rattle.vv_machine.specs.Machine.{Turn, chosen, next_terminal, inside, starting, earlier, marked, marked_if, is_too_deep, as_step, begun, steps_in, starting_with, Leads, here, further}
use Rattle.vv_grammar_laws.proofs.Settled.{StaysAt, told}

abbrev pub AllBegan : List Pending → ℕ → Type 0
AllBegan [] at = Unit {0}
AllBegan (o ∷ K) at = (o.began ≤ at) × AllBegan K at

abbrev pub MarkBy : Option ℕ → ℕ → Type 0
MarkBy None at = Unit {0}
MarkBy (Some n) at = n ≤ at

-- what a step at a token leaves
abbrev pub Fine : ℕ → machine.Advance → Type 0
Fine at (machine.advances es L c m) = AllBegan L c × MarkBy m at
Fine at machine.fails = Unit {0}
Fine at machine.ends = Unit {0}

later-began : (K : List Pending) (at : ℕ) → AllBegan K at → AllBegan K (at + 1)
later-began [] at h = tt
later-began (o ∷ K) at h = (let i : o.began ≤ at = h.0 in omega (arith, i), later-began K at h.1)

steps-began : (ss : List Step) (o : Pending) (K : List Pending) (c : ℕ) → o.began ≤ c → AllBegan K c → AllBegan (steps_in ss o ++ K) c
steps-began [] o K c h k = k
steps-began (s ∷ ss) o K c h k = (h, steps-began ss o K c h k)

taking-fine : (k : Take) (at : ℕ) (ss : List Step) (o : Pending) (K : List Pending) (m : Option ℕ) → o.began ≤ at → AllBegan K at → MarkBy m at → Fine at (machine.taking k at ss o K m)
taking-fine take.Keep at ss o K m h k n = (steps-began ss (begun o at) K (at + 1) (omega arith) (later-began K at k), n)
taking-fine take.Skip at ss o K m h k n = (steps-began ss (begun o at) K (at + 1) (omega arith) (later-began K at k), n)
taking-fine take.Look at ss o K m h k n = (steps-began ss o K at h k, n)

inside-began : (l : Level) (o : Pending) (at : ℕ) → o.began ≤ at → (inside l o).began ≤ at
inside-began level.Same o at h = h
inside-began level.Expression o at h = h
inside-began level.ExpressionBehind o at h = h
inside-began level.Statement o at h = h
inside-began level.StatementBehind o at h = h

starting-by : (l : Level) (o : Pending) (at : ℕ) → o.began ≤ at → starting l o at ≤ at
starting-by level.Same o at h = omega arith
starting-by level.Expression o at h = omega arith
starting-by level.ExpressionBehind o at h = h
starting-by level.Statement o at h = omega arith
starting-by level.StatementBehind o at h = h

earlier-by : (m : Option ℕ) (n at : ℕ) → n ≤ at → MarkBy m at → earlier m n ≤ at
earlier-by None n at h k = h
earlier-by (Some p) n at h k = go (nat_lt p n)
  where
    go : (b : Bool) → (if b then p else n) ≤ at
    go true = k
    go false = h

marked-by : (b : Bool) (m : Option ℕ) (n at : ℕ) → n ≤ at → MarkBy m at → MarkBy (marked_if b n m) at
marked-by true m n at h k = earlier-by m n at h k
marked-by false m n at h k = k

turning-fine : (p : Place) (r : Turn) (o : Pending) (at : ℕ) (K : List Pending) (m : Option ℕ) → o.began ≤ at → AllBegan K at → MarkBy m at → Fine at (machine.turning p r o at K m)
turning-fine p r o at K m h k n =
    taking-fine r.take at r.steps (inside (level_of p) o) K (marked (level_of p) o at m) (inside-began (level_of p) o at h) k
    (marked-by (is_too_deep (level_of p) o) m (starting (level_of p) o at) at (starting-by (level_of p) o at h) n)

called-fine : (r : Option Turn) (x : Option (List Step)) (p : Place) (o : Pending) (at : ℕ) (K : List Pending) (m : Option ℕ)
    → o.began ≤ at → AllBegan K at → MarkBy m at → Fine at (machine.called r x p o at K m)
called-fine (Some r) x p o at K m h k n = turning-fine p r o at K m h k n
called-fine None (Some ss) p o at K m h k n = (steps-began ss o K at h k, n)
called-fine None None p o at K m h k n = tt

repeated-fine : (r : Option Turn) (p : Place) (o : Pending) (at : ℕ) (K : List Pending) (m : Option ℕ) → o.began ≤ at → AllBegan K at → MarkBy m at → Fine at (machine.repeated r p o at K m)
repeated-fine None p o at K m h k n = (k, n)
repeated-fine (Some r) p o at K m h k n = turning-fine p r o at (as_step o (step.Make form.Add) ∷ o ∷ K) m h (h, (h, k)) n

token-fine : (f : Event) (w : Terminal) (t : Option Terminal) (at : ℕ) (K : List Pending) (m : Option ℕ) → AllBegan K at → MarkBy m at → Fine at (machine.token f w t at K m)
token-fine f w None at K m k n = tt
token-fine f w (Some t) at K m k n = go (same w t)
  where
    go : (b : Bool) → Fine at (if b then machine.advances (f ∷ []) K (at + 1) m else machine.fails)
    go true = (later-began K at k, n)
    go false = tt

step-fine : (e : Edition) (t : Option Terminal) (s : Step) (o : Pending) (at : ℕ) (K : List Pending) (m : Option ℕ)
    → o.began ≤ at → AllBegan K at → MarkBy m at → Fine at (machine.advance_of e t s o at K m)
step-fine e t (step.Call p) o at K m h k n = called-fine (chosen e p t) (otherwise p) p o at K m h k n
step-fine e t (step.Many p) o at K m h k n = repeated-fine (machine.as_part (chosen e p t)) p o at K m h k n
step-fine e t (step.Skip w) o at K m h k n = token-fine event.Skip w t at K m k n
step-fine e t (step.Keep w) o at K m h k n = token-fine event.Keep w t at K m k n
step-fine e t (step.Make f) o at K m h k n = (k, n)

pub fine : (e : Edition) (ts : List Terminal) (K : List Pending) (at : ℕ) (m : Option ℕ) → AllBegan K at → MarkBy m at → Fine at (machine.advance e ts K at m)
fine e ts [] at m k n = tt
fine e ts (o ∷ K) at m k n = step-fine e (next_terminal ts at) o.step o at K m k.0 k.1 n

still : (b c : ℕ) (n : Option ℕ) → StaysAt b c n → MarkBy n b → MarkBy n c
still b c None s h = tt
still b c (Some n) s h = omega (arith, s, h)

pub led : (e : Edition) (ts : List Terminal) (K : List Pending) (a : ℕ) (es : List Event) (L : List Pending) (b : ℕ) (m : Option ℕ) → Leads e ts K a es L b m → AllBegan K a
    → AllBegan L b × MarkBy m b
led e _ _ _ _ _ _ _ (here _ ts K at) k = (k, tt)
led e _ _ _ _ _ _ _ (further _ ts K L M a b c m n es fs l h) k =
    let r = led e ts K a es L b m l k in
    let x = told b m (machine.advance e ts L b m) (machine.goes fs M c n) h in
    let f : Fine b (machine.advances fs M c n) = subst (Fine b) x.0 (fine e ts L b m r.0 r.1) in
    (f.0, still b c n x.1 f.1)

start-began : (ss : List Step) (o : Pending) (c : ℕ) → o.began ≤ c → AllBegan (steps_in ss o) c
start-began [] o c h = tt
start-began (s ∷ ss) o c h = (h, start-began ss o c h)

around : ℕ → Pending
around a = record { step = step.Make form.Empty; expressions = 0; statements = 0; began = a }

pub begin-began : (ss : List Step) (a : ℕ) → AllBegan (starting_with ss a) a
unfolding around
begin-began ss a = start-began ss (around a) a (omega arith)
