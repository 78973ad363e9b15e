-- What comes of a state in the end is what the machine comes to.
use Rattle.std.proofs.Common.{◌≡◌, ℕ, zero, suc, ◌+◌, ◌*◌, ◌<◌, length, arith, List, [], ◌++◌, Option, None, refl, subst}
use Rattle.vv_grammar.specs.declared.edition.Edition.{Edition}
use Rattle.vv_grammar.specs.declared.event.Event.{Event}
use Rattle.vv_machine.specs.declared.machine.Stop.TheVariants as stop
use Rattle.vv_machine.specs.declared.stack.Pending.{Pending}
use Rattle.vv_grammar.specs.declared.terminal.Terminal.{Terminal}
use Rattle.vv_machine.specs.Machine as machine
use Rattle.vv_machine.specs.Machine.{Turn, Outcome, Leads, here, further, Halts, chosen, drive, enough, outcome, outcome_behind, next_terminal, starting_with}
use Rattle.vv_machine.proofs.Weights.{measure, Falls, falls, fell_to, going_on_as, driven_on, enough_moves}
use Rattle.vv_grammar_laws.specs.Starts.{Start, steps_for}
use Rattle.vv_grammar_laws.specs.Readings.{IsReading, IsRefusal, IsDeep}
use Rattle.vv_grammar_laws.proofs.Settled.{Settles, settles}
use Rattle.vv_grammar_laws.proofs.Over.{nothing-comes}
use Rattle.vv_grammar_laws.proofs.Ends.{reads, refuses}
use Rattle.vv_grammar_laws.proofs.Deep.{too_deep}

-- what an outcome says of the machine
abbrev pub Told : Edition → List Terminal → List Pending → ℕ → Outcome → Type 0
Told e ts K a (machine.reads es b) = Leads e ts K a es [] b None
Told e ts K a (machine.misplaced n) = Halts e ts K a (stop.Misplaced n)
Told e ts K a (machine.too_deep n) = Halts e ts K a (stop.Deep n)

told : (e : Edition) (ts : List Terminal) (K0 : List Pending) (a : ℕ) (es : List Event) (K : List Pending) (at : ℕ) (mark : Option ℕ) → Leads e ts K0 a es K at mark
    → (n : ℕ) (on : List Pending → ℕ → Option ℕ → List Event → Outcome)
    → ((fs : List Event) (L : List Pending) (b : ℕ) (k : Option ℕ) → measure e ts L b < n → Leads e ts K0 a fs L b k → Told e ts K0 a (on L b k fs))
    → (m : machine.Move) → Falls e ts n m → machine.move e ts K at mark ≡ m → Settles at mark (machine.advance e ts K at mark) m → Told e ts K0 a (machine.going on es at m)
told e ts K0 a es K at mark l n on h (machine.goes fs L c k) f i g = h (es ++ fs) L c k f (further e ts K0 K L a at c mark k es fs l i)
told e ts K0 a es K at mark l n on h machine.stuck f i g = record { events = es; rest = K; next = at; mark = mark; leads = l; stops = (i, refl) }
told e ts K0 a es K at mark l n on h (machine.deep m) f i g = record { events = es; rest = K; next = at; mark = mark; leads = l; stops = i }
told e ts K0 a es K at mark l n on h machine.over f i g =
    subst (Leads e ts K0 a es [] at) g.1 (subst (λ (x : List Pending). Leads e ts K0 a es x at mark) (nothing-comes e ts K at mark g.0) l)

driven : (n : ℕ) (e : Edition) (ts : List Terminal) (K0 : List Pending) (a : ℕ) (es : List Event) (K : List Pending) (at : ℕ) (mark : Option ℕ) → measure e ts K at < n
    → Leads e ts K0 a es K at mark → Told e ts K0 a (drive n e ts K at mark es)
unfolding drive
driven zero e ts K0 a es K at mark h l = absurd (omega arith)
driven (suc n) e ts K0 a es K at mark h l =
    told e ts K0 a es K at mark l (measure e ts K at) (λ L b k fs. drive n e ts L b k fs) (λ fs L b k f g. driven n e ts K0 a fs L b k (omega arith) g)
    (machine.move e ts K at mark) (falls e ts K at mark) refl (settles at mark (machine.advance e ts K at mark))

pub outcome-told : (e : Edition) (ts : List Terminal) (K : List Pending) (a : ℕ) → Told e ts K a (outcome e ts K a)
outcome-told e ts K a = driven (enough ts K) e ts K a [] K a None (enough_moves e ts K a) (here e ts K a)

pub driven_reads : (e : Edition) (s : Start) (ts : List Terminal) (a b : ℕ) (es : List Event) → outcome e ts (starting_with (steps_for s) a) a ≡ machine.reads es b → IsReading e s ts a b es
driven_reads e s ts a b es h =
    let K = starting_with (steps_for s) a in
    reads e s ts a b es (subst (Told e ts K a) h (outcome-told e ts K a))

pub driven_refuses : (e : Edition) (s : Start) (ts : List Terminal) (a n : ℕ) → outcome e ts (starting_with (steps_for s) a) a ≡ machine.misplaced n → IsRefusal e s ts a n
driven_refuses e s ts a n h =
    let K = starting_with (steps_for s) a in
    refuses e s ts a n (subst (Told e ts K a) h (outcome-told e ts K a))

pub driven_deep : (e : Edition) (s : Start) (ts : List Terminal) (a n : ℕ) → outcome e ts (starting_with (steps_for s) a) a ≡ machine.too_deep n → IsDeep e s ts a n
driven_deep e s ts a n h =
    let K = starting_with (steps_for s) a in
    too_deep e s ts a n (subst (Told e ts K a) h (outcome-told e ts K a))

-- The outcome of a state is what its move makes of it.
pub by_moves : (e : Edition) (ts : List Terminal) (K : List Pending) (at : ℕ) (mark : Option ℕ) (es : List Event)
    → outcome_behind e ts K at mark es ≡ machine.going (outcome_behind e ts) es at (machine.move e ts K at mark)
unfolding drive
by_moves e ts K at mark es =
    going_on_as (λ L b k fs. drive (64 * (length ts + length K)) e ts L b k fs) (outcome_behind e ts) es at (machine.move e ts K at mark)
    (λ fs L b k i.
    let h : measure e ts K at < enough ts K = enough_moves e ts K at in
    let f : measure e ts L b < measure e ts K at = fell_to e ts K L at b mark k fs i in
    driven_on (64 * (length ts + length K)) (enough ts L) e ts L b k (es ++ fs) (omega (arith, h, f)) (enough_moves e ts L b))
