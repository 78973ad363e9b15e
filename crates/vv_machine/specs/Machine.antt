-- The grammar as a machine: what is still to come, and what becomes of it at the next token.
use Rattle.std.specs.Prelude.{◌≡◌, ℕ, zero, suc, nat_eq, nat_lt, ◌+◌, ◌*◌, Bool, true, false, length, if◌then◌else◌, List, [], ◌∷◌, ◌++◌, map, Option, Some, None, slice_get}
use Rattle.vv_grammar.specs.declared.edition.Edition.{Edition}
use Rattle.vv_grammar.specs.declared.event.Event.{Event}
use Rattle.vv_grammar.specs.declared.event.Event.TheVariants as event
use Rattle.vv_grammar.specs.declared.form.Form.TheVariants as form
use Rattle.vv_machine.specs.declared.machine.State.{State}
use Rattle.vv_machine.specs.declared.machine.Stop.{Stop}
use Rattle.vv_machine.specs.declared.machine.Stop.TheVariants as stop
use Rattle.vv_grammar.specs.declared.place.Place.{Place}
use Rattle.vv_machine.specs.declared.stack.Pending.{Pending}
use Rattle.vv_grammar.specs.declared.step.Level.{Level}
use Rattle.vv_grammar.specs.declared.step.Level.TheVariants as level
use Rattle.vv_grammar.specs.declared.step.Step.{Step}
use Rattle.vv_grammar.specs.declared.step.Step.TheVariants as step
use Rattle.vv_grammar.specs.declared.step.Take.{Take}
use Rattle.vv_grammar.specs.declared.step.Take.TheVariants as take
use Rattle.vv_grammar.specs.declared.terminal.Terminal.{Terminal}
use Rattle.vv_grammar.specs.Terminals.{same, contains}
use Rattle.vv_grammar.specs.Table.{Choice, alternatives, otherwise, level_of}

-- the terminal of the token with this number, if there is one
abbrev pub next_terminal : List Terminal → ℕ → Option Terminal
next_terminal ts at = slice_get ts at

-- the first alternative that has the terminal
pub record Turn : Type 0 where
  pub take : Take
  pub steps : List Step

abbrev pub turn : Take → List Step → Turn
turn take steps = record { take = take; steps = steps }

abbrev pub choose : List Choice → Terminal → Option Turn
choose [] t = None
choose (c ∷ more) t = if contains c.on t then Some (turn c.take c.steps) else choose more t

abbrev pub chosen : Edition → Place → Option Terminal → Option Turn
chosen e p None = None
chosen e p (Some t) = choose (alternatives e p) t

-- whether the token that chooses an alternative is taken
abbrev pub takes : Take → Bool
takes take.Keep = true
takes take.Skip = true
takes take.Look = false

-- a list goes on only by a turn that takes a token
abbrev pub as_part : Option Turn → Option Turn
as_part None = None
as_part (Some t) = if takes t.take then Some t else None

-- how deep expressions and statements may nest
abbrev pub levels : ℕ
levels = 128

-- One more round a step. What is too deep is not told apart from what is deeper still, so no more are counted.
abbrev pub one_more : ℕ → ℕ
one_more n = if nat_lt levels n then n else n + 1

abbrev pub with_expressions : Pending → ℕ → Pending
with_expressions o n = record { step = o.step; expressions = n; statements = o.statements; began = o.began }

abbrev pub with_statements : Pending → ℕ → Pending
with_statements o n = record { step = o.step; expressions = o.expressions; statements = n; began = o.began }

-- what is round the steps inside what starts at a place
abbrev pub inside : Level → Pending → Pending
inside level.Same o = o
inside level.Expression o = with_expressions o (one_more o.expressions)
inside level.ExpressionBehind o = with_expressions o (one_more o.expressions)
inside level.Statement o = with_statements o (one_more o.statements)
inside level.StatementBehind o = with_statements o (one_more o.statements)

-- the token at which it starts
abbrev pub starting : Level → Pending → ℕ → ℕ
starting level.Same o at = at
starting level.Expression o at = at
starting level.ExpressionBehind o at = o.began
starting level.Statement o at = at
starting level.StatementBehind o at = o.began

-- whether it is one level too deep
abbrev pub is_too_deep : Level → Pending → Bool
is_too_deep level.Same o = false
is_too_deep level.Expression o = nat_eq o.expressions levels
is_too_deep level.ExpressionBehind o = nat_eq o.expressions levels
is_too_deep level.Statement o = nat_eq o.statements levels
is_too_deep level.StatementBehind o = nat_eq o.statements levels

-- The mark of a state: the first token at which something is too deep, of all that the next token tells.
abbrev pub earlier : Option ℕ → ℕ → ℕ
earlier None n = n
earlier (Some m) n = if nat_lt m n then m else n

abbrev pub marked_if : Bool → ℕ → Option ℕ → Option ℕ
marked_if true n mark = Some (earlier mark n)
marked_if false n mark = mark

abbrev pub marked : Level → Pending → ℕ → Option ℕ → Option ℕ
marked l o at mark = marked_if (is_too_deep l o) (starting l o at) mark

-- What one step makes of a state.
pub data Advance : Type 0 where
  -- events happen, these are still to come, this is the next token, and this the mark
  advances : List Event → List Pending → ℕ → Option ℕ → Advance
  -- the next token fits nowhere
  fails : Advance
  -- nothing is to come
  ends : Advance

abbrev pub as_step : Pending → Step → Pending
as_step o s = record { step = s; expressions = o.expressions; statements = o.statements; began = o.began }

abbrev pub begun : Pending → ℕ → Pending
begun o at = record { step = o.step; expressions = o.expressions; statements = o.statements; began = at }

abbrev pub steps_in : List Step → Pending → List Pending
steps_in ss o = map (λ s. as_step o s) ss

-- a turn is made: its token is taken or not, and its steps are to come
abbrev pub taking : Take → ℕ → List Step → Pending → List Pending → Option ℕ → Advance
taking take.Keep at ss o K mark = advances (event.Keep ∷ []) (steps_in ss (begun o at) ++ K) (at + 1) mark
taking take.Skip at ss o K mark = advances (event.Skip ∷ []) (steps_in ss (begun o at) ++ K) (at + 1) mark
taking take.Look at ss o K mark = advances [] (steps_in ss o ++ K) at mark

abbrev pub turning : Place → Turn → Pending → ℕ → List Pending → Option ℕ → Advance
turning p t o at K mark = taking t.take at t.steps (inside (level_of p) o) K (marked (level_of p) o at mark)

-- a place, by the turn that the token chooses and by what it admits else
abbrev pub called : Option Turn → Option (List Step) → Place → Pending → ℕ → List Pending → Option ℕ → Advance
called (Some t) other p o at K mark = turning p t o at K mark
called None (Some ss) p o at K mark = advances [] (steps_in ss o ++ K) at mark
called None None p o at K mark = fails

abbrev pub repeated : Option Turn → Place → Pending → ℕ → List Pending → Option ℕ → Advance
repeated None p o at K mark = advances [] K at mark
repeated (Some t) p o at K mark = turning p t o at (as_step o (step.Make form.Add) ∷ o ∷ K) mark

abbrev pub token : Event → Terminal → Option Terminal → ℕ → List Pending → Option ℕ → Advance
token e wanted None at K mark = fails
token e wanted (Some found) at K mark = if same wanted found then advances (e ∷ []) K (at + 1) mark else fails

abbrev pub advance_of : Edition → Option Terminal → Step → Pending → ℕ → List Pending → Option ℕ → Advance
advance_of e t (step.Call p) o at K mark = called (chosen e p t) (otherwise p) p o at K mark
advance_of e t (step.Many p) o at K mark = repeated (as_part (chosen e p t)) p o at K mark
advance_of e t (step.Skip w) o at K mark = token event.Skip w t at K mark
advance_of e t (step.Keep w) o at K mark = token event.Keep w t at K mark
advance_of e t (step.Make f) o at K mark = advances (event.Make f ∷ []) K at mark

-- what the first of those that are still to come makes of the state at a token
abbrev pub advance : Edition → List Terminal → List Pending → ℕ → Option ℕ → Advance
advance e ts [] at mark = ends
advance e ts (o ∷ K) at mark = advance_of e (next_terminal ts at) o.step o at K mark

-- One move: a step, and the machine stops where a token is taken with which something is too deep.
pub data Move : Type 0 where
  goes : List Event → List Pending → ℕ → Option ℕ → Move
  -- the next token fits nowhere
  stuck : Move
  -- the next token fits, and with it an expression or a statement that starts at this token is too deep
  deep : ℕ → Move
  -- nothing is to come
  over : Move

abbrev pub settled_if : Bool → List Event → List Pending → ℕ → ℕ → Move
settled_if true es K c n = goes es K c (Some n)
settled_if false es K c n = deep n

abbrev pub finished : Option ℕ → Move
finished None = over
finished (Some n) = deep n

abbrev pub settled : ℕ → Option ℕ → Advance → Move
settled at mark (advances es K c None) = goes es K c None
settled at mark (advances es K c (Some n)) = settled_if (nat_eq c at) es K c n
settled at mark fails = stuck
settled at mark ends = finished mark

abbrev pub move : Edition → List Terminal → List Pending → ℕ → Option ℕ → Move
move e ts K at mark = settled at mark (advance e ts K at mark)

-- What comes of a state in the end.
pub data Outcome : Type 0 where
  -- all was read, these events happened, and this is the token behind it
  reads : List Event → ℕ → Outcome
  -- this token fits nowhere
  misplaced : ℕ → Outcome
  -- what starts at this token is too deep
  too_deep : ℕ → Outcome

abbrev pub going : (List Pending → ℕ → Option ℕ → List Event → Outcome) → List Event → ℕ → Move → Outcome
going on es at (goes fs L b mark) = on L b mark (es ++ fs)
going on es at stuck = misplaced at
going on es at (deep n) = too_deep n
going on es at over = reads es at

-- by fewer moves than so many, when these events have happened
unfoldable pub drive : ℕ → Edition → List Terminal → List Pending → ℕ → Option ℕ → List Event → Outcome
drive zero e ts K at mark es = misplaced at
drive (suc n) e ts K at mark es = going (λ L b m fs. drive n e ts L b m fs) es at (move e ts K at mark)

-- Enough, whatever the tokens: a token or a step sets off fewer than 64 moves before the next token is taken.
abbrev pub enough : List Terminal → List Pending → ℕ
enough ts K = suc (64 * (length ts + length K))

abbrev pub outcome_behind : Edition → List Terminal → List Pending → ℕ → Option ℕ → List Event → Outcome
outcome_behind e ts K at mark es = drive (enough ts K) e ts K at mark es

abbrev pub outcome : Edition → List Terminal → List Pending → ℕ → Outcome
outcome e ts K at = outcome_behind e ts K at None []

-- From one state, with no mark, the machine comes to another, and these events happen.
pub data Leads : Edition → List Terminal → List Pending → ℕ → List Event → List Pending → ℕ → Option ℕ → Type 0 where
  here : (e : Edition) (ts : List Terminal) (K : List Pending) (at : ℕ) → Leads e ts K at [] K at None
  further : (e : Edition) (ts : List Terminal) (K L M : List Pending) (a b c : ℕ) (m n : Option ℕ) (es fs : List Event)
      → Leads e ts K a es L b m → move e ts L b m ≡ goes fs M c n → Leads e ts K a (es ++ fs) M c n

-- steps at a token, with nothing round them
abbrev pub starting_with : List Step → ℕ → List Pending
starting_with ss at = steps_in ss (record { step = step.Make form.Empty; expressions = 0; statements = 0; began = at })

-- one state becomes another as a step says
abbrev pub Advanced : State → State → Advance → Type 0
Advanced old new (advances es K at m) = (new.stack ≡ K) × (new.at ≡ at) × (new.mark ≡ m) × (new.events.items ≡ old.events.items ++ es)
Advanced old new fails = ⊥
Advanced old new ends = ⊥

-- why a step fails
abbrev pub IsFailure : Stop → ℕ → Advance → Type 0
IsFailure stop.Memory at x = Unit {0}
IsFailure (stop.Misplaced n) at x = (x ≡ fails) × (n ≡ at)
IsFailure (stop.Deep n) at x = ⊥

-- no token was taken, or with it nothing is too deep
abbrev pub IsUnsettled : Option ℕ → ℕ → ℕ → Type 0
IsUnsettled None before at = Unit {0}
IsUnsettled (Some n) before at = nat_eq at before ≡ true

-- with the token that was taken something is too deep
abbrev pub IsSettled : Stop → Option ℕ → ℕ → ℕ → Type 0
IsSettled s None before at = ⊥
IsSettled s (Some n) before at = (s ≡ stop.Deep n) × (nat_eq at before ≡ false)

-- One state becomes another as a move says.
abbrev pub Moved : State → State → Move → Type 0
Moved old new (goes es K at m) = (new.stack ≡ K) × (new.at ≡ at) × (new.mark ≡ m) × (new.events.items ≡ old.events.items ++ es)
Moved old new stuck = ⊥
Moved old new (deep n) = ⊥
Moved old new over = ⊥

-- why one move stops
abbrev pub IsStop : Stop → ℕ → Move → Type 0
IsStop stop.Memory at m = Unit {0}
IsStop (stop.Misplaced n) at m = (m ≡ stuck) × (n ≡ at)
IsStop (stop.Deep n) at m = m ≡ deep n

-- From a state the machine comes to one where its move stops.
pub record Halts (e : Edition) (ts : List Terminal) (K : List Pending) (at : ℕ) (s : Stop) : Type 0 where
  pub events : List Event
  pub rest : List Pending
  pub next : ℕ
  pub mark : Option ℕ
  pub leads : Leads e ts K at events rest next mark
  pub stops : IsStop s next (move e ts rest next mark)

abbrev pub Stops : Edition → List Terminal → List Pending → ℕ → Stop → Type 0
Stops e ts K at stop.Memory = Unit {0}
Stops e ts K at (stop.Misplaced n) = Halts e ts K at (stop.Misplaced n)
Stops e ts K at (stop.Deep n) = Halts e ts K at (stop.Deep n)

abbrev pub IsOutcome : Stop → Outcome → Type 0
IsOutcome stop.Memory o = Unit {0}
IsOutcome (stop.Misplaced n) o = o ≡ misplaced n
IsOutcome (stop.Deep n) o = o ≡ too_deep n
