-- What the machine has read, and why it refuses, told by derivations alone.
use Rattle.std.specs.Prelude.{◌≡◌, ◌≤◌, ◌<◌, ℕ, List, [], ◌∷◌, ◌++◌, Some, None, drop}
use Rattle.vv_grammar.specs.declared.edition.Edition.{Edition}
use Rattle.vv_grammar.specs.declared.event.Event.{Event}
use Rattle.vv_grammar.specs.declared.terminal.Terminal.{Terminal}
use Rattle.vv_machine.specs.Machine.{next_terminal, starting_with, Leads}
use Rattle.vv_grammar_laws.specs.Derivations.{Derives, IsViable}
use Rattle.vv_grammar_laws.specs.Depths.{openings, IsTooDeepAt}
use Rattle.vv_grammar_laws.specs.Starts.{Start, file, expression, name, aggregate, steps_for, AreBetween}

-- In what is derived from token a on, something starts at token n that is too deep.
abbrev pub IsTooDeep : (e : Edition) (s : Start) (u : List Terminal) (es : List Event) → Derives e (steps_for s) u es → ℕ → ℕ → Type 0
IsTooDeep e s u es d a n = IsTooDeepAt n (openings e (steps_for s) u es d (starting_with (steps_for s) a) a)

-- Nothing is too deep in what is derived from token a on.
abbrev pub IsShallow : (e : Edition) (s : Start) (u : List Terminal) (es : List Event) → Derives e (steps_for s) u es → ℕ → Type 0
IsShallow e s u es d a = (n : ℕ) → IsTooDeep e s u es d a n → ⊥

-- The tokens from a on go on to something in which nothing that starts before token n is too deep.
pub record GoesOn (e : Edition) (s : Start) (a n : ℕ) (tokens : List Terminal) : Type 0 where
  pub more : List Terminal
  pub events : List Event
  pub derives : Derives e (steps_for s) (tokens ++ more) events
  pub free : (m : ℕ) → m < n → IsTooDeep e s (tokens ++ more) events derives a m → ⊥

-- The tokens from a up to b are derived, nothing in them is too deep, and with the next token they are the start of nothing.
pub record IsReading (e : Edition) (s : Start) (ts : List Terminal) (a b : ℕ) (es : List Event) : Type 0 where
  pub tokens : List Terminal
  pub between : AreBetween ts a b tokens
  pub derives : Derives e (steps_for s) tokens es
  pub shallow : IsShallow e s tokens es derives a
  pub longest : (t : Terminal) → next_terminal ts b ≡ Some t → IsViable e (steps_for s) (tokens ++ (t ∷ [])) → ⊥

-- Where what is read may end: a file with the last token, all else at each.
abbrev pub MayEnd : Start → List Terminal → ℕ → Type 0
MayEnd file ts n = next_terminal ts n ≡ None
MayEnd expression ts n = Unit {0}
MayEnd name ts n = Unit {0}
MayEnd aggregate ts n = Unit {0}

-- The tokens from a up to n are the start of something, and nothing before token n has to be too deep; with token n they are the start of nothing, and where
-- they may end they are not all of it.
pub record IsRefusal (e : Edition) (s : Start) (ts : List Terminal) (a n : ℕ) : Type 0 where
  pub tokens : List Terminal
  pub between : AreBetween ts a n tokens
  pub goes_on : GoesOn e s a n tokens
  pub never : (t : Terminal) → next_terminal ts n ≡ Some t → IsViable e (steps_for s) (tokens ++ (t ∷ [])) → ⊥
  pub ends : (es : List Event) → MayEnd s ts n → Derives e (steps_for s) tokens es → ⊥

-- With some token it is settled that what starts at token n is too deep: the tokens from a up to this one are the start of something, and it is so in all that
-- starts with them. Before this token nothing has to be too deep of all that starts before it, and with it nothing of all that starts before token n.
pub record IsDeep (e : Edition) (s : Start) (ts : List Terminal) (a n : ℕ) : Type 0 where
  pub next : ℕ
  pub by : n ≤ next
  pub tokens : List Terminal
  pub between : AreBetween ts a next tokens
  pub goes_on : GoesOn e s a next tokens
  pub token : Terminal
  pub here : next_terminal ts next ≡ Some token
  pub first : GoesOn e s a n (tokens ++ (token ∷ []))
  pub settled : (more : List Terminal) (es : List Event) (d : Derives e (steps_for s) (tokens ++ (token ∷ more)) es) → IsTooDeep e s (tokens ++ (token ∷ more)) es d a n

-- The machine reads all tokens from a on, and these events happen.
abbrev pub IsReadWhole : Edition → Start → List Terminal → ℕ → List Event → Type 0
IsReadWhole e s ts a es = (b : ℕ) × Leads e ts (starting_with (steps_for s) a) a es [] b None × (drop b ts ≡ [])
