-- What is read, what is refused and which tree is made, told by the productions alone.
use Rattle.std.specs.Prelude.{◌≡◌, ◌≤◌, ◌<◌, ℕ, List, [], ◌∷◌, ◌++◌, Some}
use Rattle.vv_base.specs.declared.fault.Span.{Span}
use Rattle.vv_vlex.specs.declared.token.Token.{Token}
use Rattle.vv_grammar.specs.declared.edition.Edition.{Edition}
use Rattle.vv_grammar.specs.declared.event.Event.{Event}
use Rattle.vv_grammar.specs.declared.terminal.Terminal.{Terminal}
use Rattle.vv_machine.specs.Machine.{next_terminal}
use Rattle.vv_grammar.specs.Terminals.{terminals_of}
use Rattle.vv_grammar.specs.Trees.{Tree, replay}
use Rattle.vv_grammar_laws.specs.Starts.{Start, AreBetween}
use Rattle.vv_grammar_laws.specs.Readings.{MayEnd}
use Rattle.vv_productions.specs.Matches.{Matches, phrase_for}
use Rattle.vv_productions.specs.Depths.{openings, nothing_round, IsTooDeepAt}

-- In what matches from token a on, something starts at token n that is too deep.
abbrev pub IsTooDeep : (e : Edition) (s : Start) (u : List Terminal) (es : List Event) → Matches e (phrase_for s ∷ []) u es → ℕ → ℕ → Type 0
IsTooDeep e s u es m a n = IsTooDeepAt n (openings e (phrase_for s ∷ []) u es m nothing_round a)

-- Nothing is too deep in what matches from token a on.
abbrev pub IsShallow : (e : Edition) (s : Start) (u : List Terminal) (es : List Event) → Matches e (phrase_for s ∷ []) u es → ℕ → Type 0
IsShallow e s u es m a = (n : ℕ) → IsTooDeep e s u es m a n → ⊥

-- The tokens are the start of some that match.
pub record IsStart (e : Edition) (s : Start) (u : List Terminal) : Type 0 where
  pub more : List Terminal
  pub events : List Event
  pub matches : Matches e (phrase_for s ∷ []) (u ++ more) events

-- The tokens from a on go on to some that match, in which nothing that starts before token n is too deep.
pub record GoesOn (e : Edition) (s : Start) (a n : ℕ) (tokens : List Terminal) : Type 0 where
  pub more : List Terminal
  pub events : List Event
  pub matches : Matches e (phrase_for s ∷ []) (tokens ++ more) events
  pub free : (m : ℕ) → m < n → IsTooDeep e s (tokens ++ more) events matches a m → ⊥

-- The tokens from a up to b match, nothing in them is too deep, and with the next token they are the start of nothing.
pub record IsRead (e : Edition) (s : Start) (ts : List Terminal) (a b : ℕ) (es : List Event) : Type 0 where
  pub tokens : List Terminal
  pub between : AreBetween ts a b tokens
  pub matches : Matches e (phrase_for s ∷ []) tokens es
  pub shallow : IsShallow e s tokens es matches a
  pub longest : (t : Terminal) → next_terminal ts b ≡ Some t → IsStart e s (tokens ++ (t ∷ [])) → ⊥

-- The tokens from a up to n are the start of some that match, and nothing before token n has to be too deep; with token n they are the start of nothing, and
-- where they may end they don't match themselves.
pub record IsMisplaced (e : Edition) (s : Start) (ts : List Terminal) (a n : ℕ) : Type 0 where
  pub tokens : List Terminal
  pub between : AreBetween ts a n tokens
  pub goes_on : GoesOn e s a n tokens
  pub never : (t : Terminal) → next_terminal ts n ≡ Some t → IsStart e s (tokens ++ (t ∷ [])) → ⊥
  pub ends : (es : List Event) → MayEnd s ts n → Matches e (phrase_for s ∷ []) tokens es → ⊥

-- With some token it is settled that what starts at token n is too deep: the tokens from a up to this one are the start of some that match, and it is so in all that
-- match and start with them. Before this token nothing has to be too deep of all that starts before it, and with it nothing of all that starts before token n.
pub record IsDeep (e : Edition) (s : Start) (ts : List Terminal) (a n : ℕ) : Type 0 where
  pub next : ℕ
  pub by : n ≤ next
  pub tokens : List Terminal
  pub between : AreBetween ts a next tokens
  pub goes_on : GoesOn e s a next tokens
  pub token : Terminal
  pub here : next_terminal ts next ≡ Some token
  pub first : GoesOn e s a n (tokens ++ (token ∷ []))
  pub settled : (more : List Terminal) (es : List Event) (m : Matches e (phrase_for s ∷ []) (tokens ++ (token ∷ more)) es) → IsTooDeep e s (tokens ++ (token ∷ more)) es m a n

-- before the first token
abbrev pub nowhere : Span
nowhere = record { file = 0; at = 0; len = 0 }

-- The tokens match, and this tree is made of them meanwhile.
pub record IsTreeOf (e : Edition) (s : Start) (ts : List Token) (t : Tree) : Type 0 where
  pub events : List Event
  pub matches : Matches e (phrase_for s ∷ []) (terminals_of ts) events
  pub made : replay events ts nowhere [] ≡ t ∷ []
