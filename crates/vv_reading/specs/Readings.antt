-- What it means that tokens are read as a tree, and that they are refused.
use Rattle.std.specs.Prelude.{◌≡◌, ℕ, ◌-◌, min, List, [], ◌∷◌, length, drop, Option, Some, None, slice_get}
use Rattle.vv_base.specs.declared.fault.Fault.{Fault}
use Rattle.vv_base.specs.declared.fault.Fault.TheVariants as fault
use Rattle.vv_base.specs.declared.fault.Refusal.{Refusal}
use Rattle.vv_base.specs.declared.fault.Span.{Span}
use Rattle.vv_base.specs.declared.rules.Rule.TheVariants.{Y1, Y2}
use Rattle.vv_vlex.specs.declared.token.Token.{Token}
use Rattle.vv_grammar.specs.declared.edition.Edition.{Edition}
use Rattle.vv_grammar.specs.declared.event.Event.{Event}
use Rattle.vv_machine.specs.declared.machine.Stop.{Stop}
use Rattle.vv_machine.specs.declared.machine.Stop.TheVariants as stop
use Rattle.vv_grammar.specs.Terminals.{terminals_of}
use Rattle.vv_grammar.specs.Trees.{Tree, replay}
use Rattle.vv_grammar_laws.specs.Starts.{Start}
use Rattle.vv_productions.specs.Readings.{IsRead, IsMisplaced, IsDeep, nowhere}

-- The tokens from number a up to number b match the productions, with the next one they are the start of nothing, nothing in them is too deep, and this tree is
-- made of them.
pub record IsReadAs (e : Edition) (s : Start) (ts : List Token) (a b : ℕ) (t : Tree) : Type 0 where
  pub events : List Event
  pub read : IsRead e s (terminals_of ts) a b events
  pub made : replay events (drop a ts) nowhere [] ≡ t ∷ []

abbrev pub span_of : Option Token → Span
span_of (Some t) = t.span
span_of None = nowhere

-- the place of the token of this number, or of the last one where there are fewer
abbrev pub span_at : List Token → ℕ → Span
span_at ts n = span_of (slice_get ts (min n (length ts - 1)))

-- Which rule the tokens from number a on break, and where: the ones before token n are the start of something in which nothing has to be too deep, and with it
-- they are the start of nothing; or it is settled that what starts at token n is too deep, and nothing before it is. Only one of these holds, of one token.
pub data IsRefusedAt (e : Edition) (s : Start) (ts : List Token) (a : ℕ) : Refusal → Type 0 where
  misplaced_at : (n : ℕ) → IsMisplaced e s (terminals_of ts) a n → IsRefusedAt e s ts a (record { rule = Y1; span = span_at ts n })
  deep_at : (n : ℕ) → IsDeep e s (terminals_of ts) a n → IsRefusedAt e s ts a (record { rule = Y2; span = span_at ts n })

-- Why the tokens from number a on are not read. Want of memory says nothing.
abbrev pub IsNotRead : (e : Edition) (s : Start) (ts : List Token) (a : ℕ) → Fault → Type 0
IsNotRead e s ts a fault.Memory = Unit {0}
IsNotRead e s ts a (fault.Refused r) = IsRefusedAt e s ts a r

-- what a stop of the machine comes to
abbrev pub IsFaultOf : Stop → List Token → Fault → Type 0
IsFaultOf stop.Memory ts f = f ≡ fault.Memory
IsFaultOf (stop.Misplaced n) ts f = f ≡ fault.Refused (record { rule = Y1; span = span_at ts n })
IsFaultOf (stop.Deep n) ts f = f ≡ fault.Refused (record { rule = Y2; span = span_at ts n })
