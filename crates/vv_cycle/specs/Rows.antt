-- Power-on, rows of new values on the inputs, and whole runs.
use Rattle.std.specs.Prelude.{◌≡◌, ℕ, nat_eq, ◌≤◌, Bool, true, false, ◌||◌, List, [], ◌∷◌, length, slice_get, slice_set, Option, Some, None, ◌⊎◌}
use Rattle.vv_bits.specs.declared.nine.S9.{S9}
use Rattle.vv_bits.specs.declared.nine.S9.TheVariants.{Zero, One}
use Rattle.vv_bits.specs.Nine.{IsSix}
use Rattle.vv_cycle.specs.Processes.{Process, Class, Clock, Control, Data, Input, Design, Part}
use Rattle.vv_cycle.specs.Turns.{VState, resolutions, moved, IsSettled, Turn, CanTurn, turn, CanTurns, after_turns, IsEnd, InOrder}

-- ---- power-on, which is row 0

-- every process is ready once, with its starting values
abbrev pub first_parts : List Process → List Part
first_parts [] = []
first_parts (p ∷ ps) = record { ready = true; drivers = p.first_drivers; variables = p.first_variables; clash = false } ∷ first_parts ps

-- a net with a source starts at the resolution of its sources, any other at its initial value
abbrev pub first_values : Design → List S9
first_values d = resolutions d (first_parts d.processes) 0 d.initial

abbrev pub no_events : List S9 → List Bool
no_events [] = []
no_events (v ∷ vs) = false ∷ no_events vs

abbrev pub power_on : Design → VState
power_on d = record { nets = record { values = first_values d; before = first_values d; events = no_events (first_values d) }; parts = first_parts d.processes }

-- ---- one row

-- new bits for one input
pub record Entry : Type 0 where
  pub input : ℕ
  pub bits : List S9

-- the nets take these bits, in their order
abbrev pub put : List ℕ → List S9 → List S9 → List S9
put [] bits values = values
put (n ∷ ns) [] values = values
put (n ∷ ns) (b ∷ bits) values = put ns bits (slice_set values n b)

abbrev pub put_input : Option Input → List S9 → List S9 → List S9
put_input None bits values = values
put_input (Some i) bits values = put i.nets bits values

abbrev pub entered : Design → List Entry → List S9 → List S9
entered d [] values = values
entered d (e ∷ es) values = entered d es (put_input (slice_get d.inputs e.input) e.bits values)

-- the inputs change at once
abbrev pub row : Design → VState → List Entry → VState
row d s es = moved d s (entered d es s.nets.values)

-- ---- lawful rows

abbrev pub IsKnown : S9 → Type 0
IsKnown Zero = Unit {0}
IsKnown One = Unit {0}
IsKnown _ = ⊥

-- clocks and controls take 0 and 1; data take U, X, 0, 1, Z and -
abbrev pub IsDigit : Class → S9 → Type 0
IsDigit Clock v = IsKnown v
IsDigit Control v = IsKnown v
IsDigit Data v = IsSix v

abbrev pub AllDigits : Class → List S9 → Type 0
AllDigits c [] = Unit {0}
AllDigits c (v ∷ vs) = IsDigit c v × AllDigits c vs

-- as many bits as the input is wide, each a digit of its class
abbrev pub Fits : Option Input → List S9 → Type 0
Fits None bits = ⊥
Fits (Some i) bits = (length bits ≡ length i.nets) × AllDigits i.class bits

abbrev pub AllFit : Design → List Entry → Type 0
AllFit d [] = Unit {0}
AllFit d (e ∷ es) = Fits (slice_get d.inputs e.input) e.bits × AllFit d es

-- some entry is of input i
abbrev pub names : List Entry → ℕ → Bool
names [] i = false
names (e ∷ es) i = nat_eq e.input i || names es i

abbrev pub NoneTwice : List Entry → Type 0
NoneTwice [] = Unit {0}
NoneTwice (e ∷ es) = (names es e.input ≡ false) × NoneTwice es

abbrev pub clock_class : Class → Bool
clock_class Clock = true
clock_class Control = false
clock_class Data = false

abbrev pub is_clock : Option Input → Bool
is_clock None = false
is_clock (Some i) = clock_class i.class

-- each entry is of a clock where b is true, and of another input where it is false
abbrev pub AllClock : Design → Bool → List Entry → Type 0
AllClock d b [] = Unit {0}
AllClock d b (e ∷ es) = (is_clock (slice_get d.inputs e.input) ≡ b) × AllClock d b es

-- each entry is of an input and fits it, no input has two, and clocks change alone
pub record LawfulRow (d : Design) (es : List Entry) : Type 0 where
  pub fit : AllFit d es
  pub once : NoneTwice es
  pub alone : AllClock d true es ⊎ AllClock d false es

abbrev pub LawfulRows : Design → List (List Entry) → Type 0
LawfulRows d [] = Unit {0}
LawfulRows d (es ∷ rows) = LawfulRow d es × LawfulRows d rows

-- the states that come up in runs over lawful rows
pub data InRun (d : Design) : VState → Type 0 where
  Powered : InRun d (power_on d)
  Turned : (s t : VState) (u : Turn) → InRun d s → CanTurn d s u → turn d s u ≡ Some t → InRun d t
  Entered : (s : VState) (es : List Entry) → InRun d s → IsSettled d s → LawfulRow d es → InRun d (row d s es)

-- ---- runs

-- the state after these rows, each with its turns; None after a range error
abbrev pub after_rows : Design → Option VState → List (List Entry) → List (List Turn) → Option VState
after_rows d None rows orders = None
after_rows d (Some s) [] orders = Some s
after_rows d (Some s) (es ∷ rows) [] = Some s
after_rows d (Some s) (es ∷ rows) (ts ∷ orders) = after_rows d (after_turns d (Some (row d s es)) ts) rows orders

-- each row has its turns, which go on to its end; a range error ends the run
abbrev pub CanRows : Design → Option VState → List (List Entry) → List (List Turn) → Type 0
CanRows d None rows [] = Unit {0}
CanRows d None rows (ts ∷ orders) = ⊥
CanRows d (Some s) [] [] = Unit {0}
CanRows d (Some s) [] (ts ∷ orders) = ⊥
CanRows d (Some s) (es ∷ rows) [] = ⊥
CanRows d (Some s) (es ∷ rows) (ts ∷ orders) = CanTurns d (Some (row d s es)) ts × (IsEnd d (after_turns d (Some (row d s es)) ts) × CanRows d (after_turns d (Some (row d s es)) ts) rows orders)

-- a run over these rows: the turns from power-on, then those of each row until a range error
pub record VhdlRun (d : Design) (rows : List (List Entry)) : Type 0 where
  pub first : List Turn
  pub later : List (List Turn)
  pub can_first : CanTurns d (Some (power_on d)) first
  pub ends_first : IsEnd d (after_turns d (Some (power_on d)) first)
  pub can_later : CanRows d (after_turns d (Some (power_on d)) first) rows later

-- the state at the run's end; None is a range error, in row number length later
abbrev pub end_of : (d : Design) (rows : List (List Entry)) → VhdlRun d rows → Option VState
end_of d rows run = after_rows d (after_turns d (Some (power_on d)) run.first) rows run.later

-- in each row the ready processes run in the order of the design
abbrev pub RowsInOrder : Design → Option VState → List (List Entry) → List (List Turn) → Type 0
RowsInOrder d None rows orders = Unit {0}
RowsInOrder d (Some s) [] orders = Unit {0}
RowsInOrder d (Some s) (es ∷ rows) [] = Unit {0}
RowsInOrder d (Some s) (es ∷ rows) (ts ∷ orders) = InOrder d (Some (row d s es)) ts × RowsInOrder d (after_turns d (Some (row d s es)) ts) rows orders

-- the ordered run over these rows
pub record OrderedRun (d : Design) (rows : List (List Entry)) : Type 0 where
  pub run : VhdlRun d rows
  pub first : InOrder d (Some (power_on d)) run.first
  pub later : RowsInOrder d (after_turns d (Some (power_on d)) run.first) rows run.later

-- no list is longer than n
abbrev pub AllShort : ℕ → List (List Turn) → Type 0
AllShort n [] = Unit {0}
AllShort n (ts ∷ orders) = (length ts ≤ n) × AllShort n orders
