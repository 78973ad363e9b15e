-- Power-on, and the rows that follow it.
use Rattle.std.specs.Prelude.{◌≡◌, ℕ, zero, suc, ◌<◌, Bool, true, false, if◌then◌else◌, List, [], ◌∷◌, length, slice_get, Option, Some, None}
use Rattle.vv_bits.specs.declared.four.V4.{V4}
use Rattle.vv_bits.specs.declared.four.V4.TheVariants.{X, Z}
use Rattle.vv_events.specs.Items.{Item, Assign, Always, Drives, has}
use Rattle.vv_events.specs.Steps.{State, writes, Choice, Act, Batch, step}
use Rattle.vv_events.specs.Equations.{is_wire}

-- what a bit is declared as: an input with its start level, a register with its initial value, or a wire
pub data Declared : Type 0 where
  Input : (level : V4) → Declared
  Register : (initial : V4) → Declared
  Wire : Declared

-- a driven wire bit starts at x, and one that nothing drives is z
abbrev pub start_bit : List Item → ℕ → Declared → V4
start_bit d b (Input level) = level
start_bit d b (Register initial) = initial
start_bit d b Wire = if is_wire d b then X else Z

-- the bits from number b on
abbrev pub start_bits : List Item → ℕ → List Declared → List V4
start_bits d b [] = []
start_bits d b (k ∷ ks) = start_bit d b k ∷ start_bits d (suc b) ks

-- an x for each of a list
abbrev pub all_x : List ℕ → List V4
all_x [] = []
all_x (b ∷ bs) = X ∷ all_x bs

-- the driver bits of an item before it has acted
abbrev pub start_drivers : Item → List V4
start_drivers (Assign reads targets value) = all_x targets
start_drivers (Always events assigns run) = []

abbrev pub all_start_drivers : List Item → List (List V4)
all_start_drivers [] = []
all_start_drivers (item ∷ items) = start_drivers item ∷ all_start_drivers items

-- an assignment is pending, and an always construct waits
abbrev pub starts_active : Item → Bool
starts_active (Assign reads targets value) = true
starts_active (Always events assigns run) = false

abbrev pub start_active : List Item → List Bool
start_active [] = []
start_active (item ∷ items) = starts_active item ∷ start_active items

-- the state at power-on
abbrev pub power_on : List Item → List Declared → State
power_on d declared =
    record { bits = start_bits d 0 declared; drivers = all_start_drivers d; active = start_active d; updates = [] }

-- each bit that an item drives is declared, and one that an assignment drives is declared as a wire
pub record Fits (d : List Item) (declared : List Declared) : Type 0 where
  pub inside : (i b : ℕ) → Drives d i b → b < length declared
  pub wires : (b : ℕ) → is_wire d b ≡ true → slice_get declared b ≡ Some Wire

-- the bits that a list of changes names
abbrev pub changed_bits : List (ℕ × V4) → List ℕ
changed_bits [] = []
changed_bits (w ∷ ws) = w.0 ∷ changed_bits ws

-- no assignment drives a bit that the changes name
abbrev pub NoWire : List Item → List (ℕ × V4) → Type 0
NoWire d ws = (b : ℕ) → is_wire d b ≡ true → has (changed_bits ws) b ≡ false

-- a row changes its inputs at once
abbrev pub row : List Item → State → List (ℕ × V4) → State
row d s inputs = writes d s inputs

-- the place of the first flag that is set
abbrev pub later : Option ℕ → Option ℕ
later None = None
later (Some i) = Some (suc i)

abbrev pub earliest : List Bool → Option ℕ
earliest [] = None
earliest (true ∷ flags) = Some 0
earliest (false ∷ flags) = later (earliest flags)

abbrev pub choice_of : Option ℕ → List (ℕ × V4) → Option Choice
choice_of (Some i) us = Some (Act i)
choice_of None [] = None
choice_of None (u ∷ us) = Some Batch

-- the earliest active item in the order of the text, else the batch, else none
abbrev pub next_choice : State → Option Choice
next_choice s = choice_of (earliest s.active) s.updates

abbrev pub follow : Option Choice → (Choice → List Choice) → List Choice
follow None rest = []
follow (Some c) rest = c ∷ rest c

-- the ordered run: at most n steps, each the next choice
abbrev pub ordered_steps : ℕ → List Item → State → List Choice
ordered_steps zero d s = []
ordered_steps (suc n) d s = follow (next_choice s) (λ c. ordered_steps n d (step d s c))
