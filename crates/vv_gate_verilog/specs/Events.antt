-- The event design that a flat design stands for: each item is a continuous assignment, each input starts at x.
use Rattle.std.specs.Prelude.{◌≡◌, ℕ, nat_eq, cond, List, [], ◌∷◌, length, slice_get}
use Rattle.std.specs.List.{HoldsAt}
use Rattle.vv_vast.specs.Tree as vast
use Rattle.vv_vast.specs.Flat.{Flat}
use Rattle.vv_bits.specs.declared.four.V4.{V4}
use Rattle.vv_bits.specs.declared.four.V4.TheVariants.{Zero, One, X, Z}
use Rattle.vv_bits.specs.Four.{and4_rule, or4_rule, xor4_rule, not4_rule}
use Rattle.vv_bits.specs.Resolution.{resolve4_rule}
use Rattle.vv_events.specs.Items.{Item, IfItem}
use Rattle.vv_events.specs.Steps.{State, bit, Choice, CanStep, CanRun, run, Quiet}
use Rattle.vv_events.specs.Orders.{Lawful}
use Rattle.vv_events.specs.Equations.{at, Local, Holds}
use Rattle.vv_events.specs.Expressions.{Expr, Bits, Read, OfOne, OfTwo, BitNot, BitAnd, BitOr, BitXor, assignment}
use Rattle.vv_events.specs.Rows.{Declared, Input, Wire, Fits, power_on, row}

abbrev pub v4_of : vast.Bit → V4
v4_of vast.bit0 = Zero
v4_of vast.bit1 = One
v4_of vast.bitx = X
v4_of vast.bitz = Z

-- an expression over objects of one bit each
abbrev pub expr_of : vast.Expr ℕ → Expr
expr_of (vast.literal b) = Bits (v4_of b ∷ [])
expr_of (vast.name n) = Read (n ∷ [])
expr_of (vast.unary vast.not' e) = OfOne BitNot (expr_of e)
expr_of (vast.binary vast.and' e g) = OfTwo BitAnd (expr_of e) (expr_of g)
expr_of (vast.binary vast.or' e g) = OfTwo BitOr (expr_of e) (expr_of g)
expr_of (vast.binary vast.xor' e g) = OfTwo BitXor (expr_of e) (expr_of g)

abbrev pub event_of : vast.Item ℕ → Item
event_of (vast.assign t e) = assignment (t ∷ []) (expr_of e)

abbrev pub events_in : List (vast.Item ℕ) → List Item
events_in [] = []
events_in (item ∷ items) = event_of item ∷ events_in items

-- the items in order
abbrev pub events_of : Flat → List Item
events_of flat = events_in flat.items

abbrev pub kind_of : vast.Direction → Declared
kind_of vast.input = Input X
kind_of vast.output = Wire

abbrev pub declared_in : List vast.Port → List Declared
declared_in [] = []
declared_in (p ∷ ps) = kind_of p.direction ∷ declared_in ps

-- the objects in order: the number of an object is that of its bit
abbrev pub declared_of : Flat → List Declared
declared_of flat = declared_in flat.objects

-- the state at power-on
abbrev pub start_of : Flat → State
start_of flat = power_on (events_of flat) (declared_of flat)

-- the state in which a row has changed these bits
abbrev pub row_of : Flat → State → List (ℕ × V4) → State
row_of flat s inputs = row (events_of flat) s inputs

-- these steps are possible, one after another
abbrev pub CanTake : Flat → State → List Choice → Type 0
CanTake flat s cs = CanRun (events_of flat) s cs

-- the state after them
abbrev pub after : Flat → State → List Choice → State
after flat s cs = run (events_of flat) s cs

-- no further step is possible
abbrev pub IsStuck : Flat → State → Type 0
IsStuck flat s = (c : Choice) → CanStep (events_of flat) s c → ⊥

-- the value of an expression of one bit where the bits are these
abbrev pub bit_value : vast.Expr ℕ → List V4 → V4
bit_value (vast.literal b) bits = v4_of b
bit_value (vast.name n) bits = at bits n
bit_value (vast.unary vast.not' e) bits = not4_rule (bit_value e bits)
bit_value (vast.binary vast.and' e g) bits = and4_rule (bit_value e bits) (bit_value g bits)
bit_value (vast.binary vast.or' e g) bits = or4_rule (bit_value e bits) (bit_value g bits)
bit_value (vast.binary vast.xor' e g) bits = xor4_rule (bit_value e bits) (bit_value g bits)

-- the expressions that drive object t, in order
abbrev pub expressions_for : List (vast.Item ℕ) → ℕ → List (vast.Expr ℕ)
expressions_for [] t = []
expressions_for (vast.assign u e ∷ items) t = cond (nat_eq u t) (e ∷ expressions_for items t) (expressions_for items t)

-- their values
abbrev pub bit_values : List (vast.Expr ℕ) → List V4 → List V4
bit_values [] bits = []
bit_values (e ∷ es) bits = bit_value e bits ∷ bit_values es bits

-- each driven object is what its expressions give
pub record Solved (flat : Flat) (bits : List V4) : Type 0 where
  -- one item alone drives it
  pub alone : (t : ℕ) (e : vast.Expr ℕ) → expressions_for flat.items t ≡ e ∷ [] → at bits t ≡ bit_value e bits
  pub each : (t : ℕ) (e : vast.Expr ℕ) (es : List (vast.Expr ℕ)) → expressions_for flat.items t ≡ e ∷ es → at bits t ≡ resolve4_rule (bit_values (e ∷ es) bits)

abbrev pub IsInput : Flat → ℕ → Type 0
IsInput flat b = HoldsAt (λ p. p.direction ≡ vast.input) flat.objects b

abbrev pub IsOutput : Flat → ℕ → Type 0
IsOutput flat b = HoldsAt (λ p. p.direction ≡ vast.output) flat.objects b

-- a row changes inputs only
abbrev pub InputsOnly : Flat → List (ℕ × V4) → Type 0
InputsOnly flat [] = Unit {0}
InputsOnly flat (w ∷ ws) = IsInput flat w.0 × InputsOnly flat ws

-- a state in which a row may begin
pub record AtRest (flat : Flat) (s : State) : Type 0 where
  pub holds : Holds (events_of flat) s
  pub quiet : Quiet s
  pub size : length s.bits ≡ length flat.objects
  -- an output that no item drives is z
  pub floating : (b : ℕ) → IsOutput flat b → expressions_for flat.items b ≡ [] → bit s b ≡ Z

-- what the laws of events ask of a design, which has an order of its items
pub record LawfulFlat (flat : Flat) : Type 0 where
  pub order : List ℕ
  pub lawful : Lawful (events_of flat) order
  pub local : (k : ℕ) → IfItem (slice_get (events_of flat) k) Local
  pub fits : Fits (events_of flat) (declared_of flat)
