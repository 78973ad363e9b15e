-- A design as its processes and nets, and what its nets get from their sources.
use Rattle.std.specs.Prelude.{ℕ, ℤ, nat_eq, Bool, false, cond, ◌||◌, List, [], ◌∷◌, ◌++◌, slice_index_or, Option}
use Rattle.vv_bits.specs.declared.nine.S9.{S9}
use Rattle.vv_bits.specs.declared.nine.S9.TheVariants.{U}

-- the nets of a state: of each its value, its value before, and whether it has an event
pub record Nets : Type 0 where
  pub values : List S9
  pub before : List S9
  pub events : List Bool

-- a scalar element of a variable; a Boolean or an enumeration value by its position
pub data Value : Type 0 where
  Logic : (value : S9) → Value
  Number : (value : ℤ) → Value

-- what a run of a process's body leaves, and whether an evaluation in it met a clash
pub record Ran : Type 0 where
  pub drivers : List S9
  pub variables : List Value
  pub clash : Bool

-- a process has one driver for each of its targets, in their order
pub record Process : Type 0 where
  pub sensitive : List ℕ
  pub targets : List ℕ
  -- the starting values
  pub first_drivers : List S9
  pub first_variables : List Value
  -- a run on these nets, from these drivers and variables; None is a range error
  pub body : Nets → List S9 → List Value → Option Ran

pub data Class : Type 0 where
  Clock : Class
  Control : Class
  Data : Class

-- an input of the design, and its nets
pub record Input : Type 0 where
  pub class : Class
  pub nets : List ℕ

pub record Design : Type 0 where
  pub processes : List Process
  -- the constant sources: a net and the value that it always gets
  pub constants : List (ℕ × S9)
  -- the initial value of each net
  pub initial : List S9
  pub inputs : List Input

-- what a process owns in a state
pub record Part : Type 0 where
  pub ready : Bool
  pub drivers : List S9
  pub variables : List Value
  -- one of its runs has met a clash
  pub clash : Bool

-- ---- lists of nets

-- the value of net k
abbrev pub at : List S9 → ℕ → S9
at values k = slice_index_or values k U

-- net k is in the list
abbrev pub has : List ℕ → ℕ → Bool
has [] k = false
has (n ∷ ns) k = nat_eq n k || has ns k

-- the drivers of net k among those of one process
abbrev pub pick : List ℕ → List S9 → ℕ → List S9
pick [] drivers k = []
pick (t ∷ ts) [] k = []
pick (t ∷ ts) (v ∷ drivers) k = cond (nat_eq t k) (v ∷ pick ts drivers k) (pick ts drivers k)

-- ---- the sources of a net

-- the drivers of net k in all processes
abbrev pub drivers_of : List Process → List Part → ℕ → List S9
drivers_of [] parts k = []
drivers_of (p ∷ ps) [] k = []
drivers_of (p ∷ ps) (part ∷ parts) k = pick p.targets part.drivers k ++ drivers_of ps parts k

abbrev pub constants_of : List (ℕ × S9) → ℕ → List S9
constants_of [] k = []
constants_of (c ∷ cs) k = cond (nat_eq c.0 k) (c.1 ∷ constants_of cs k) (constants_of cs k)

abbrev pub sources_of : Design → List Part → ℕ → List S9
sources_of d parts k = drivers_of d.processes parts k ++ constants_of d.constants k

-- some process drives net k
abbrev pub is_driven : List Process → ℕ → Bool
is_driven [] k = false
is_driven (p ∷ ps) k = has p.targets k || is_driven ps k

abbrev pub is_constant : List (ℕ × S9) → ℕ → Bool
is_constant [] k = false
is_constant (c ∷ cs) k = nat_eq c.0 k || is_constant cs k

abbrev pub has_source : Design → ℕ → Bool
has_source d k = is_driven d.processes k || is_constant d.constants k
