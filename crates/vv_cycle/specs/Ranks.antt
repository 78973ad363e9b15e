-- Ranks of nets, for designs where the values of the nets settle the drivers, and what a row
-- leaves in the processes that only an event of an input moves.
use Rattle.std.specs.Prelude.{◌≡◌, ℕ, ◌<◌, Bool, true, false, cond, List, [], Option, Some, None, slice_get, slice_index_or}
use Rattle.vv_bits.specs.declared.nine.S9.{S9}
use Rattle.vv_cycle.specs.Processes.{Nets, Ran, Process, Design, Part, at, has, pick, has_source}
use Rattle.vv_cycle.specs.Turns.{VState, Turn, CanTurn, turn}

-- the states that turns lead to from a first one
pub data Reached (d : Design) (first : VState) : VState → Type 0 where
  First : Reached d first first
  Then : (s t : VState) (u : Turn) → Reached d first s → CanTurn d s u → turn d s u ≡ Some t → Reached d first t

-- no net without a source has an event: so it is after the first update of a row
abbrev pub InputsRest : Design → Nets → Type 0
InputsRest d nets = (k : ℕ) → has_source d k ≡ false → slice_index_or nets.events k false ≡ false

-- the values are the same at each net without a source: so they are all through a row
abbrev pub SameInputs : Design → List S9 → List S9 → Type 0
SameInputs d vs ws = (k : ℕ) → has_source d k ≡ false → at vs k ≡ at ws k

-- the values are the same at each net that wakes the process
abbrev pub SameSensed : Process → List S9 → List S9 → Type 0
SameSensed p vs ws = (k : ℕ) → has p.sensitive k ≡ true → at vs k ≡ at ws k

-- process i is p, what it owns is q and ready, and its run leaves r
pub record Runs (d : Design) (s : VState) (i : ℕ) (p : Process) (q : Part) (r : Ran) : Type 0 where
  pub process : slice_get d.processes i ≡ Some p
  pub part : slice_get s.parts i ≡ Some q
  pub ready : q.ready ≡ true
  pub ran : p.body s.nets q.drivers q.variables ≡ Some r

-- Holds: what is known of the states that come up.
-- held vs i: with these values process i changes no driver where no input has an event.
-- give i x vs: the driver of net x that process i, if it isn't held, has once it has run on these values.
-- Such a driver rests on inputs and on values of lower rank, and also on what wakes its process alone.
pub record Ranked (d : Design) (Holds : VState → Type 0) (rank : ℕ → ℕ) (e : ℕ) (held : List S9 → ℕ → Bool) (give : ℕ → ℕ → List S9 → List S9) : Type 0 where
  pub gives : (s : VState) (i : ℕ) (p : Process) (q : Part) (r : Ran) → Holds s → held s.nets.values i ≡ false → Runs d s i p q r → (x : ℕ) → pick p.targets r.drivers x ≡ give i x s.nets.values
  pub keeps : (s : VState) (i : ℕ) (p : Process) (q : Part) (r : Ran) → Holds s → held s.nets.values i ≡ true → Runs d s i p q r → InputsRest d s.nets → (x : ℕ) → pick p.targets r.drivers x ≡ pick p.targets q.drivers x
  pub lower : (i : ℕ) (p : Process) (vs ws : List S9) → held vs i ≡ false → slice_get d.processes i ≡ Some p → (x : ℕ) → SameInputs d vs ws → ((y : ℕ) → rank y < rank x → at vs y ≡ at ws y) → give i x vs ≡ give i x ws
  pub senses : (i : ℕ) (p : Process) (vs ws : List S9) → held vs i ≡ false → slice_get d.processes i ≡ Some p → (x : ℕ) → SameSensed p vs ws → give i x vs ≡ give i x ws
  pub by_inputs : (i : ℕ) (vs ws : List S9) → SameInputs d vs ws → held vs i ≡ held ws i
  pub by_sensed : (i : ℕ) (p : Process) (vs ws : List S9) → slice_get d.processes i ≡ Some p → SameSensed p vs ws → held vs i ≡ held ws i
  pub bound : (x : ℕ) → rank x < e

-- every idle process that isn't held has run on the present values
pub record Rested (d : Design) (held : List S9 → ℕ → Bool) (give : ℕ → ℕ → List S9 → List S9) (s : VState) : Type 0 where
  pub each : (i : ℕ) (p : Process) (q : Part) (x : ℕ) → held s.nets.values i ≡ false → slice_get d.processes i ≡ Some p → slice_get s.parts i ≡ Some q → q.ready ≡ false → pick p.targets q.drivers x ≡ give i x s.nets.values

abbrev pub ran_pick : Process → Option Ran → ℕ → List S9
ran_pick p None x = []
ran_pick p (Some r) x = pick p.targets r.drivers x

-- the driver of x after the row: that of the one run at its start, or the one before
abbrev pub wanted : Process → Nets → Part → ℕ → List S9
wanted p nets q x = cond q.ready (ran_pick p (p.body nets q.drivers q.variables) x) (pick p.targets q.drivers x)

-- each process that is held in the row has these drivers
abbrev pub HeldEnds : Design → (List S9 → ℕ → Bool) → VState → VState → Type 0
HeldEnds d held start s =
    (i : ℕ) (p : Process) (q before : Part) (x : ℕ) → held start.nets.values i ≡ true → slice_get d.processes i ≡ Some p → slice_get start.parts i ≡ Some before → slice_get s.parts i ≡ Some q → pick p.targets q.drivers x ≡ wanted p start.nets before x
