-- The states of a design, and the turns that they take until they are settled (IEEE 1076-1993,
-- clause 12.6: drivers, the propagation of signal values, and the simulation cycle).
use Rattle.std.specs.Prelude.{◌≡◌, ℕ, suc, Bool, true, false, cond, ◌||◌, not, List, [], ◌∷◌, slice_index_or, slice_get, slice_set, take, Option, Some, None}
use Rattle.vv_bits.specs.declared.nine.S9.{S9}
use Rattle.vv_bits.specs.Nine.{same}
use Rattle.vv_bits.specs.Resolution.{resolve_rule}
use Rattle.vv_cycle.specs.Processes.{Nets, Ran, Process, Design, Part, sources_of, has_source}

-- one part for each process, in their order
pub record VState : Type 0 where
  pub nets : Nets
  pub parts : List Part

-- ---- a process runs

-- what a process owns after a run: it is ready no more, and a clash isn't forgotten
abbrev pub rested : Part → Ran → Part
rested part r = record { ready = false; drivers = r.drivers; variables = r.variables; clash = part.clash || r.clash }

abbrev pub part_after : Part → Option Ran → Option Part
part_after part None = None
part_after part (Some r) = Some (rested part r)

abbrev pub resumed : Process → Nets → Part → Option Part
resumed p nets part = part_after part (p.body nets part.drivers part.variables)

abbrev pub with_part : VState → ℕ → Option Part → Option VState
with_part s i None = None
with_part s i (Some part) = Some (record { nets = s.nets; parts = slice_set s.parts i part })

abbrev pub resume_at : VState → ℕ → Option Process → Option Part → Option VState
resume_at s i None o = Some s
resume_at s i (Some p) None = Some s
resume_at s i (Some p) (Some part) = with_part s i (resumed p s.nets part)

-- process i runs its body once; None is a range error
abbrev pub resume : Design → VState → ℕ → Option VState
resume d s i = resume_at s i (slice_get d.processes i) (slice_get s.parts i)

-- ---- the nets are updated

-- the values of the nets from number k on: with a source the resolution, without one as they were
abbrev pub resolutions : Design → List Part → ℕ → List S9 → List S9
resolutions d parts k [] = []
resolutions d parts k (v ∷ vs) = cond (has_source d k) (resolve_rule (sources_of d parts k)) v ∷ resolutions d parts (suc k) vs

abbrev pub new_values : Design → VState → List S9
new_values d s = resolutions d s.parts 0 s.nets.values

-- of each net, whether the values differ
abbrev pub changes : List S9 → List S9 → List Bool
changes [] ws = []
changes (v ∷ vs) [] = []
changes (v ∷ vs) (w ∷ ws) = not (same v w) ∷ changes vs ws

abbrev pub any_true : List Bool → Bool
any_true [] = false
any_true (b ∷ bs) = b || any_true bs

-- one of these nets has an event
abbrev pub any_at : List ℕ → List Bool → Bool
any_at [] events = false
any_at (k ∷ ks) events = slice_index_or events k false || any_at ks events

-- the processes that are sensitive to an event are ready
abbrev pub readied : List Process → List Bool → List Part → List Part
readied [] events parts = parts
readied (p ∷ ps) events [] = []
readied (p ∷ ps) events (part ∷ parts) =
    record { ready = part.ready || any_at p.sensitive events; drivers = part.drivers; variables = part.variables; clash = part.clash } ∷ readied ps events parts

-- the nets take these values at once: the events are the changes
abbrev pub moved : Design → VState → List S9 → VState
moved d s values =
    let events = changes s.nets.values values in
    record { nets = record { values = values; before = s.nets.values; events = events }; parts = readied d.processes events s.parts }

-- each net with a source takes the resolution of its sources
abbrev pub update : Design → VState → VState
update d s = moved d s (new_values d s)

-- ---- turns

abbrev pub any_ready : List Part → Bool
any_ready [] = false
any_ready (part ∷ parts) = part.ready || any_ready parts

-- some net with a source differs from the resolution of its sources
abbrev pub differs : Design → VState → Bool
differs d s = any_true (changes s.nets.values (new_values d s))

abbrev pub IsSettled : Design → VState → Type 0
IsSettled d s = (any_ready s.parts ≡ false) × (differs d s ≡ false)

pub data Turn : Type 0 where
  Resume : (process : ℕ) → Turn
  Update : Turn

abbrev pub IsReady : Option Part → Type 0
IsReady None = ⊥
IsReady (Some part) = part.ready ≡ true

-- any ready process may run; the nets are updated where none is ready and one differs
abbrev pub CanTurn : Design → VState → Turn → Type 0
CanTurn d s (Resume i) = IsReady (slice_get s.parts i)
CanTurn d s Update = (any_ready s.parts ≡ false) × (differs d s ≡ true)

abbrev pub turn : Design → VState → Turn → Option VState
turn d s (Resume i) = resume d s i
turn d s Update = Some (update d s)

-- the state after these turns; None after a range error
abbrev pub after_turns : Design → Option VState → List Turn → Option VState
after_turns d None ts = None
after_turns d (Some s) [] = Some s
after_turns d (Some s) (t ∷ ts) = after_turns d (turn d s t) ts

-- each turn is possible where it is taken, and none is taken after a range error
abbrev pub CanTurns : Design → Option VState → List Turn → Type 0
CanTurns d o [] = Unit {0}
CanTurns d None (t ∷ ts) = ⊥
CanTurns d (Some s) (t ∷ ts) = CanTurn d s t × CanTurns d (turn d s t) ts

-- a range error, or a settled state
abbrev pub IsEnd : Design → Option VState → Type 0
IsEnd d None = Unit {0}
IsEnd d (Some s) = IsSettled d s

-- no process before number i is ready
abbrev pub IsFirst : List Part → ℕ → Type 0
IsFirst parts i = any_ready (take i parts) ≡ false

-- the ready processes run in the order of the design
abbrev pub InOrder : Design → Option VState → List Turn → Type 0
InOrder d o [] = Unit {0}
InOrder d None (t ∷ ts) = ⊥
InOrder d (Some s) (Resume i ∷ ts) = IsFirst s.parts i × InOrder d (resume d s i) ts
InOrder d (Some s) (Update ∷ ts) = InOrder d (Some (update d s)) ts

-- turns in order that go on to the end
pub record OrderedTurns (d : Design) (s : VState) : Type 0 where
  pub turns : List Turn
  pub can : CanTurns d (Some s) turns
  pub ordered : InOrder d (Some s) turns
  pub ends : IsEnd d (after_turns d (Some s) turns)

-- some run of a process has met a clash
abbrev pub any_clash : List Part → Bool
any_clash [] = false
any_clash (part ∷ parts) = part.clash || any_clash parts

-- neither a range error nor a clash has come up
abbrev pub IsClean : Option VState → Type 0
IsClean None = ⊥
IsClean (Some s) = any_clash s.parts ≡ false
