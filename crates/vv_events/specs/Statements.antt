-- Statements of always constructs and functions, and what they do.
use Rattle.std.specs.Prelude.{ℕ, Bool, false, ◌||◌, ◌+◌, cond, List, [], ◌∷◌, ◌++◌, slice_set}
use Rattle.vv_bits.specs.declared.four.V4.{V4}
use Rattle.vv_events.specs.Items.{Item, Always, Event, Run}
use Rattle.vv_events.specs.Values.{unknown, same_bits, is_true, bits_from, part_writes}
use Rattle.vv_events.specs.Expressions.{Expr, value, condition_bit}

-- what a statement assigns: bits by number, bit 0 first, or a part of a vector by +:
pub data Target : Type 0 where
  Whole : (places : List ℕ) → Target
  Slice : (vector : List ℕ) (index : Expr) → Target

-- Match is one row of a case: its labels, its block, and the rows below it
pub data Statement : Type 0 where
  Empty : Statement
  Then : (first rest : Statement) → Statement
  Set : (target : Target) (source : Expr) → Statement
  Update : (target : Target) (source : Expr) → Statement
  If : (condition : Expr) (block other : Statement) → Statement
  Match : (subject : Expr) (labels : List (List V4)) (block below : Statement) → Statement

-- each place with its bit
abbrev pub paired : List ℕ → List V4 → List (ℕ × V4)
paired [] vs = []
paired (b ∷ bs) [] = []
paired (b ∷ bs) (v ∷ vs) = (b, v) ∷ paired bs vs

-- the writes of a value to a target, where the bits are these
abbrev pub target_writes : Target → List V4 → List V4 → List (ℕ × V4)
target_writes (Whole places) vs bits = paired places vs
target_writes (Slice vector index) vs bits = part_writes vector (value index bits) vs

abbrev pub target_places : Target → List ℕ
target_places (Whole places) = places
target_places (Slice vector index) = vector

-- the bits after these writes
abbrev pub written : List V4 → List (ℕ × V4) → List V4
written bits [] = bits
written bits (w ∷ ws) = written (slice_set bits w.0 w.1) ws

-- how far a run has come: the bits as it sees them, and what it has done
pub record Progress : Type 0 where
  pub bits : List V4
  pub writes : List (ℕ × V4)
  pub updates : List (ℕ × V4)

-- some label has the same bits
abbrev pub some_label : List (List V4) → List V4 → Bool
some_label [] vs = false
some_label (label ∷ labels) vs = same_bits label vs || some_label labels vs

-- = changes the bits at once
abbrev pub set_now : Progress → List (ℕ × V4) → Progress
set_now p ws = record { bits = written p.bits ws; writes = p.writes ++ ws; updates = p.updates }

-- <= appends updates
abbrev pub update_later : Progress → List (ℕ × V4) → Progress
update_later p ws = record { bits = p.bits; writes = p.writes; updates = p.updates ++ ws }

-- the progress after a statement
abbrev pub after : Statement → Progress → Progress
after Empty p = p
after (Then first rest) p = after rest (after first p)
after (Set target source) p = set_now p (target_writes target (value source p.bits) p.bits)
after (Update target source) p = update_later p (target_writes target (value source p.bits) p.bits)
after (If condition block other) p = cond (is_true (condition_bit (value condition p.bits))) (after block p) (after other p)
after (Match subject labels block below) p = cond (some_label labels (value subject p.bits)) (after block p) (after below p)

abbrev pub start_of : List V4 → Progress
start_of bits = record { bits = bits; writes = []; updates = [] }

-- one run of a construct's statement
abbrev pub run_of : Statement → List V4 → Run
run_of s bits = let p = after s (start_of bits) in record { writes = p.writes; updates = p.updates }

-- the bits that a statement may assign
abbrev pub assigned_in : Statement → List ℕ
assigned_in Empty = []
assigned_in (Then first rest) = assigned_in first ++ assigned_in rest
assigned_in (Set target source) = target_places target
assigned_in (Update target source) = target_places target
assigned_in (If condition block other) = assigned_in block ++ assigned_in other
assigned_in (Match subject labels block below) = assigned_in block ++ assigned_in below

-- always @(events) s
abbrev pub construct : List Event → Statement → Item
construct events s = Always events (assigned_in s) (run_of s)

-- a function's value: its bits are those of the result, then of its own registers, all x at first, then of its arguments
abbrev pub function_value : (result own : ℕ) → Statement → List V4 → List V4
function_value result own s arguments = bits_from (after s (start_of (unknown (result + own) ++ arguments))).bits 0 result
