-- Orders of the items along their dependences, and what a design guarantees.
use Rattle.std.specs.Prelude.{◌≡◌, ℕ, ◌<◌, Bool, true, false, not, ◌&&◌, ◌||◌, List, [], ◌∷◌, length, slice_get}
use Rattle.vv_bits.specs.declared.four.V4.{V4}
use Rattle.vv_events.specs.Items.{has, Item, driven_by, sensed_by, Drives, Senses, Fair, IfItem, IsAlways}

-- no item of the list drives what an earlier one or itself senses
abbrev pub Ordered : List Item → List ℕ → Type 0
Ordered d [] = Unit {0}
Ordered d (j ∷ rest) = ((i b : ℕ) → has (j ∷ rest) i ≡ true → Drives d i b → Senses d j b → ⊥) × Ordered d rest

-- what a flat design guarantees, with an order of its items along their dependences
pub record Lawful (d : List Item) (order : List ℕ) : Type 0 where
  -- a run changes only what it drives
  pub fair : (i : ℕ) → IfItem (slice_get d i) Fair
  -- an always construct shares no bit with another item
  pub apart : (i j b : ℕ) → IsAlways (slice_get d i) → Drives d i b → Drives d j b → i ≡ j
  pub ordered : Ordered d order
  -- the order has each item, and none twice
  pub complete : (i : ℕ) → i < length d → has order i ≡ true
  pub once : length order ≡ length d

-- each waiting update is of a bit that an always construct drives
abbrev pub Owned : List Item → List (ℕ × V4) → Type 0
Owned d [] = Unit {0}
Owned d (w ∷ ws) = ((i : ℕ) × (i < length d) × Drives d i w.0 × IsAlways (slice_get d i)) × Owned d ws

-- two lists have a number in common
abbrev pub meets : List ℕ → List ℕ → Bool
meets [] ys = false
meets (x ∷ xs) ys = has ys x || meets xs ys

-- item i drives a bit that item j senses
abbrev pub feeds : List Item → ℕ → ℕ → Bool
feeds d i j = meets (driven_by (slice_get d i)) (sensed_by (slice_get d j))

-- from i to j by these items in between
abbrev pub Chain : List Item → ℕ → List ℕ → ℕ → Type 0
Chain d i [] j = feeds d i j ≡ true
Chain d i (k ∷ ks) j = (feeds d i k ≡ true) × Chain d k ks j

-- a bit that j senses rests on what i drives
abbrev pub Reaches : List Item → ℕ → ℕ → Type 0
Reaches d i j = (via : List ℕ) × Chain d i via j

-- some item rests on itself
abbrev pub HasCycle : List Item → Type 0
HasCycle d = (i : ℕ) × Reaches d i i

-- an order of all items, each once
pub record OrderOf (d : List Item) : Type 0 where
  pub order : List ℕ
  pub ordered : Ordered d order
  pub complete : (i : ℕ) → i < length d → has order i ≡ true
  pub once : length order ≡ length d

-- none of the items feeds j
abbrev pub none_feeds : List Item → List ℕ → ℕ → Bool
none_feeds d [] j = true
none_feeds d (i ∷ rest) j = not (feeds d i j) && none_feeds d rest j

-- the test of Ordered
abbrev pub is_ordered : List Item → List ℕ → Bool
is_ordered d [] = true
is_ordered d (j ∷ rest) = none_feeds d (j ∷ rest) j && is_ordered d rest
