-- The items of a flat Verilog design: what each senses, and what it drives.
use Rattle.std.specs.Prelude.{◌≡◌, ℕ, nat_eq, Bool, true, false, ◌&&◌, ◌||◌, List, [], ◌∷◌, ◌++◌, slice_get, Option, Some, None}
use Rattle.vv_bits.specs.declared.four.V4.{V4}
use Rattle.vv_bits.specs.declared.four.V4.TheVariants.{Zero, One, X, Z}

-- what a list contains, as a test
abbrev pub has : List ℕ → ℕ → Bool
has [] x = false
has (y ∷ ys) x = nat_eq y x || has ys x

-- one event of an event control: posedge, negedge, or any change of the bits
pub data Event : Type 0 where
  Rise : (bit : ℕ) → Event
  Fall : (bit : ℕ) → Event
  Any : (bits : List ℕ) → Event

-- the bits that an event names
abbrev pub event_bits : Event → List ℕ
event_bits (Rise b) = b ∷ []
event_bits (Fall b) = b ∷ []
event_bits (Any bs) = bs

-- 0 to 1, x or z, and x or z to 1
abbrev pub rises : V4 → V4 → Bool
rises Zero Zero = false
rises Zero _ = true
rises X One = true
rises Z One = true
rises _ _ = false

-- 1 to 0, x or z, and x or z to 0
abbrev pub falls : V4 → V4 → Bool
falls One One = false
falls One _ = true
falls X Zero = true
falls Z Zero = true
falls _ _ = false

-- the change of bit b from old to new is this event
abbrev pub is_event : Event → ℕ → V4 → V4 → Bool
is_event (Rise c) b old new = nat_eq c b && rises old new
is_event (Fall c) b old new = nat_eq c b && falls old new
is_event (Any cs) b old new = has cs b

-- what one run of an always construct does
pub record Run : Type 0 where
  pub writes : List (ℕ × V4)  -- by =, in order
  pub updates : List (ℕ × V4)  -- by <=, in order

-- a continuous assignment: what its targets get from the bits, of which it looks at reads;
-- or an always construct: what one run does, from its event control back to it
pub data Item : Type 0 where
  Assign : (reads targets : List ℕ) (value : List V4 → List V4) → Item
  Always : (events : List Event) (assigns : List ℕ) (run : List V4 → Run) → Item

abbrev pub all_event_bits : List Event → List ℕ
all_event_bits [] = []
all_event_bits (e ∷ es) = event_bits e ++ all_event_bits es

-- the bits that may make an item active
abbrev pub senses : Item → List ℕ
senses (Assign reads targets value) = reads
senses (Always events assigns run) = all_event_bits events

-- the bits that an item may change
abbrev pub drives : Item → List ℕ
drives (Assign reads targets value) = targets
drives (Always events assigns run) = assigns

-- the change of bit b is one of these events
abbrev pub any_event : List Event → ℕ → V4 → V4 → Bool
any_event [] b old new = false
any_event (e ∷ es) b old new = is_event e b old new || any_event es b old new

-- the change of bit b makes the item active
abbrev pub wakes : Item → ℕ → V4 → V4 → Bool
wakes (Assign reads targets value) b old new = has reads b
wakes (Always events assigns run) b old new = any_event events b old new

abbrev pub driven_by : Option Item → List ℕ
driven_by None = []
driven_by (Some item) = drives item

abbrev pub sensed_by : Option Item → List ℕ
sensed_by None = []
sensed_by (Some item) = senses item

-- the item numbered i drives b
abbrev pub Drives : List Item → ℕ → ℕ → Type 0
Drives d i b = has (driven_by (slice_get d i)) b ≡ true

-- the item numbered i senses b
abbrev pub Senses : List Item → ℕ → ℕ → Type 0
Senses d i b = has (sensed_by (slice_get d i)) b ≡ true

-- each write is to one of these bits
abbrev pub AllTo : List ℕ → List (ℕ × V4) → Type 0
AllTo bs [] = Unit {0}
AllTo bs (w ∷ ws) = (has bs w.0 ≡ true) × AllTo bs ws

-- a run of the item changes only what it drives
abbrev pub Fair : Item → Type 0
Fair (Assign reads targets value) = Unit {0}
Fair (Always events assigns f) = (bits : List V4) → AllTo assigns (f bits).writes × AllTo assigns (f bits).updates

-- P holds of the item, if there is one
abbrev pub IfItem : Option Item → (Item → Type 0) → Type 0
IfItem None P = Unit {0}
IfItem (Some item) P = P item

abbrev pub IsAlways : Option Item → Type 0
IsAlways None = ⊥
IsAlways (Some (Assign reads targets value)) = ⊥
IsAlways (Some (Always events assigns f)) = Unit {0}
