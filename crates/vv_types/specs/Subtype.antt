-- Subtypes: their least and greatest values, and the number of their elements.
use Rattle.std.specs.Prelude.{ℕ, ◌+◌, ◌<◌, Bool, if◌then◌else◌, ℤ, ◌-ℤ◌, int_lt, unsigned_abs}
use Rattle.vv_types.specs.declared.base.Bounds.{Bounds}
use Rattle.vv_types.specs.declared.base.Subtype.{Subtype, rec-Subtype}
use Rattle.vv_types.specs.declared.base.Subtype.TheOpen.{Subtype-F}
use Rattle.vv_types.specs.declared.base.Subtype.TheOpen as s

-- the lower and the upper end of a range
abbrev pub low_end : ℤ → ℤ → Bool → ℤ
low_end left right down = if down then right else left

abbrev pub high_end : ℤ → ℤ → Bool → ℤ
high_end left right down = if down then left else right

-- how many numbers there are from one to another
abbrev pub count_between : ℤ → ℤ → ℕ
count_between low high = if int_lt high low then 0 else unsigned_abs (high -ℤ low) + 1

-- how many indexes the bounds have
abbrev pub index_count : Bounds → ℕ
index_count b = count_between (low_end b.left b.right b.down) (high_end b.left b.right b.down)

abbrev pub has_elements_step : (X : Type 0) → (X → Subtype) → (X → Type 0) → Subtype-F X → Type 0
has_elements_step X child has (s.Scalar base left right down count) = Unit {0}
has_elements_step X child has (s.Array base bounds elem) = (0 < index_count bounds) × has elem

-- no array in the subtype is empty
abbrev pub HasElements : Subtype → Type 0
HasElements t = rec-Subtype (Type 0) has_elements_step t
