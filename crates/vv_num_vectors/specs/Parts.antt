-- Vectors that are made of two parts, each an element that is repeated or elements of another vector.
use Rattle.std.specs.Prelude.{ℕ, ◌+◌, ◌-◌, ◌≤◌, List, ◌++◌, drop, replicate, take}
use Rattle.vv_bits.specs.declared.nine.S9.{S9}
use Rattle.vv_num_vectors.specs.declared.movement.Part.{Part}
use Rattle.vv_num_vectors.specs.declared.movement.Part.TheVariants.{Repeated, From}
use Rattle.vv_num_vectors.specs.declared.movement.Parts.{Parts}

-- n elements of a part
abbrev pub part_of : List S9 → Part → ℕ → List S9
part_of xs (Repeated x) n = replicate n x
part_of xs (From start) n = take n (drop start xs)

-- a vector of so many elements has the part
abbrev pub HasPart : ℕ → Part → ℕ → Type 0
HasPart count (Repeated x) n = Unit {0}
HasPart count (From start) n = start + n ≤ count

abbrev pub made_of : List S9 → Parts → ℕ → List S9
made_of xs parts n = part_of xs parts.left parts.split ++ part_of xs parts.right (n - parts.split)

abbrev pub IsMadeFrom : ℕ → Parts → ℕ → Type 0
IsMadeFrom count parts n = (parts.split ≤ n) × HasPart count parts.left parts.split × HasPart count parts.right (n - parts.split)
