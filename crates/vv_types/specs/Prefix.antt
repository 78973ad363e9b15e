-- Lists that begin with another one.
use Rattle.std.specs.Prelude.{◌≡◌, List, length, take}
use Rattle.vv_bits.specs.declared.nine.S9.{S9}

-- the second list begins with the first
abbrev pub Extends : List S9 → List S9 → Type 0
Extends xs ys = take (length xs) ys ≡ xs
