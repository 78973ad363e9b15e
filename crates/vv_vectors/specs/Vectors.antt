-- Vectors that lie in cells, one element in each, from the left.
use Rattle.std.specs.Prelude.{ℕ, ◌+◌, ◌≤◌, ◌^◌, min, max, List, ◌++◌, length, take, drop, map, slice_index_or, ℤ, pos, negsuc}
use Rattle.vv_bits.specs.declared.nine.S9.{S9}
use Rattle.vv_bits.specs.declared.nine.S9.TheVariants.{Dash}
use Rattle.vv_bits.specs.Nine.{code, nine_of}
use Rattle.vv_types.specs.declared.cells.Place.{Place}

-- the element that a cell holds: its place among U X 0 1 Z W L H -
abbrev pub bit_of : ℤ → S9
bit_of (pos n) = nine_of n
bit_of (negsuc n) = Dash

abbrev pub cell_of : S9 → ℤ
cell_of x = pos (code x)

abbrev pub end_of : Place → ℕ
end_of place = place.first + place.size

-- all cells of a place can be reached, by numbers of 32 bits
abbrev pub LiesIn : List ℤ → Place → Type 0
LiesIn cells place = end_of place ≤ min (length cells) (2 ^ 32)

-- no cell lies in both places
abbrev pub Apart : Place → Place → Type 0
Apart p q = min (end_of p) (end_of q) ≤ max p.first q.first

abbrev pub cells_at : List ℤ → Place → List ℤ
cells_at cells place = take place.size (drop place.first cells)

-- the number in a place of one cell
abbrev pub number_at : List ℤ → Place → ℤ
number_at cells place = slice_index_or (cells_at cells place) 0 (pos 0)

abbrev pub vector_at : List ℤ → Place → List S9
vector_at cells place = map bit_of (cells_at cells place)

-- the cells with others in one place
abbrev pub with_cells : List ℤ → Place → List ℤ → List ℤ
with_cells old place zs = (take place.first old ++ zs) ++ drop (end_of place) old

abbrev pub with_vector : List ℤ → Place → List S9 → List ℤ
with_vector old place xs = with_cells old place (map cell_of xs)
