-- Vectors as numbers, the leftmost element the most significant.
use Rattle.std.specs.Prelude.{ℕ, zero, suc, ◌+◌, ◌-◌, ◌*◌, ◌/◌, ◌%◌, ◌^◌, Bool, true, false, List, [], ◌∷◌, length, ℤ, pos, negsuc, ◌-ℤ◌}
use Rattle.std.specs.List.{list_any}
use Rattle.vv_bits.specs.declared.nine.S9.{S9}
use Rattle.vv_bits.specs.declared.nine.S9.TheVariants.{Zero, One, L, H}

-- what an element counts: 1 and H count 1
abbrev pub bit : S9 → ℕ
bit One = 1
bit H = 1
bit _ = 0

-- a metavalue is an element other than 0, 1, L and H
abbrev pub is_meta : S9 → Bool
is_meta Zero = false
is_meta One = false
is_meta L = false
is_meta H = false
is_meta _ = true

abbrev pub has_meta : List S9 → Bool
has_meta xs = list_any is_meta xs

abbrev pub IsBinary : S9 → Type 0
IsBinary Zero = Unit {0}
IsBinary One = Unit {0}
IsBinary _ = ⊥

-- the number of a vector
abbrev pub number_of : List S9 → ℕ
number_of [] = 0
number_of (x ∷ xs) = bit x * 2 ^ length xs + number_of xs

-- the number of a signed vector, where the leftmost element counts below 0
abbrev pub signed_number_of : List S9 → ℤ
signed_number_of [] = pos 0
signed_number_of (x ∷ xs) = pos (number_of xs) -ℤ pos (bit x * 2 ^ length xs)

-- the element that is written for a digit
abbrev pub digit : ℕ → S9
digit zero = Zero
digit (suc _) = One

-- the last k binary digits of a number
abbrev pub vector_of : ℕ → ℕ → List S9
vector_of zero n = []
vector_of (suc k) n = digit (n / 2 ^ k % 2) ∷ vector_of k n

-- what is left of a number modulo 2 to the k
abbrev pub residue : ℕ → ℤ → ℕ
residue k (pos n) = n % 2 ^ k
residue k (negsuc n) = 2 ^ k - 1 - n % 2 ^ k

-- a number in two's complement of k digits
abbrev pub signed_vector_of : ℕ → ℤ → List S9
signed_vector_of k z = vector_of k (residue k z)
