-- Values of expressions: lists of bits, bit 0 first, and the operators on them (IEEE 1364-2005, clause 5).
use Rattle.std.specs.Prelude.{ℕ, zero, suc, ◌+◌, ◌*◌, ◌-◌, ◌^◌, ◌/◌, ◌%◌, ◌==◌, nat_lt, Bool, true, false, not, ◌&&◌, ◌||◌, if◌then◌else◌, List, [], ◌∷◌, ◌++◌, length, slice_index_or, slice_get, Option, Some, None}
use Rattle.vv_bits.specs.declared.four.V4.{V4}
use Rattle.vv_bits.specs.declared.four.V4.TheVariants.{Zero, One, X, Z}
use Rattle.vv_bits.specs.Four.{is4, known, and4_rule, or4_rule, xor4_rule, not4_rule}

-- ---- bit by bit, where z counts as x

abbrev pub bitwise : (V4 → V4 → V4) → List V4 → List V4 → List V4
bitwise rule [] ys = []
bitwise rule (x ∷ xs) [] = []
bitwise rule (x ∷ xs) (y ∷ ys) = rule x y ∷ bitwise rule xs ys

-- a & b
abbrev pub and_bits : List V4 → List V4 → List V4
and_bits xs ys = bitwise and4_rule xs ys

-- a | b
abbrev pub or_bits : List V4 → List V4 → List V4
or_bits xs ys = bitwise or4_rule xs ys

-- a ^ b
abbrev pub xor_bits : List V4 → List V4 → List V4
xor_bits xs ys = bitwise xor4_rule xs ys

-- ~ a
abbrev pub not_bits : List V4 → List V4
not_bits [] = []
not_bits (x ∷ xs) = not4_rule x ∷ not_bits xs

-- & a
abbrev pub and_all : List V4 → V4
and_all [] = One
and_all (x ∷ xs) = and4_rule x (and_all xs)

-- | a
abbrev pub or_all : List V4 → V4
or_all [] = Zero
or_all (x ∷ xs) = or4_rule x (or_all xs)

-- ^ a
abbrev pub xor_all : List V4 → V4
xor_all [] = Zero
xor_all (x ∷ xs) = xor4_rule x (xor_all xs)

-- ---- numbers

abbrev pub all_known : List V4 → Bool
all_known [] = true
all_known (x ∷ xs) = known x && all_known xs

abbrev pub digit_of : V4 → ℕ
digit_of Zero = 0
digit_of One = 1
digit_of X = 0
digit_of Z = 0

-- the number that known bits stand for
abbrev pub number : List V4 → ℕ
number [] = 0
number (x ∷ xs) = digit_of x + 2 * number xs

abbrev pub bit_of : ℕ → V4
bit_of n = if n == 0 then Zero else One

-- the lowest bits of a number, as many as the size says
abbrev pub bits_of : ℕ → ℕ → List V4
bits_of zero n = []
bits_of (suc size) n = bit_of (n % 2) ∷ bits_of size (n / 2)

-- as many x as the size says
abbrev pub unknown : ℕ → List V4
unknown zero = []
unknown (suc size) = X ∷ unknown size

abbrev pub both_known : List V4 → List V4 → Bool
both_known xs ys = all_known xs && all_known ys

-- a number cut to the size of the operands, or x in each bit where a bit of an operand is x or z
abbrev pub wrapped : List V4 → List V4 → ℕ → List V4
wrapped xs ys n = if both_known xs ys then bits_of (length xs) n else unknown (length xs)

-- a + b
abbrev pub add : List V4 → List V4 → List V4
add xs ys = wrapped xs ys (number xs + number ys)

-- a - b
abbrev pub subtract : List V4 → List V4 → List V4
subtract xs ys = wrapped xs ys ((number xs + 2 ^ length xs) - number ys)

-- a * b
abbrev pub multiply : List V4 → List V4 → List V4
multiply xs ys = wrapped xs ys (number xs * number ys)

-- ---- comparisons

abbrev pub of_bool : Bool → V4
of_bool true = One
of_bool false = Zero

-- a test of numbers, or x where a bit is x or z
abbrev pub compared : List V4 → List V4 → Bool → V4
compared xs ys holds = if both_known xs ys then of_bool holds else X

-- a < b, a <= b, a > b, a >= b
abbrev pub less : List V4 → List V4 → V4
less xs ys = compared xs ys (nat_lt (number xs) (number ys))

abbrev pub less_or_equal : List V4 → List V4 → V4
less_or_equal xs ys = compared xs ys (not (nat_lt (number ys) (number xs)))

abbrev pub greater : List V4 → List V4 → V4
greater xs ys = less ys xs

abbrev pub greater_or_equal : List V4 → List V4 → V4
greater_or_equal xs ys = less_or_equal ys xs

-- one of two bits is 0 and the other 1
abbrev pub opposed : V4 → V4 → Bool
opposed x y = (known x && known y) && not (is4 x y)

abbrev pub some_opposed : List V4 → List V4 → Bool
some_opposed [] ys = false
some_opposed (x ∷ xs) [] = false
some_opposed (x ∷ xs) (y ∷ ys) = opposed x y || some_opposed xs ys

-- a == b
abbrev pub equal : List V4 → List V4 → V4
equal xs ys = if some_opposed xs ys then Zero else if both_known xs ys then One else X

-- a != b
abbrev pub unequal : List V4 → List V4 → V4
unequal xs ys = not4_rule (equal xs ys)

-- the same bits, x and z too: the labels of case compare so
abbrev pub same_bits : List V4 → List V4 → Bool
same_bits [] [] = true
same_bits [] (y ∷ ys) = false
same_bits (x ∷ xs) [] = false
same_bits (x ∷ xs) (y ∷ ys) = is4 x y && same_bits xs ys

-- a === b
abbrev pub case_equal : List V4 → List V4 → V4
case_equal xs ys = of_bool (same_bits xs ys)

-- a !== b
abbrev pub case_unequal : List V4 → List V4 → V4
case_unequal xs ys = of_bool (not (same_bits xs ys))

-- ---- conditions

-- `if` takes only 1 as true
abbrev pub is_true : V4 → Bool
is_true c = is4 c One

-- 0 where both are 0, 1 where both are 1, else x
abbrev pub merged : V4 → V4 → V4
merged x y = if known x && is4 x y then x else X

-- c ? a : b
abbrev pub choose : V4 → List V4 → List V4 → List V4
choose One xs ys = xs
choose Zero xs ys = ys
choose X xs ys = bitwise merged xs ys
choose Z xs ys = bitwise merged xs ys

-- ---- parts of vectors

-- the bits from place i on, as many as the size says; x where there is none
abbrev pub bits_from : List V4 → ℕ → ℕ → List V4
bits_from xs i zero = []
bits_from xs i (suc size) = slice_index_or xs i X ∷ bits_from xs (suc i) size

-- a[index +: size]
abbrev pub part : List V4 → List V4 → ℕ → List V4
part xs index size = if all_known index then bits_from xs (number index) size else unknown size

-- the writes to the places of a vector from place i on; none where there is no place
abbrev pub write_at : Option ℕ → V4 → List (ℕ × V4) → List (ℕ × V4)
write_at None v ws = ws
write_at (Some b) v ws = (b, v) ∷ ws

abbrev pub writes_from : List ℕ → ℕ → List V4 → List (ℕ × V4)
writes_from vector i [] = []
writes_from vector i (v ∷ vs) = write_at (slice_get vector i) v (writes_from vector (suc i) vs)

-- a[index +: ..] = v
abbrev pub part_writes : List ℕ → List V4 → List V4 → List (ℕ × V4)
part_writes vector index vs = if all_known index then writes_from vector (number index) vs else []

-- {a, b}
abbrev pub joined : List V4 → List V4 → List V4
joined xs ys = ys ++ xs

-- {count{a}}
abbrev pub repeated : ℕ → List V4 → List V4
repeated zero xs = []
repeated (suc count) xs = xs ++ repeated count xs
