-- The operators of `numeric_std` that compare, combine, move and convert vectors. A vector is the list of its elements from the left.
use Rattle.std.specs.Prelude.{ℕ, zero, suc, ◌-◌, ◌%◌, ◌^◌, min, Bool, not, ◌&&◌, if◌then◌else◌, List, [], ◌∷◌, ◌++◌, length, take, drop, replicate, ℤ, pos, neg_ℤ, int_lt, Option, Some, None}
use Rattle.vv_bits.specs.declared.nine.S9.{S9}
use Rattle.vv_bits.specs.declared.nine.S9.TheVariants.{Zero}

-- ---- shifts and rotations

-- the elements move to the left, and '0' follows
abbrev pub shifted_left : List S9 → ℕ → List S9
shifted_left xs count = drop count xs ++ replicate (min count (length xs)) Zero

-- the elements move to the right, behind an element that is repeated
abbrev pub shifted_right : S9 → List S9 → ℕ → List S9
shifted_right x xs count = replicate (min count (length xs)) x ++ take (length xs - count) xs

-- the leftmost element, '0' where there is none
abbrev pub leftmost : List S9 → S9
leftmost [] = Zero
leftmost (x ∷ xs) = x

-- the elements that leave on the left come back on the right
abbrev pub rotated_left : List S9 → ℕ → List S9
rotated_left xs count = let k = count % length xs in drop k xs ++ take k xs

-- the elements that leave on the right come back on the left
abbrev pub rotated_right : List S9 → ℕ → List S9
rotated_right xs count = let k = length xs - count % length xs in drop k xs ++ take k xs

-- ---- lengths and conversions

-- '0' on the left, or the leftmost elements dropped
abbrev pub resized_unsigned : List S9 → ℕ → List S9
resized_unsigned xs n = replicate (n - length xs) Zero ++ drop (length xs - n) xs

-- the sign element repeated, or kept before the rightmost elements
abbrev pub resized_signed : List S9 → ℕ → List S9
resized_signed xs zero = []
resized_signed [] (suc n) = replicate (suc n) Zero
resized_signed (x ∷ xs) (suc n) = x ∷ replicate (n - length xs) x ++ drop (length xs - n) xs

-- the number, if it is one of INTEGER; 0 where there is a metavalue
abbrev pub integer_from : Bool → ℤ → Option ℤ
integer_from meta z =
    if meta then Some (pos 0)
    else if not (int_lt z (neg_ℤ (pos (2 ^ 31)))) && int_lt z (pos (2 ^ 31)) then Some z
    else None
