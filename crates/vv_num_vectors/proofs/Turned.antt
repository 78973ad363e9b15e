-- Rotations of vectors that have no elements.
use Rattle.std.proofs.Common.{◌≡◌, ℕ, zero, suc, ◌+◌, ◌-◌, ◌%◌, List, [], ◌++◌, take, drop, ℤ, refl, ap, sym, ◌∙◌}
use Rattle.vv_bits.specs.declared.nine.S9.{S9}
use Rattle.vv_types.specs.declared.cells.Place.{Place}
use Rattle.vv_vectors.specs.Vectors.{with_vector}
use Rattle.vv_vectors.proofs.Written.{written_start}
use Rattle.vv_num_vectors.specs.Rows.{rotated_left, rotated_right}

drop_none : (n : ℕ) → drop {A = S9} n [] ≡ []
drop_none zero = refl
drop_none (suc n) = refl

take_none : (n : ℕ) → take {A = S9} n [] ≡ []
take_none zero = refl
take_none (suc n) = refl

parts_none : (n : ℕ) → drop {A = S9} n [] ++ take n [] ≡ []
parts_none n = λ i. drop_none n i ++ take_none n i

pub left_none : (count : ℕ) → rotated_left [] count ≡ []
left_none count = parts_none (count % 0)

pub right_none : (count : ℕ) → rotated_right [] count ≡ []
right_none count = parts_none (0 - count % 0)

-- a place of no cells
pub nothing_put : (old : List ℤ) (to : Place) → to.size ≡ 0 → old ≡ with_vector old to []
nothing_put old to none = sym (ap (λ n. (take to.first old ++ []) ++ drop (to.first + n) old) none ∙ written_start old to.first [])
