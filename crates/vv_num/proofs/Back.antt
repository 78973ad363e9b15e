-- What a row puts into a place is read back as its value.
use Rattle.std.proofs.Common.{◌≡◌, ℕ, ◌+◌, ◌-◌, Bool, true, false, not, List, [], ◌∷◌, ◌++◌, length, map, take, drop, get_or, ℤ, pos, Option, Some, None, refl, ap, ◌∙◌, arith, length-append, length-drop}
use Rattle.std.proofs.lemmas.List.{length-map, length-take}
use Rattle.std.specs.Ordering.{int_eq}
use Rattle.vv_bits.specs.declared.nine.S9.{S9}
use Rattle.vv_types.specs.declared.cells.Place.{Place}
use Rattle.vv_types.specs.declared.value.Value.{roll-Value}
use Rattle.vv_types.specs.declared.value.Value.TheOpen as v
use Rattle.vv_vectors.specs.Vectors.{LiesIn, cell_of, cells_at, end_of, number_at, vector_at, with_cells, with_vector}
use Rattle.vv_vectors.proofs.Places.{cells_written, vector_written}
use Rattle.vv_num_arithmetic.specs.declared.operands.VectorKind.{VectorKind}
use Rattle.vv_num_vectors.specs.Comparison.{boolean_cell}
use Rattle.vv_num_cells.specs.declared.table.Row.{Row}
use Rattle.vv_num_cells.specs.declared.table.Row.TheVariants.{Arithmetic, Absolute, Negate, Compare, Logic, Not, ShiftLeft, ShiftRight, RotateLeft, RotateRight, Resize, ToInteger, ToVector}
use Rattle.vv_num_cells.specs.Rows.{Given, Vector, Truth, Number, Range, has_value, integer_given, number, row_gives, with_given}
use Rattle.vv_num.specs.Results.{FitsResult, outcome_back}
use Rattle.vv_num.specs.Layout.{IsLayout}
use Rattle.vv_num.specs.declared.operands.Layout.{Layout}
use Rattle.vv_num.specs.Values.{outcome_for, outcome_of, size_given, vector}
use Rattle.vv_num.specs.declared.values.Outcome.TheVariants as o

pub fits_result : (row : Row) (a b : ℕ) (n : ℤ) (to : ℕ) → to ≡ size_given row a b n → FitsResult row to
fits_result (Compare relation kind operands) a b n to e = e
fits_result (ToInteger kind) a b n to e = e
fits_result (Arithmetic operator kind operands) a b n to e = tt
fits_result Absolute a b n to e = tt
fits_result Negate a b n to e = tt
fits_result (Logic gate) a b n to e = tt
fits_result Not a b n to e = tt
fits_result ShiftLeft a b n to e = tt
fits_result (ShiftRight kind) a b n to e = tt
fits_result RotateLeft a b n to e = tt
fits_result RotateRight a b n to e = tt
fits_result (Resize kind) a b n to e = tt
fits_result ToVector a b n to e = tt

read_truth : (b : Bool) → not (int_eq (boolean_cell b) (pos 0)) ≡ b
read_truth true = refl
read_truth false = refl

module _ (old new : List ℤ) (to : Place) (lies : LiesIn old to) (same : length new ≡ length old) where
  -- as many cells were written as the place has
  as_many : (zs : List ℤ) → new ≡ with_cells old to zs → length zs ≡ to.size
  as_many zs e =
      let whole : length new ≡ length (take to.first old ++ zs) + length (drop (end_of to) old)
      = ap length e ∙ length-append (take to.first old ++ zs) (drop (end_of to) old) in
      omega (arith, whole, length-append (take to.first old) zs, length-take to.first old, length-drop (end_of to) old, lies, same)

  vector_back : (xs : List S9) → new ≡ with_vector old to xs → vector_at new to ≡ xs
  vector_back xs e = ap (λ ys. vector_at ys to) e ∙ vector_written old to xs lies (omega (arith, as_many (map cell_of xs) e, length-map xs cell_of))

  cell_back : (z : ℤ) → new ≡ with_cells old to (z ∷ []) → number_at new to ≡ z
  cell_back z e =
      ap (λ ys. number_at ys to) e
      ∙ ap (λ zs. get_or zs 0 (pos 0)) (cells_written old (z ∷ []) to (omega (arith, lies)) (as_many (z ∷ []) e))

  vectors_back : (xs : List S9) → new ≡ with_vector old to xs → o.Value (vector (vector_at new to)) ≡ o.Value (vector xs)
  vectors_back xs e = ap (λ ys. o.Value (vector ys)) (vector_back xs e)

  integer_back : (kind : VectorKind) (z : Option ℤ) → new ≡ with_given old to (integer_given z) →
      outcome_back (ToInteger kind) (has_value (integer_given z)) new to ≡ outcome_of (integer_given z)
  integer_back kind None e = refl
  integer_back kind (Some z) e = ap (λ y. o.Value (roll-Value (v.Int y))) (cell_back z e)

  pub given_back : (row : Row) (size : ℕ) (a b : List ℤ) → new ≡ with_given old to (row_gives row size a b) →
      outcome_back row (has_value (row_gives row size a b)) new to ≡ outcome_of (row_gives row size a b)
  given_back (Compare relation kind operands) size a b e =
      ap (λ z. o.Value (roll-Value (v.Bool (not (int_eq z (pos 0)))))) (cell_back _ e) ∙ ap (λ t. o.Value (roll-Value (v.Bool t))) (read_truth _)
  given_back (ToInteger kind) size a b e = integer_back kind _ e
  given_back (Arithmetic operator kind operands) size a b e = vectors_back _ e
  given_back Absolute size a b e = vectors_back _ e
  given_back Negate size a b e = vectors_back _ e
  given_back (Logic gate) size a b e = vectors_back _ e
  given_back Not size a b e = vectors_back _ e
  given_back ShiftLeft size a b e = vectors_back _ e
  given_back (ShiftRight kind) size a b e = vectors_back _ e
  given_back RotateLeft size a b e = vectors_back _ e
  given_back RotateRight size a b e = vectors_back _ e
  given_back (Resize kind) size a b e = vectors_back _ e
  given_back ToVector size a b e = vectors_back _ e

-- the operands and the result as they were laid out
pub outcome_is : (f_row row : Row) (za zb : List ℤ) (size_a size_b to_size : ℕ) (n : ℤ) (places : Layout) (cells new : List ℤ) (inside : Bool) →
    row ≡ f_row → size_a ≡ length za → size_b ≡ length zb → n ≡ number zb → to_size ≡ size_given row size_a size_b n →
    IsLayout places size_a size_b to_size → cells_at cells places.a ≡ za → cells_at cells places.b ≡ zb →
    length cells ≡ places.to.first + places.to.size →
    new ≡ with_given cells places.to (row_gives f_row places.to.size (cells_at cells places.a) (cells_at cells places.b)) →
    inside ≡ has_value (row_gives f_row places.to.size (cells_at cells places.a) (cells_at cells places.b)) → length new ≡ length cells →
    outcome_back row inside new places.to ≡ outcome_for f_row za zb
outcome_is f_row row za zb size_a size_b to_size n places cells new inside same left_size right_size right_number sized laid left right count value answer kept =
    let to : Place = places.to in
    let a : List ℤ = cells_at cells places.a in
    let b : List ℤ = cells_at cells places.b in
    let size : to.size ≡ size_given f_row (length za) (length zb) (number zb) =
    laid.size_to ∙ sized ∙ (λ i. size_given (same i) (left_size i) (right_size i) (right_number i)) in
    let lies : LiesIn cells to = omega (arith, count, laid.first_to, laid.size_to, laid.few) in
    (λ i. outcome_back (same i) (answer i) new to)
    ∙ given_back cells new to lies kept f_row to.size a b value
    ∙ (λ i. outcome_of (row_gives f_row (size i) (left i) (right i)))
