-- Reading a place while another one is being written.
use Rattle.std.proofs.Common.{◌≡◌, ℕ, ◌+◌, ◌<◌, ◌≤◌, List, length, map, get_or, ℤ, ap, sym, ◌∙◌, arith, Some, slice_get}
use Rattle.std.proofs.lemmas.List.{same_lists, length-map}
use Rattle.std.proofs.lemmas.Option.{get_or_from_slice_get}
use Rattle.vv_bits.specs.declared.nine.S9.{S9}
use Rattle.vv_types.specs.declared.cells.Place.{Place}
use Rattle.vv_vectors.specs.Vectors.{Apart, LiesIn, bit_of, cell_of, cells_at, vector_at, with_cells, with_vector}
use Rattle.vv_vectors.proofs.Written.{written}
use Rattle.vv_vectors.proofs.Places.{apart_element, get_or-cells_at, length-cells_at, length_with_cells, lies_written}

pub apart_cells_written : (old cells zs : List ℤ) (p to : Place) (k : ℕ) → cells ≡ written old to.first zs k → LiesIn old to → LiesIn old p →
    length zs ≡ to.size → Apart p to → k ≤ to.size → cells_at cells p ≡ cells_at old p
apart_cells_written old cells zs p to k e lies other size apart le =
    let now : LiesIn cells p = lies_written old cells zs to p k e (omega (arith, size, le)) le lies other in
    let len_new : length (cells_at cells p) ≡ p.size = length-cells_at cells p (omega (arith, now)) in
    let len_old : length (cells_at old p) ≡ p.size = length-cells_at old p (omega (arith, other)) in
    same_lists (cells_at cells p) (cells_at old p) (len_new ∙ sym len_old)
    (λ i d h.
    let lt : i < p.size = omega (arith, h, len_new) in
    get_or-cells_at cells p i d lt
    ∙ ap (λ ys. get_or ys (p.first + i) d) e
    ∙ apart_element old zs p to k i d lies size apart le lt
    ∙ sym (get_or-cells_at old p i d lt))

-- a vector that lies apart from the one that is being written
pub apart_vector_written : (old cells : List ℤ) (xs : List S9) (p to : Place) (k : ℕ) → cells ≡ written old to.first (map cell_of xs) k →
    LiesIn old to → LiesIn old p → length xs ≡ to.size → Apart p to → k ≤ to.size → vector_at cells p ≡ vector_at old p
apart_vector_written old cells xs p to k e lies other size apart le =
    ap (map bit_of) (apart_cells_written old cells (map cell_of xs) p to k e lies other (length-map xs cell_of ∙ size) apart le)

pub lies_while_written : (old cells : List ℤ) (xs : List S9) (p to : Place) (k : ℕ) → cells ≡ written old to.first (map cell_of xs) k →
    LiesIn old to → LiesIn old p → length xs ≡ to.size → k ≤ to.size → LiesIn cells p
lies_while_written old cells xs p to k e lies other size le =
    lies_written old cells (map cell_of xs) to p k e (omega (arith, length-map xs cell_of, size, le)) le lies other

pub read_apart : (old cells : List ℤ) (xs : List S9) (p to : Place) (k i : ℕ) (x d : S9) → cells ≡ written old to.first (map cell_of xs) k →
    LiesIn old to → LiesIn old p → length xs ≡ to.size → Apart p to → k ≤ to.size → slice_get (vector_at cells p) i ≡ Some x →
    get_or (vector_at old p) i d ≡ x
read_apart old cells xs p to k i x d e lies other size apart le is =
    ap (λ ys. get_or ys i d) (sym (apart_vector_written old cells xs p to k e lies other size apart le))
    ∙ get_or_from_slice_get (vector_at cells p) i x d is

-- as many cells as before
pub length_kept : (old new zs : List ℤ) (to : Place) → new ≡ with_cells old to zs → LiesIn old to → length zs ≡ to.size → length new ≡ length old
length_kept old new zs to e lies size = ap length e ∙ length_with_cells old zs to lies size

pub length_of_vector_kept : (old new : List ℤ) (to : Place) (xs : List S9) → new ≡ with_vector old to xs → LiesIn old to → length xs ≡ to.size →
    length new ≡ length old
length_of_vector_kept old new to xs e lies size = length_kept old new (map cell_of xs) to e lies (length-map xs cell_of ∙ size)
