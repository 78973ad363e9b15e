-- Vectors in places.
use Rattle.std.proofs.Common.{◌≡◌, ℕ, zero, suc, ◌+◌, ◌-◌, ◌/◌, ◌%◌, ◌^◌, ◌<◌, ◌≤◌, List, [], ◌∷◌, ◌++◌, length, map, take, drop, get_or, set, refl, ap, sym, ◌∙◌, arith, append_assoc, ◌⊎◌, inl, inr, length-drop, ℤ, pos}
use Rattle.std.proofs.lemmas.List.{get_or-map, get_or-take, get_or-drop, length-take, same_lists}
use Rattle.std.proofs.Math.Seq.{drop-cons, drop-append_seam, take-append_seam}
use Rattle.std.proofs.lemmas.List.{length-map}
use Rattle.vv_bits.specs.declared.nine.S9.{S9}
use Rattle.vv_bits.specs.declared.nine.S9.TheVariants.{U, X, Zero, One, Z, W, L, H, Dash}
use Rattle.vv_types.specs.declared.cells.Place.{Place}
use Rattle.vv_types.specs.Number.{digit, vector_of}
use Rattle.vv_vectors.specs.Vectors.{Apart, LiesIn, bit_of, cell_of, end_of, cells_at, vector_at, with_cells, with_vector}
use Rattle.vv_vectors.proofs.Written.{written, written_start, written_all, written_more, length_written, written_before, written_behind}

pub bit_of_cell : (x : S9) → bit_of (cell_of x) ≡ x
bit_of_cell U = refl
bit_of_cell X = refl
bit_of_cell Zero = refl
bit_of_cell One = refl
bit_of_cell Z = refl
bit_of_cell W = refl
bit_of_cell L = refl
bit_of_cell H = refl
bit_of_cell Dash = refl

pub bits_of_cells : (xs : List S9) → map bit_of (map cell_of xs) ≡ xs
bits_of_cells [] = refl
bits_of_cells (x ∷ xs) = λ i. bit_of_cell x i ∷ bits_of_cells xs i

-- ---- elements of a place

pub length-cells_at : (cells : List ℤ) (p : Place) → end_of p ≤ length cells → length (cells_at cells p) ≡ p.size
length-cells_at cells p h = omega (arith, length-take p.size (drop p.first cells), length-drop p.first cells, h)

pub length-vector_at : (cells : List ℤ) (p : Place) → end_of p ≤ length cells → length (vector_at cells p) ≡ p.size
length-vector_at cells p h = length-map (cells_at cells p) bit_of ∙ length-cells_at cells p h

pub get_or-cells_at : (cells : List ℤ) (p : Place) (k : ℕ) (d : ℤ) → k < p.size → get_or (cells_at cells p) k d ≡ get_or cells (p.first + k) d
get_or-cells_at cells p k d h = get_or-take p.size (drop p.first cells) k d h ∙ get_or-drop p.first cells k d

pub get_or-vector_at : (cells : List ℤ) (p : Place) (k : ℕ) (d : S9) → end_of p ≤ length cells → k < p.size →
    get_or (vector_at cells p) k d ≡ bit_of (get_or cells (p.first + k) (pos 0))
get_or-vector_at cells p k d le h =
    get_or-map bit_of (cells_at cells p) k (pos 0) d (omega (arith, length-cells_at cells p le, h))
    ∙ ap bit_of (get_or-cells_at cells p k (pos 0) h)

pub get_or-vector_of : (size n k : ℕ) (d : S9) → k < size → get_or (vector_of size n) k d ≡ digit (n / 2 ^ (size - 1 - k) % 2)
get_or-vector_of zero n k d h = absurd (omega (arith, h))
get_or-vector_of (suc s) n zero d h = let e : suc s - 1 - 0 ≡ s = omega arith in rw e refl
get_or-vector_of (suc s) n (suc k) d h =
    get_or-vector_of s n k d (omega (arith, h)) ∙ ap (λ j. digit (n / 2 ^ j % 2)) (omega (arith, h))

pub one_cell : (cells : List ℤ) (p : Place) → end_of p ≤ length cells → p.size ≡ 1 → cells_at cells p ≡ get_or cells p.first (pos 0) ∷ []
one_cell cells p h one =
    ap (λ n. take n (drop p.first cells)) one ∙ ap (take 1) (drop-cons cells p.first (pos 0) (omega (arith, h, one)))

-- ---- writing

pub one_written : (old : List ℤ) (to : Place) (v : ℤ) → end_of to ≤ length old → to.size ≡ 1 →
    set old to.first v ≡ with_cells old to (v ∷ [])
one_written old to v fits one =
    let zs : List ℤ = v ∷ [] in
    let last : to.first + 1 ≡ end_of to = omega (arith, one) in
    ap (λ ys. set ys to.first v) (sym (written_start old to.first (v ∷ [])))
    ∙ ap (λ n. set (written old to.first (v ∷ []) 0) n v) (omega arith)
    ∙ written_more old to.first (v ∷ []) 0 v (pos 0) (omega arith) (omega (arith, fits, one)) refl
    ∙ ap (λ n. (take to.first old ++ (v ∷ [])) ++ drop n old) last

-- cells of which k in one place are written lie where they did
pub lies_written : (old cells zs : List ℤ) (to p : Place) (k : ℕ) → cells ≡ written old to.first zs k → k ≤ length zs → k ≤ to.size →
    LiesIn old to → LiesIn old p → LiesIn cells p
lies_written old cells zs to p k e hz hk lies other =
    let same : length cells ≡ length old = ap length e ∙ length_written old to.first zs k hz (omega (arith, lies, hk)) in
    omega (arith, same, other)

-- one more element of a vector
pub vector_more : (old cells new : List ℤ) (to : Place) (xs : List S9) (k : ℕ) (value d : S9) → LiesIn old to → length xs ≡ to.size → k < to.size →
    get_or xs k d ≡ value → cells ≡ written old to.first (map cell_of xs) k → new ≡ set cells (to.first + k) (cell_of value) →
    new ≡ written old to.first (map cell_of xs) (k + 1)
vector_more old cells new to xs k value d lies size lt is before now =
    let within : k < length xs = omega (arith, size, lt) in
    now ∙ ap (λ ys. set ys (to.first + k) (cell_of value)) before
    ∙ written_more old to.first (map cell_of xs) k (cell_of value) (pos 0) (omega (arith, length-map xs cell_of, within))
    (omega (arith, length-map xs cell_of, size, lies))
    (get_or-map cell_of xs k d (pos 0) within ∙ ap cell_of is)

-- all elements of a vector
pub vector_all : (old cells : List ℤ) (to : Place) (xs : List S9) (k : ℕ) → length xs ≡ to.size → k ≡ to.size →
    cells ≡ written old to.first (map cell_of xs) k → cells ≡ with_vector old to xs
vector_all old cells to xs k size all before =
    before ∙ written_all old to.first k (map cell_of xs) (all ∙ sym size ∙ sym (length-map xs cell_of))
    ∙ ap (λ n. (take to.first old ++ map cell_of xs) ++ drop (to.first + n) old) all

-- ---- what a written place and the others hold

pub cells_written : (old zs : List ℤ) (to : Place) → end_of to ≤ length old → length zs ≡ to.size → cells_at (with_cells old to zs) to ≡ zs
cells_written old zs to fits size =
    let front : length (take to.first old) ≡ to.first = omega (arith, length-take to.first old, fits) in
    ap (λ ys. take to.size (drop to.first ys)) (append_assoc (take to.first old) zs (drop (end_of to) old))
    ∙ ap (λ n. take to.size (drop n (take to.first old ++ (zs ++ drop (end_of to) old)))) (sym front)
    ∙ ap (take to.size) (drop-append_seam (take to.first old) (zs ++ drop (end_of to) old))
    ∙ ap (λ n. take n (zs ++ drop (end_of to) old)) (sym size)
    ∙ take-append_seam zs (drop (end_of to) old)

pub vector_written : (old : List ℤ) (to : Place) (xs : List S9) → LiesIn old to → length xs ≡ to.size → vector_at (with_vector old to xs) to ≡ xs
vector_written old to xs lies size =
    ap (map bit_of) (cells_written old (map cell_of xs) to (omega (arith, lies)) (length-map xs cell_of ∙ size)) ∙ bits_of_cells xs

pub length_with_cells : (old zs : List ℤ) (to : Place) → LiesIn old to → length zs ≡ to.size → length (with_cells old to zs) ≡ length old
length_with_cells old zs to lies size =
    let fits : to.first + to.size ≤ length old = omega (arith, lies) in
    sym (ap length (written_all old to.first to.size zs (sym size))) ∙ length_written old to.first zs to.size (omega (arith, size)) fits

pub lies_with_cells : (old zs : List ℤ) (to p : Place) → LiesIn old to → length zs ≡ to.size → LiesIn old p → LiesIn (with_cells old to zs) p
lies_with_cells old zs to p lies size other = omega (arith, length_with_cells old zs to lies size, other)

-- an element that isn't in the place that is being written
pub other_element : (old zs : List ℤ) (to : Place) (k i : ℕ) (d : ℤ) → LiesIn old to → length zs ≡ to.size → k ≤ to.size → (i < to.first) ⊎ (end_of to ≤ i) →
    get_or (written old to.first zs k) i d ≡ get_or old i d
other_element old zs to k i d lies size le (inl lt) = written_before old to.first zs k i d lt (omega (arith, lies))
other_element old zs to k i d lies size le (inr ge) =
    written_behind old to.first zs k i d (omega (arith, ge, le)) (omega (arith, size, le)) (omega (arith, lies))

before_or_behind : (p q : Place) (k : ℕ) → Apart p q → k < p.size → (p.first + k < q.first) ⊎ (end_of q ≤ p.first + k)
before_or_behind p q k apart lt = grind (arith, apart, lt)

pub apart_element : (old zs : List ℤ) (p to : Place) (k i : ℕ) (d : ℤ) → LiesIn old to → length zs ≡ to.size → Apart p to → k ≤ to.size → i < p.size →
    get_or (written old to.first zs k) (p.first + i) d ≡ get_or old (p.first + i) d
apart_element old zs p to k i d lies size apart le lt = other_element old zs to k (p.first + i) d lies size le (before_or_behind p to i apart lt)

pub apart_cells : (old zs : List ℤ) (p to : Place) → LiesIn old to → LiesIn old p → length zs ≡ to.size → Apart p to →
    cells_at (with_cells old to zs) p ≡ cells_at old p
apart_cells old zs p to lies other size apart =
    let new : List ℤ = with_cells old to zs in
    let same : length new ≡ length old = length_with_cells old zs to lies size in
    let len_new : length (cells_at (with_cells old to zs) p) ≡ p.size = length-cells_at new p (omega (arith, other, same)) in
    let len_old : length (cells_at old p) ≡ p.size = length-cells_at old p (omega (arith, other)) in
    let whole : written old to.first zs to.size ≡ with_cells old to zs = written_all old to.first to.size zs (sym size) in
    same_lists (cells_at new p) (cells_at old p) (len_new ∙ sym len_old)
    (λ i d h.
    let lt : i < p.size = omega (arith, h, len_new) in
    get_or-cells_at new p i d lt
    ∙ ap (λ ys. get_or ys (p.first + i) d) (sym whole)
    ∙ apart_element old zs p to to.size i d lies size apart (omega arith) lt
    ∙ sym (get_or-cells_at old p i d lt))

pub apart_vector : (old : List ℤ) (p to : Place) (xs : List S9) → LiesIn old to → LiesIn old p → length xs ≡ to.size → Apart p to →
    vector_at (with_vector old to xs) p ≡ vector_at old p
apart_vector old p to xs lies other size apart =
    ap (map bit_of) (apart_cells old (map cell_of xs) p to lies other (length-map xs cell_of ∙ size) apart)
