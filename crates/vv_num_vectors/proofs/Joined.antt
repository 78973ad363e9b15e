-- Vectors that are written in two parts.
use Rattle.std.proofs.Common.{◌≡◌, ℕ, zero, suc, ◌+◌, ◌≤◌, List, ◌++◌, length, map, take, drop, replicate, ℤ, ap, sym, ◌∙◌, arith, append_assoc, length-append, FitsSigned, w32}
use Rattle.std.proofs.lemmas.List.{drop-drop, drop_at, length-map, length-replicate, length-take, map-append, take_at}
use Rattle.std.specs.List.{AllByRecursion}
use Rattle.vv_bits.specs.declared.nine.S9.{S9}
use Rattle.vv_types.specs.declared.cells.Place.{Place}
use Rattle.vv_types.specs.Number.{IsBinary, residue, signed_number_of, signed_vector_of, vector_of}
use Rattle.vv_types.proofs.Numbers.{all_binary_vector, length-vector_of, vector_of_number}
use Rattle.vv_types.proofs.Signed.{reach_of_fit, residue_of_vector, signed_number_extended, signed_number_of_vector}
use Rattle.vv_vectors.specs.Vectors.{LiesIn, cell_of, with_vector}
use Rattle.vv_num_vectors.specs.Rows.{leftmost}

joined_lists : (old zs ws : List ℤ) (f m n : ℕ) → f ≤ length old → length zs ≡ m →
    (take (f + m) ((take f old ++ zs) ++ drop (f + m) old) ++ ws) ++ drop ((f + m) + n) ((take f old ++ zs) ++ drop (f + m) old)
    ≡ (take f old ++ (zs ++ ws)) ++ drop (f + (m + n)) old
joined_lists old zs ws f m n le e =
    let front : length (take f old ++ zs) ≡ f + m = omega (arith, length-append (take f old) zs, length-take f old, le, e) in
    let kept : take (f + m) ((take f old ++ zs) ++ drop (f + m) old) ≡ take f old ++ zs = take_at (take f old ++ zs) (drop (f + m) old) (f + m) front in
    let behind : drop ((f + m) + n) ((take f old ++ zs) ++ drop (f + m) old) ≡ drop ((f + m) + n) old
    = sym (drop-drop n (f + m) ((take f old ++ zs) ++ drop (f + m) old))
    ∙ ap (drop n) (drop_at (take f old ++ zs) (drop (f + m) old) (f + m) front)
    ∙ drop-drop n (f + m) old in
    let end : (f + m) + n ≡ f + (m + n) = omega arith in
    (λ i. (kept i ++ ws) ++ behind i)
    ∙ (λ i. append_assoc (take f old) zs ws i ++ drop (end i) old)

-- one part, and the other directly behind it
pub joined : (old : List ℤ) (to front back : Place) (xs ys : List S9) → LiesIn old to → length xs ≡ front.size →
    front.first ≡ to.first → back.first ≡ to.first + front.size → to.size ≡ front.size + back.size →
    with_vector (with_vector old front xs) back ys ≡ with_vector old to (xs ++ ys)
joined old to front back xs ys lies size at behind whole =
    let zs : List ℤ = map cell_of xs in
    let ws : List ℤ = map cell_of ys in
    (λ i. (take (behind i) ((take (at i) old ++ zs) ++ drop (at i + front.size) old) ++ ws) ++ drop (behind i + back.size) ((take (at i) old ++ zs) ++ drop (at i + front.size) old))
    ∙ joined_lists old (map cell_of xs) (map cell_of ys) to.first front.size back.size (omega (arith, lies)) (length-map xs cell_of ∙ size)
    ∙ (λ i. (take to.first old ++ sym (map-append cell_of xs ys) i) ++ drop (to.first + sym whole i) old)

binary_behind : (m : ℕ) (x : S9) (xs : List S9) → IsBinary x → AllByRecursion IsBinary xs → AllByRecursion IsBinary (replicate m x ++ xs)
binary_behind zero x xs h all = all
binary_behind (suc m) x xs h all = (h, binary_behind m x xs h all)

-- a number in more than 32 digits
pub long_number : (m n : ℕ) (z : ℤ) → FitsSigned w32 z → n ≡ m + 32 →
    replicate m (leftmost (signed_vector_of 32 z)) ++ signed_vector_of 32 z ≡ signed_vector_of n z
long_number m n z fits e =
    let v : List S9 = signed_vector_of 32 z in
    let x : S9 = leftmost (signed_vector_of 32 z) in
    let ys : List S9 = replicate m (leftmost (signed_vector_of 32 z)) ++ signed_vector_of 32 z in
    let all : AllByRecursion IsBinary (signed_vector_of 32 z) = all_binary_vector 32 (residue 32 z) in
    let size : length (replicate m (leftmost (signed_vector_of 32 z)) ++ signed_vector_of 32 z) ≡ n
    = length-append (replicate m (leftmost (signed_vector_of 32 z))) (signed_vector_of 32 z)
    ∙ omega (arith, length-replicate m (leftmost (signed_vector_of 32 z)), length-vector_of 32 (residue 32 z), e) in
    let worth : signed_number_of (replicate m (leftmost (signed_vector_of 32 z)) ++ signed_vector_of 32 z) ≡ z
    = signed_number_extended m (leftmost (signed_vector_of 32 z)) (vector_of 31 (residue 32 z)) ∙ signed_number_of_vector 31 z (reach_of_fit z fits) in
    sym (vector_of_number ys (binary_behind m x v all.0 all))
    ∙ ap (vector_of (length ys)) (sym (residue_of_vector ys))
    ∙ ap (λ w. vector_of (length ys) (residue (length ys) w)) worth
    ∙ ap (λ k. vector_of k (residue k z)) size
