-- Laws of lengths and rotations.
use Rattle.std.proofs.Common.{◌≡◌, ℕ, zero, suc, ◌-◌, ◌%◌, ◌≤◌, List, [], ◌∷◌, ◌++◌, length, take, drop, replicate, refl, ap, sym, ◌∙◌, arith, length-append, length-drop}
use Rattle.std.proofs.lemmas.Int.{ints}
use Rattle.std.proofs.lemmas.List.{append-nil, drop_at, length-take, take-append-drop, take_at}
use Rattle.vv_bits.specs.declared.nine.S9.{S9}
use Rattle.vv_bits.specs.declared.nine.S9.TheVariants.{Zero}
use Rattle.vv_types.specs.Number.{number_of, signed_number_of}
use Rattle.vv_types.proofs.Signed.{number_of_zeros, signed_number_of_repeated}
use Rattle.vv_num_vectors.specs.Rows.{resized_signed, resized_unsigned, rotated_left, rotated_right}

pub unsigned_kept : (xs : List S9) (n : ℕ) → length xs ≤ n → number_of (resized_unsigned xs n) ≡ number_of xs
unsigned_kept xs n h =
    let none : length xs - n ≡ 0 = omega arith in
    ap (λ k. number_of (replicate (n - length xs) Zero ++ drop k xs)) none ∙ number_of_zeros (n - length xs) xs

repeated : (m : ℕ) (x : S9) (xs : List S9) → signed_number_of (x ∷ replicate m x ++ xs) ≡ signed_number_of (x ∷ xs)
repeated zero x xs = refl
repeated (suc m) x xs = signed_number_of_repeated x (replicate m x ++ xs) ∙ repeated m x xs

pub signed_kept : (xs : List S9) (n : ℕ) → length xs ≤ n → signed_number_of (resized_signed xs n) ≡ signed_number_of xs
signed_kept [] zero h = refl
signed_kept (x ∷ xs) zero h = absurd (omega arith)
signed_kept [] (suc n) h =
    let none : number_of (replicate n Zero) ≡ 0 = ap number_of (sym (append-nil (replicate n Zero))) ∙ number_of_zeros n [] in
    omega (arith, ints, none)
signed_kept (x ∷ xs) (suc n) h =
    let none : length xs - n ≡ 0 = omega arith in
    ap (λ k. signed_number_of (x ∷ replicate (n - length xs) x ++ drop k xs)) none ∙ repeated (n - length xs) x xs

turned_back : (xs ys : List S9) (k n : ℕ) → ys ≡ drop k xs ++ take k xs → n ≡ length xs - k → drop n ys ++ take n ys ≡ xs
turned_back xs ys k n is e =
    let front : length (drop k xs) ≡ n = length-drop k xs ∙ sym e in
    (λ i. drop n (is i) ++ take n (is i))
    ∙ (λ i. drop_at (drop k xs) (take k xs) n front i ++ take_at (drop k xs) (take k xs) n front i)
    ∙ take-append-drop k xs

pub rotated_back : (xs : List S9) (count : ℕ) → rotated_right (rotated_left xs count) count ≡ xs
rotated_back xs count =
    let k : ℕ = count % length xs in
    let ys : List S9 = drop (count % length xs) xs ++ take (count % length xs) xs in
    let same : length (drop (count % length xs) xs ++ take (count % length xs) xs) ≡ length xs
    = length-append (drop (count % length xs) xs) (take (count % length xs) xs)
    ∙ omega (arith, length-drop (count % length xs) xs, length-take (count % length xs) xs) in
    turned_back xs ys k (length ys - count % length ys) refl (ap (λ n. n - count % n) same)
