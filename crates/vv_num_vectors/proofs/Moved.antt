-- Vectors that are made of parts.
use Rattle.std.proofs.Common.{◌≡◌, ℕ, zero, suc, ◌-◌, ◌≤◌, min, List, [], ◌∷◌, ◌++◌, length, take, drop, get_or, replicate, refl, ap, ◌∙◌, arith, length-append, length-drop}
use Rattle.std.proofs.lemmas.List.{length-replicate, length-take, take_all, drop_min, append-nil, get_or-append_right}
use Rattle.vv_bits.specs.declared.nine.S9.{S9}
use Rattle.vv_bits.specs.declared.nine.S9.TheVariants.{Zero}
use Rattle.vv_num_vectors.specs.declared.movement.Part.{Part}
use Rattle.vv_num_vectors.specs.declared.movement.Part.TheVariants.{Repeated, From}
use Rattle.vv_num_vectors.specs.declared.movement.Parts.{Parts}
use Rattle.vv_num_vectors.specs.Parts.{HasPart, IsMadeFrom, made_of, part_of}
use Rattle.vv_num_vectors.specs.Rows.{leftmost, shifted_left, resized_signed}

pub length-part_of : (xs : List S9) (count : ℕ) (part : Part) (n : ℕ) → length xs ≡ count → HasPart count part n → length (part_of xs part n) ≡ n
length-part_of xs count (Repeated x) n e h = length-replicate n x
length-part_of xs count (From start) n e h = omega (arith, length-take n (drop start xs), length-drop start xs, e, h)

pub length-made_of : (xs : List S9) (count : ℕ) (parts : Parts) (n : ℕ) → length xs ≡ count → IsMadeFrom count parts n → length (made_of xs parts n) ≡ n
length-made_of xs count parts n e h =
    length-append (part_of xs parts.left parts.split) (part_of xs parts.right (n - parts.split))
    ∙ omega (arith, length-part_of xs count parts.left parts.split e h.1, length-part_of xs count parts.right (n - parts.split) e h.2, h.0)

-- an element of the right part
pub right_element : (xs : List S9) (count : ℕ) (parts : Parts) (n k : ℕ) (d : S9) → length xs ≡ count → IsMadeFrom count parts n → parts.split ≤ k →
    get_or (made_of xs parts n) k d ≡ get_or (part_of xs parts.right (n - parts.split)) (k - parts.split) d
right_element xs count parts n k d e h le =
    get_or-append_right (part_of xs parts.left parts.split) (part_of xs parts.right (n - parts.split)) parts.split k d
    (length-part_of xs count parts.left parts.split e h.1) le

-- ---- the parts of a shift and of a change of length

rest : (xs : List S9) (n s c : ℕ) → length xs ≡ n → s ≡ n - c → take s (drop c xs) ≡ drop c xs
rest xs n s c e h = take_all s (drop c xs) (omega (arith, length-drop c xs, e, h))

pub left_shift : (xs : List S9) (n count c : ℕ) → length xs ≡ n → c ≡ min count n →
    take (n - c) (drop c xs) ++ replicate (n - (n - c)) Zero ≡ shifted_left xs count
left_shift xs n count c e h =
    let same : c ≡ min count (length xs) = omega (arith, e, h) in
    let front : take (n - c) (drop c xs) ≡ drop count xs = rest xs n (n - c) c e refl ∙ ap (λ i. drop i xs) same ∙ drop_min count xs in
    let back : n - (n - c) ≡ min count (length xs) = omega (arith, e, h) in
    λ i. front i ++ replicate (back i) Zero

pub signed_size : (xs : List S9) (count n kept : ℕ) → length xs ≡ count → kept ≡ min (count - 1) (n - 1) →
    replicate (n - kept) (leftmost xs) ++ take (n - (n - kept)) (drop (count - kept) xs) ≡ resized_signed xs n
signed_size xs count zero kept e h =
    let none : zero - kept ≡ 0 = omega arith in
    let nothing : zero - (zero - kept) ≡ 0 = omega arith in
    λ i. replicate (none i) (leftmost xs) ++ take (nothing i) (drop (count - kept) xs)
signed_size [] count (suc n) kept e h =
    let all : suc n - kept ≡ suc n = omega (arith, e, h) in
    let nothing : suc n - (suc n - kept) ≡ 0 = omega (arith, e, h) in
    (λ i. replicate (all i) Zero ++ take (nothing i) (drop (count - kept) [])) ∙ append-nil (replicate (suc n) Zero)
signed_size (x ∷ xs) count (suc n) kept e h =
    let front : suc n - kept ≡ suc (n - length xs) = omega (arith, e, h) in
    let back : count - kept ≡ suc (length xs - n) = omega (arith, e, h) in
    let few : suc n - (suc n - kept) ≡ length xs - (length xs - n) = omega (arith, e, h) in
    let all : take (length xs - (length xs - n)) (drop (length xs - n) xs) ≡ drop (length xs - n) xs
    = rest xs (length xs) (length xs - (length xs - n)) (length xs - n) refl refl in
    (λ i. replicate (front i) x ++ take (few i) (drop (back i) (x ∷ xs))) ∙ ap (λ ys. x ∷ replicate (n - length xs) x ++ ys) all
