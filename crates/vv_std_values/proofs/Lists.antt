-- A list that grows by what a function gives for each pair of two lists.
use Rattle.std.proofs.Common.{◌≡◌, ℕ, zero, suc, ◌+◌, List, [], ◌∷◌, ◌++◌, take, map, length, refl, ap, Some, None, slice_get, ◌≤◌}
use Rattle.std.proofs.lemmas.List.{map-append, take_all}
use Rattle.std.proofs.Math.Numerals.{add-one}
use Rattle.std.specs.List.{zip}

-- one more place, which both lists have
zip_more : {A B : Type 0} → (xs : List A) (ys : List B) (i : ℕ) (x : A) (y : B) → slice_get xs i ≡ Some x → slice_get ys i ≡ Some y → zip (take (suc i) xs) ys ≡ zip (take i xs) ys ++ (x, y) ∷ []
zip_more [] ys i x y here there = cc
zip_more (a ∷ xs) [] i x y here there = cc
zip_more (a ∷ xs) (b ∷ ys) zero x y here there =
    let first : a ≡ x = cc in
    let second : b ≡ y = cc in
    λ i. (first i, second i) ∷ []
zip_more (a ∷ xs) (b ∷ ys) (suc i) x y here there = ap (λ ps. (a, b) ∷ ps) (zip_more xs ys i x y here there)

-- one more place, which the second list lacks
zip_past : {A B : Type 0} → (xs : List A) (ys : List B) (i : ℕ) → slice_get ys i ≡ None → zip (take (suc i) xs) ys ≡ zip (take i xs) ys
zip_past [] ys zero past = refl
zip_past [] ys (suc i) past = refl
zip_past (a ∷ xs) [] zero past = refl
zip_past (a ∷ xs) [] (suc i) past = refl
zip_past (a ∷ xs) (b ∷ ys) zero past = cc
zip_past (a ∷ xs) (b ∷ ys) (suc i) past = ap (λ ps. (a, b) ∷ ps) (zip_past xs ys i past)

module _ {A B C : Type 0} (g : A × B → C) (xs : List A) (ys : List B) (i : ℕ) (made : List C) (so_far : made ≡ map g (zip (take i xs) ys)) where
  pub made_more : (x : A) (y : B) → slice_get xs i ≡ Some x → slice_get ys i ≡ Some y → made ++ g (x, y) ∷ [] ≡ map g (zip (take (i + 1) xs) ys)
  made_more x y here there =
      rw (so_far, add-one, zip_more xs ys i x y here there, map-append)

  pub made_past : slice_get ys i ≡ None → made ≡ map g (zip (take (i + 1) xs) ys)
  made_past past = rw (add-one, zip_past xs ys i past) so_far

  pub made_all : length xs ≤ i → made ≡ map g (zip xs ys)
  made_all end = rw (take_all i xs end) at so_far
