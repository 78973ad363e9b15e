-- Lists of cells.
use Rattle.std.proofs.Common.{◌≡◌, ℕ, ◌+◌, ◌<◌, ◌≤◌, Bool, true, false, ◌&&◌, List, [], ◌∷◌, ◌++◌, length, take, drop, get_or, ℤ, pos, refl, ap, sym, ◌∙◌, add-one, arith, append_assoc, length-append}
use Rattle.std.proofs.Math.Seq.{drop-cons}
use Rattle.std.proofs.lemmas.Bool.Decides.{Decides-int_eq}
use Rattle.std.proofs.lemmas.List.{drop-drop, drop_at, length-take, take_at}
use Rattle.std.specs.Bool.{Decides}
use Rattle.std.specs.Ordering.{int_eq}
use Rattle.vv_types.specs.declared.cells.Place.{Place}
use Rattle.vv_vectors.specs.Vectors.{LiesIn, with_cells}
use Rattle.vv_std_cells.specs.Rows.{first, same_cells}

pub first_is : (zs : List ℤ) → first zs ≡ get_or zs 0 (pos 0)
first_is [] = refl
first_is (z ∷ zs) = refl

one_more : (zs : List ℤ) (k : ℕ) (z : ℤ) → k < length zs → get_or zs k (pos 0) ≡ z → drop k zs ≡ z ∷ drop (k + 1) zs
one_more zs k z within is = drop-cons zs k (pos 0) within ∙ (λ i. is i ∷ drop (sym (add-one k) i) zs)

same_step : (xs ys : List ℤ) (k : ℕ) (x y : ℤ) → k < length xs → k < length ys → get_or xs k (pos 0) ≡ x → get_or ys k (pos 0) ≡ y →
    same_cells (drop k xs) (drop k ys) ≡ int_eq x y && same_cells (drop (k + 1) xs) (drop (k + 1) ys)
same_step xs ys k x y left right is also =
    λ i. same_cells (one_more xs k x left is i) (one_more ys k y right also i)

no_from_Decides : {P : Type 0} → (b : Bool) → Decides b P → (P → ⊥) → b ≡ false
no_from_Decides true tells differ = absurd (differ (tells.0 refl))
no_from_Decides false tells differ = refl

module _ (xs ys : List ℤ) (k : ℕ) (x y : ℤ) (left : k < length xs) (right : k < length ys) (is : get_or xs k (pos 0) ≡ x) (also : get_or ys k (pos 0) ≡ y) where
  pub same_on : x ≡ y → same_cells (drop (k + 1) xs) (drop (k + 1) ys) ≡ same_cells (drop k xs) (drop k ys)
  same_on e =
      sym (same_step xs ys k x y left right is also
      ∙ ap (λ b. b && same_cells (drop (k + 1) xs) (drop (k + 1) ys)) ((Decides-int_eq x y).1 e))

  pub other_here : (x ≡ y → ⊥) → same_cells (drop k xs) (drop k ys) ≡ false
  other_here differ =
      same_step xs ys k x y left right is also
      ∙ ap (λ b. b && same_cells (drop (k + 1) xs) (drop (k + 1) ys)) (no_from_Decides (int_eq x y) (Decides-int_eq x y) differ)

joined_lists : (old zs ws : List ℤ) (f m n : ℕ) → f ≤ length old → length zs ≡ m →
    (take (f + m) ((take f old ++ zs) ++ drop (f + m) old) ++ ws) ++ drop ((f + m) + n) ((take f old ++ zs) ++ drop (f + m) old)
    ≡ (take f old ++ (zs ++ ws)) ++ drop (f + (m + n)) old
joined_lists old zs ws f m n le e =
    let front : length (take f old ++ zs) ≡ f + m = omega (arith, length-append (take f old) zs, length-take f old, le, e) in
    let kept : take (f + m) ((take f old ++ zs) ++ drop (f + m) old) ≡ take f old ++ zs = take_at (take f old ++ zs) (drop (f + m) old) (f + m) front in
    let behind : drop ((f + m) + n) ((take f old ++ zs) ++ drop (f + m) old) ≡ drop ((f + m) + n) old
    = sym (drop-drop n (f + m) ((take f old ++ zs) ++ drop (f + m) old))
    ∙ ap (drop n) (drop_at (take f old ++ zs) (drop (f + m) old) (f + m) front)
    ∙ drop-drop n (f + m) old in
    let end : (f + m) + n ≡ f + (m + n) = omega arith in
    (λ i. (kept i ++ ws) ++ behind i)
    ∙ (λ i. append_assoc (take f old) zs ws i ++ drop (end i) old)

-- the cells of one place, and those of another directly behind it
pub joined : (old zs ws : List ℤ) (to front back : Place) → LiesIn old to → length zs ≡ front.size →
    front.first ≡ to.first → back.first ≡ to.first + front.size → to.size ≡ front.size + back.size →
    with_cells (with_cells old front zs) back ws ≡ with_cells old to (zs ++ ws)
joined old zs ws to front back lies size at behind whole =
    (λ i. (take (behind i) ((take (at i) old ++ zs) ++ drop (at i + front.size) old) ++ ws) ++ drop (behind i + back.size) ((take (at i) old ++ zs) ++ drop (at i + front.size) old))
    ∙ joined_lists old zs ws to.first front.size back.size (omega (arith, lies)) size
    ∙ (λ i. (take to.first old ++ (zs ++ ws)) ++ drop (to.first + sym whole i) old)
