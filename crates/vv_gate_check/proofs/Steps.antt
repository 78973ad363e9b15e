-- A list that is gone through, one element at a time.
use Rattle.std.proofs.Common.{◌≡◌, ℕ, ◌+◌, ◌<◌, ◌≤◌, List, [], ◌∷◌, ◌++◌, flat_map, length, take, drop, get_or, true, false, Option, Some, None, refl, sym, ◌∙◌, ap}
use Rattle.std.specs.Option.{is_some}
use Rattle.std.proofs.lemmas.Grind.{flat_map-append, take_at_read}
use Rattle.vv_gate_check.specs.Places.{first}
use Rattle.std.proofs.lemmas.List.{get_or_default, append-nil, take-append-drop, take_all}

pub first_none : (l : List ℕ) → None ≡ first l → l ≡ []
first_none [] e = refl
first_none (x ∷ l) e = cc

pub first_some : (l m : List ℕ) (at : ℕ) → Some at ≡ first l → Some at ≡ first (l ++ m)
first_some [] m at e = cc
first_some (x ∷ l) m at e = e

pub flat_map_more : {A B : Type 0} (f : A → List B) (xs : List A) (i : ℕ) (x : A) → i < length xs → x ≡ get_or xs i x →
    flat_map f (take i xs) ++ f x ≡ flat_map f (take (i + 1) xs)
flat_map_more f xs i x h is =
    ap (λ r. flat_map f (take i xs) ++ r) (sym (append-nil (f x)) ∙ ap (λ y. f y ++ []) is)
    ∙ sym (flat_map-append f (take i xs) (get_or xs i x ∷ []))
    ∙ ap (flat_map f) (sym ((take_at_read xs i x h).1))

pub flat_map_rest : {A B : Type 0} (f : A → List B) (xs : List A) (i : ℕ) (x : A) → i < length xs → x ≡ get_or xs i x →
    (flat_map f (take i xs) ++ f x) ++ flat_map f (drop (i + 1) xs) ≡ flat_map f xs
flat_map_rest f xs i x h is =
    ap (λ r. r ++ flat_map f (drop (i + 1) xs)) (flat_map_more f xs i x h is)
    ∙ sym (flat_map-append f (take (i + 1) xs) (drop (i + 1) xs))
    ∙ ap (flat_map f) (take-append-drop (i + 1) xs)

pub flat_map_all : {A B : Type 0} (f : A → List B) (xs : List A) (i : ℕ) → length xs ≤ i → flat_map f (take i xs) ≡ flat_map f xs
flat_map_all f xs i h = ap (flat_map f) (take_all i xs h)

-- a list of places that is gone through up to the first
pub first_next : {A : Type 0} (f : A → List ℕ) (xs : List A) (i : ℕ) (d : A) (place : Option ℕ) → i < length xs → is_some place ≡ false →
    None ≡ first (flat_map f (take i xs)) → place ≡ first (f (get_or xs i d)) → None ≡ first (flat_map f (take (i + 1) xs))
first_next f xs i d (Some at) h e a b = cc
first_next f xs i d None h e a b =
    b ∙ ap (λ l. first (l ++ f (get_or xs i d))) (sym (first_none (flat_map f (take i xs)) a))
    ∙ ap first (flat_map_more f xs i (get_or xs i d) h (get_or_default xs i d (get_or xs i d) h))

pub first_last : {A : Type 0} (f : A → List ℕ) (xs : List A) (i : ℕ) (d : A) (place : Option ℕ) → i < length xs → is_some place ≡ true →
    None ≡ first (flat_map f (take i xs)) → place ≡ first (f (get_or xs i d)) → place ≡ first (flat_map f xs)
first_last f xs i d None h e a b = cc
first_last f xs i d (Some at) h e a b =
    first_some (flat_map f (take i xs) ++ f (get_or xs i d)) (flat_map f (drop (i + 1) xs)) at (b ∙ ap (λ l. first (l ++ f (get_or xs i d))) (sym (first_none (flat_map f (take i xs)) a)))
    ∙ ap first (flat_map_rest f xs i (get_or xs i d) h (get_or_default xs i d (get_or xs i d) h))
