-- What two equal lists have in common, and what holds of each element of two lists together.
use Rattle.std.proofs.Common.{◌≡◌, ℕ, true, false, List, [], ◌∷◌, ◌++◌, All, bytes_eq, sym, ap, ◌∙◌, append_assoc}
use Rattle.std.proofs.lemmas.List.Elements.{All-nil, All-cons, All-head, All-tail}

pub first_same : {X : Type 0} {x y : X} {xs ys : List X} → x ∷ xs ≡ y ∷ ys → x ≡ y
first_same e = cc

pub rest_same : {X : Type 0} {x y : X} {xs ys : List X} → x ∷ xs ≡ y ∷ ys → xs ≡ ys
rest_same e = cc

pub none_is_some : {X : Type 0} {x : X} {xs : List X} → [] ≡ x ∷ xs → ⊥
none_is_some e = cc

-- two texts that a test tells apart
pub apart : (t u : List ℕ) → bytes_eq t u ≡ false → bytes_eq u u ≡ true → t ≡ u → ⊥
apart t u d s e = let z : true ≡ false = sym s ∙ sym (ap (λ v. bytes_eq v u) e) ∙ d in cc

pub All-left : {X : Type 0} (P : X → Type 0) (xs ys : List X) → All P (xs ++ ys) → All P xs
All-left P [] ys h = All-nil P
All-left P (x ∷ xs) ys h = All-cons P x xs (All-head P x (xs ++ ys) h) (All-left P xs ys (All-tail P x (xs ++ ys) h))

pub All-right : {X : Type 0} (P : X → Type 0) (xs ys : List X) → All P (xs ++ ys) → All P ys
All-right P [] ys h = h
All-right P (x ∷ xs) ys h = All-right P xs ys (All-tail P x (xs ++ ys) h)

-- a list that is closed by c goes on
pub closed : {X : Type 0} (xs : List X) (c : X) (rest : List X) → (xs ++ (c ∷ [])) ++ rest ≡ xs ++ (c ∷ rest)
closed xs c rest = append_assoc xs (c ∷ []) rest

-- two lists with o between them, closed by c, go on
pub closed_two : {X : Type 0} (xs : List X) (o : X) (ys : List X) (c : X) (rest : List X) → xs ++ (o ∷ ys) ++ (c ∷ []) ++ rest ≡ xs ++ (o ∷ (ys ++ (c ∷ rest)))
closed_two xs o ys c rest = append_assoc (xs ++ (o ∷ ys)) (c ∷ []) rest ∙ append_assoc xs (o ∷ ys) (c ∷ rest)
