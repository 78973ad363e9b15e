-- Lists of texts, and lists of what holds them.
use Rattle.std.proofs.Common.{◌≡◌, ◌+◌, Bool, true, false, not, ◌||◌, if◌then◌else◌, cond, List, [], ◌∷◌, ◌++◌, map, refl, ap, ◌∙◌}
use Rattle.std.specs.List.{list_any, prefix_len, position_or_len}

prefix_map : {X Y : Type 0} (h : X → Y) (p : Y → Bool) (xs : List X) → prefix_len (λ x. p (h x)) xs ≡ prefix_len p (map h xs)
prefix_map h p [] = refl
prefix_map h p (x ∷ xs) = ap (λ n. cond (p (h x)) (1 + n) 0) (prefix_map h p xs)

-- where a text stands among the texts is where its holder stands
pub position_map : {X Y : Type 0} (h : X → Y) (p : Y → Bool) (xs : List X) → position_or_len (λ x. p (h x)) xs ≡ position_or_len p (map h xs)
position_map h p xs = prefix_map h (λ y. not (p y)) xs

any_map : {X Y : Type 0} (h : X → Y) (p : Y → Bool) (xs : List X) → list_any (λ x. p (h x)) xs ≡ list_any p (map h xs)
any_map h p [] = refl
any_map h p (x ∷ xs) = ap (λ b. p (h x) || b) (any_map h p xs)

last_map : {X Y : Type 0} (h : X → Y) (xs : List X) (x : X) → map h (xs ++ x ∷ []) ≡ map h xs ++ h x ∷ []
last_map h [] x = refl
last_map h (y ∷ xs) x = ap (λ ys. h y ∷ ys) (last_map h xs x)

-- a text that is new goes last, and so does its holder
pub insert_map : {X Y : Type 0} (h : X → Y) (p : Y → Bool) (xs : List X) (x : X) → map h (if list_any (λ z. p (h z)) xs then xs else xs ++ x ∷ []) ≡ (if list_any p (map h xs) then map h xs else map h xs ++ h x ∷ [])
insert_map h p xs x = ap (λ b. map h (if b then xs else xs ++ x ∷ [])) (any_map h p xs) ∙ split (list_any p (map h xs))
  where
    split : (b : Bool) → map h (if b then xs else xs ++ x ∷ []) ≡ (if b then map h xs else map h xs ++ h x ∷ [])
    split true = refl
    split false = last_map h xs x
