-- Lists of declarations in which none stands twice, by keys that are compared.
use Rattle.std.proofs.Common.{◌≡◌, ◌≢◌, ℕ, ◌+◌, ◌<◌, Bool, true, false, not, ◌&&◌, List, [], ◌∷◌, ◌++◌, map, refl, ap, sym, subst, ◌∙◌, nat_eq, true≢false}
use Rattle.std.proofs.Math.ListN.{get_or-map}
use Rattle.std.proofs.lemmas.List.{length-map}
use Rattle.std.proofs.lemmas.Map.Made.{AllPairs-from_IsDistinct}
use Rattle.std.specs.Cmp.Lexicographic.{bytes_decides, pointwise}
use Rattle.std.specs.Cmp.{first_so, second_so}
use Rattle.std.specs.List.{AllByRecursion, AllPairs, IsDistinct}
use Rattle.vv_types.specs.declared.base.BaseType.{BaseType}
use Rattle.vv_types.specs.declared.base.BaseType.TheVariants.{Logic, Bool as Truth, Int, Enum, Array}
use Rattle.vv_types.specs.declared.declarations.BuiltDecl.{BuiltDecl}
use Rattle.vv_types.specs.declared.declarations.What.{What}
use Rattle.vv_types.specs.declared.declarations.What.TheVariants.{Object, Mark, Function, Literal, Other}

abbrev type_number : BaseType → ℕ
type_number Logic = 0
type_number Truth = 1
type_number Int = 2
type_number (Enum n) = 3
type_number (Array n) = 4 + n

abbrev what_numbers : What → List ℕ
what_numbers (Object kind base) = []
what_numbers (Mark base) = []
what_numbers (Function params result) = type_number result ∷ map type_number params
what_numbers (Literal base) = []
what_numbers Other = []

-- numbers by which declarations differ
abbrev pub key : BuiltDecl → List ℕ
key d = what_numbers d.what ++ d.name ++ d.package

abbrev no_match : List ℕ → List (List ℕ) → Bool
no_match k [] = true
no_match k (j ∷ js) = not (pointwise nat_eq k j) && no_match k js

abbrev pub differ : List (List ℕ) → Bool
differ [] = true
differ (k ∷ ks) = no_match k ks && differ ks

not_true : (t : Bool) → not t ≡ true → t ≡ false
not_true true e = absurd (true≢false (sym e))
not_true false e = refl

none_matches : (k : List ℕ) (ks : List (List ℕ)) → no_match k ks ≡ true → AllByRecursion (λ j. pointwise nat_eq k j ≡ false) ks
none_matches k [] e = tt
none_matches k (j ∷ ks) e = (not_true _ (first_so _ _ e), none_matches k ks (second_so _ _ e))

distinct_keys : (ks : List (List ℕ)) → differ ks ≡ true → IsDistinct (pointwise nat_eq) ks
unfolding IsDistinct
distinct_keys [] e = tt
distinct_keys (k ∷ ks) e = (none_matches k ks (first_so _ _ e), distinct_keys ks (second_so _ _ e))

pub distinct_by_key : (xs : List BuiltDecl) → differ (map key xs) ≡ true → AllPairs (λ x y. x ≢ y) xs
distinct_by_key xs e i j d less within same =
    AllPairs-from_IsDistinct bytes_decides (map key xs) (distinct_keys (map key xs) e) i j (key d) less
    (subst (λ n. j < n) (sym (length-map xs key)) within)
    (get_or-map key xs i d ∙ ap key same ∙ sym (get_or-map key xs j d))
