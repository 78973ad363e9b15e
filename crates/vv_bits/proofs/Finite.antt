-- A test that computes over every value of a small type holds at each of them.
use Rattle.std.proofs.Common.{◌≡◌, Bool, true, false, List, [], ◌∷◌, lit<, refl, ap, sym, ◌∙◌}
use Rattle.std.specs.List.{list_all}
use Rattle.std.proofs.lemmas.List.Sums.{AllPass-from_list_all}
use Rattle.std.proofs.lemmas.Bool.{eqb-true}
use Rattle.vv_bits.specs.declared.nine.S9.{S9}
use Rattle.vv_bits.specs.declared.nine.S9.TheVariants.{U, X, Zero, One, Z, W, L, H, Dash}
use Rattle.vv_bits.specs.Nine.{same, code, nine_of, all_nine}

abbrev pub both : List Bool
both = true ∷ false ∷ []

pub bool_law : (f : Bool → Bool) → list_all f both ≡ true → (b : Bool) → f b ≡ true
bool_law f h true = AllPass-from_list_all f both h 0 true (lit< tt)
bool_law f h false = AllPass-from_list_all f both h 1 true (lit< tt)

pub nine_law : (f : S9 → Bool) → list_all f all_nine ≡ true → (a : S9) → f a ≡ true
nine_law f h U = AllPass-from_list_all f all_nine h 0 U (lit< tt)
nine_law f h X = AllPass-from_list_all f all_nine h 1 U (lit< tt)
nine_law f h Zero = AllPass-from_list_all f all_nine h 2 U (lit< tt)
nine_law f h One = AllPass-from_list_all f all_nine h 3 U (lit< tt)
nine_law f h Z = AllPass-from_list_all f all_nine h 4 U (lit< tt)
nine_law f h W = AllPass-from_list_all f all_nine h 5 U (lit< tt)
nine_law f h L = AllPass-from_list_all f all_nine h 6 U (lit< tt)
nine_law f h H = AllPass-from_list_all f all_nine h 7 U (lit< tt)
nine_law f h Dash = AllPass-from_list_all f all_nine h 8 U (lit< tt)

nine_of-code : (a : S9) → nine_of (code a) ≡ a
nine_of-code U = refl
nine_of-code X = refl
nine_of-code Zero = refl
nine_of-code One = refl
nine_of-code Z = refl
nine_of-code W = refl
nine_of-code L = refl
nine_of-code H = refl
nine_of-code Dash = refl

pub same_law : (a b : S9) → same a b ≡ true → a ≡ b
same_law a b h = sym (nine_of-code a) ∙ ap nine_of (eqb-true _ _ h) ∙ nine_of-code b
