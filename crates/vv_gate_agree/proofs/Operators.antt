-- What Verilog sees of an operator's value is its own operator's value of what it sees of the operands.
use Rattle.std.proofs.Common.{◌≡◌, Bool, true, refl, sym, ap, ◌∙◌}
use Rattle.std.proofs.lemmas.Bool.{eqb-true}
use Rattle.std.specs.List.{list_all}
use Rattle.vv_bits.specs.declared.nine.S9.{S9}
use Rattle.vv_bits.specs.declared.four.V4.{V4}
use Rattle.vv_bits.specs.declared.four.V4.TheVariants.{Zero, One, X, Z}
use Rattle.vv_bits.specs.Nine.{all_nine, and_rule, or_rule, xor_rule, not_rule}
use Rattle.vv_bits.specs.Four.{code4, four_of, is4, abs_rule, and4_rule, or4_rule, xor4_rule, not4_rule}
use Rattle.vv_bits.proofs.Finite.{nine_law}

four_of-code : (a : V4) → four_of (code4 a) ≡ a
four_of-code Zero = refl
four_of-code One = refl
four_of-code X = refl
four_of-code Z = refl

is4_law : (a b : V4) → is4 a b ≡ true → a ≡ b
is4_law a b h = sym (four_of-code a) ∙ ap four_of (eqb-true _ _ h) ∙ four_of-code b

pairs_law : (f : S9 → S9 → Bool) → list_all (λ a. list_all (f a) all_nine) all_nine ≡ true → (a b : S9) → f a b ≡ true
pairs_law f h a b = nine_law (f a) (nine_law (λ x. list_all (f x) all_nine) h a) b

pub seen_and : (a b : S9) → and4_rule (abs_rule a) (abs_rule b) ≡ abs_rule (and_rule a b)
seen_and a b = is4_law _ _ (pairs_law (λ x y. is4 (and4_rule (abs_rule x) (abs_rule y)) (abs_rule (and_rule x y))) refl a b)

pub seen_or : (a b : S9) → or4_rule (abs_rule a) (abs_rule b) ≡ abs_rule (or_rule a b)
seen_or a b = is4_law _ _ (pairs_law (λ x y. is4 (or4_rule (abs_rule x) (abs_rule y)) (abs_rule (or_rule x y))) refl a b)

pub seen_xor : (a b : S9) → xor4_rule (abs_rule a) (abs_rule b) ≡ abs_rule (xor_rule a b)
seen_xor a b = is4_law _ _ (pairs_law (λ x y. is4 (xor4_rule (abs_rule x) (abs_rule y)) (abs_rule (xor_rule x y))) refl a b)

pub seen_not : (a : S9) → not4_rule (abs_rule a) ≡ abs_rule (not_rule a)
seen_not a = is4_law _ _ (nine_law (λ x. is4 (not4_rule (abs_rule x)) (abs_rule (not_rule x))) refl a)
