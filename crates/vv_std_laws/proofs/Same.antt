-- Values are the same exactly where they are equal.
use Rattle.std.proofs.Common.{◌≡◌, Bool, true, false, ◌&&◌, List, [], ◌∷◌, pos, refl, ap, sym, subst, ◌∙◌, ◌↔◌, IsTrue, map, true≢false, eqb-true, eq-eqb}
use Rattle.std.specs.Cmp.{first_so, second_so}
use Rattle.std.proofs.lemmas.Bool.Decides.{Decides-int_eq}
use Rattle.std.specs.Cmp.Lexicographic.{pointwise}
use Rattle.vv_bits.specs.declared.nine.S9.{S9}
use Rattle.vv_bits.specs.Nine.{code, same}
use Rattle.vv_types.specs.declared.value.Value.{Value, ind-Value, map-Value, out-Value, out-roll-Value, roll-Value, roll-out-Value}
use Rattle.vv_types.specs.declared.value.Value.TheOpen.{Value-F}
use Rattle.vv_types.specs.declared.value.Value.TheOpen as v
use Rattle.vv_vectors.specs.Vectors.{bit_of}
use Rattle.vv_vectors.proofs.Places.{bit_of_cell}
use Rattle.vv_std_values.specs.Equality.{same_bool, same_layer, same_value}
use Rattle.vv_std_laws.proofs.Layers.{same_roll}

false_is_true : {A : Type 0} → false ≡ true → A
false_is_true e = absurd (true≢false (sym e))

same_logic : (a b : S9) → same a b ≡ true → a ≡ b
same_logic a b e = sym (bit_of_cell a) ∙ ap (λ n. bit_of (pos n)) (eqb-true (code a) (code b) e) ∙ bit_of_cell b

same_truth : (a b : Bool) → same_bool a b ≡ true → a ≡ b
same_truth true true e = refl
same_truth true false e = false_is_true e
same_truth false true e = false_is_true e
same_truth false false e = refl

own_truth : (a : Bool) → same_bool a a ≡ true
own_truth true = refl
own_truth false = refl

-- what the law says of a left value
abbrev IsTold : Value → Type 0
IsTold a = ((b : Value) → same_value a b ≡ true → a ≡ b) × (same_value a a ≡ true)

abbrev Told : Type 0
Told = (a : Value) × IsTold a

same_elements : (told : List Told) (ys : List Value) →
    pointwise (λ is_same x. is_same x) (map same_value (map (λ e. e.0) told)) ys ≡ true → map (λ e. e.0) told ≡ ys
same_elements [] [] e = refl
same_elements [] (y ∷ ys) e = false_is_true e
same_elements (x ∷ told) [] e = false_is_true e
same_elements (x ∷ told) (y ∷ ys) e =
    λ i. x.1.0 y (first_so _ _ e) i ∷ same_elements told ys (second_so _ _ e) i

own_elements : (told : List Told) →
    pointwise (λ is_same x. is_same x) (map same_value (map (λ e. e.0) told)) (map (λ e. e.0) told) ≡ true
own_elements [] = refl
own_elements (x ∷ told) = λ i. x.1.1 i && own_elements told i

abbrev untold : Value-F Told → Value-F Value
untold x = map-Value Told Value (λ e. e.0) x

same_layers : (x : Value-F Told) (y : Value-F Value) →
    same_layer (map-Value Value (Value → Bool) same_value (untold x)) y ≡ true → untold x ≡ y
same_layers (v.Logic a) (v.Logic b) e = ap v.Logic (same_logic a b e)
same_layers (v.Bool a) (v.Bool b) e = ap v.Bool (same_truth a b e)
same_layers (v.Int a) (v.Int b) e = ap v.Int ((Decides-int_eq a b).0 e)
same_layers (v.Enum a) (v.Enum b) e = ap v.Enum (eqb-true a b e)
same_layers (v.Array told) (v.Array ys) e = ap v.Array (same_elements told ys e)
same_layers _ _ e = false_is_true e

own_layer : (x : Value-F Told) → same_layer (map-Value Value (Value → Bool) same_value (untold x)) (untold x) ≡ true
own_layer (v.Logic a) = eq-eqb (code a) (code a) refl
own_layer (v.Bool a) = own_truth a
own_layer (v.Int a) = (Decides-int_eq a a).1 refl
own_layer (v.Enum a) = eq-eqb a a refl
own_layer (v.Array told) = own_elements told

layer_is_told : (x : Value-F Told) → IsTold (roll-Value (untold x))
layer_is_told x = (
  (λ b e. ap roll-Value (same_layers x (out-Value b) (sym (same_roll (untold x) b) ∙ e)) ∙ roll-out-Value b),
  same_roll (untold x) (roll-Value (untold x))
      ∙ ap (same_layer (map-Value Value (Value → Bool) same_value (untold x))) (out-roll-Value (untold x))
      ∙ own_layer x,
)

is_told : (a : Value) → IsTold a
is_told a = ind-Value IsTold (λ x told is. subst (λ z. IsTold (roll-Value z)) is (layer_is_told told)) a

same_are_equal : (a b : Value) → same_value a b ≡ true → a ≡ b
same_are_equal a = (is_told a).0

equal_are_same : (a b : Value) → a ≡ b → same_value a b ≡ true
equal_are_same a b e = subst (λ z. same_value a z ≡ true) e (is_told a).1

pub same_is_equal : (a b : Value) → IsTrue (same_value a b) ↔ a ≡ b
same_is_equal a b = (same_are_equal a b, equal_are_same a b)
