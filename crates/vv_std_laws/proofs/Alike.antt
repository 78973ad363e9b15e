-- Values of one codec are the same exactly where their cells are.
use Rattle.std.proofs.Common.{◌≡◌, ℕ, ◌*◌, ◌<◌, Bool, true, false, ◌&&◌, ◌==◌, List, [], ◌∷◌, ◌++◌, length, ℤ, pos, nat_abs, refl, ap, sym, subst, ◌∙◌, map, arith, length-append, ◌⊎◌, inl, inr}
use Rattle.std.proofs.Math.Bool.{and-true}
use Rattle.std.proofs.lemmas.Bool.Decides.{same_from_decides, Decides-int_eq, Decides-eqb}
use Rattle.std.specs.Cmp.Lexicographic.{pointwise}
use Rattle.std.specs.Cmp.Rules.{signed_items}
use Rattle.std.specs.List.{AllByRecursion, flat_map}
use Rattle.std.specs.Ordering.{int_eq}
use Rattle.vv_bits.specs.Nine.{code}
use Rattle.vv_types.specs.Codec.{IsArrayOf, IsBool, IsIntWithin, IsLogic, IsPositionBelow, IsValueOf, value_step}
use Rattle.vv_types.specs.declared.codec.Codec.{Codec, fold-roll-Codec, ind-Codec, map-Codec, roll-Codec}
use Rattle.vv_types.specs.declared.codec.Codec.TheOpen.{Codec-F}
use Rattle.vv_types.specs.declared.codec.Codec.TheOpen as c
use Rattle.vv_types.specs.declared.value.Value.{Value, map-Value, out-Value}
use Rattle.vv_types.specs.declared.value.Value.TheOpen.{Value-F}
use Rattle.vv_types.specs.declared.value.Value.TheOpen as v
use Rattle.vv_types.proofs.Lengths.{value_roll}
use Rattle.vv_std_values.specs.Equality.{same_bool, same_layer, same_value}
use Rattle.vv_std_cells.specs.Rows.{same_cells, truth}
use Rattle.vv_std_laws.specs.Cells.{cells_of, scalar_count, scalars_step}
use Rattle.vv_std_laws.specs.Operands.{IsArrayWith, IsInt, IsPosition}
use Rattle.vv_std_laws.proofs.Same.{same_is_equal}
use Rattle.vv_std_laws.proofs.Layers.{array_layer, bool_layer, cells_out, int_layer, joined_map, layer_cells, logic_layer, position_layer, same_out}

-- ---- one scalar

one_int : (a b : ℤ) → same_cells (a ∷ []) (b ∷ []) ≡ int_eq a b
one_int a b = and-true (int_eq a b)

position_test : (a b : ℕ) → int_eq (pos a) (pos b) ≡ (a == b)
position_test a b =
    let tells = Decides-int_eq (pos a) (pos b) in
    same_from_decides {P = a ≡ b} (int_eq (pos a) (pos b)) (a == b) ((λ e. ap nat_abs (tells.0 e)), (λ e. tells.1 (ap pos e))) (Decides-eqb a b)

one_position : (a b : ℕ) → same_cells (pos a ∷ []) (pos b ∷ []) ≡ (a == b)
one_position a b = one_int (pos a) (pos b) ∙ position_test a b

one_truth : (a b : Bool) → same_cells (truth a ∷ []) (truth b ∷ []) ≡ same_bool a b
one_truth true true = refl
one_truth true false = refl
one_truth false true = refl
one_truth false false = refl

-- two layers whose values are the same exactly where their cells are
abbrev pub Agree : Value-F Value → Value-F Value → Type 0
Agree x y = same_cells (layer_cells x) (layer_cells y) ≡ same_layer (map-Value Value (Value → Bool) same_value x) y

pub same_by_layers : (a b : Value) → Agree (out-Value a) (out-Value b) → same_cells (cells_of a) (cells_of b) ≡ same_value a b
same_by_layers a b agree = (λ i. same_cells (cells_out a i) (cells_out b i)) ∙ agree ∙ sym (same_out a b)

pub logics_agree : (x y : Value-F Value) → IsLogic x → IsLogic y → Agree x y
logics_agree x y left right =
    let p = logic_layer x left in
    let q = logic_layer y right in
    let core : Agree (v.Logic p.0) (v.Logic q.0) = one_position (code p.0) (code q.0) in
    subst (λ z. Agree z y) (sym p.1) (subst (Agree (v.Logic p.0)) (sym q.1) core)

pub bools_agree : (x y : Value-F Value) → IsBool x → IsBool y → Agree x y
bools_agree x y left right =
    let p = bool_layer x left in
    let q = bool_layer y right in
    let core : Agree (v.Bool p.0) (v.Bool q.0) = one_truth p.0 q.0 in
    subst (λ z. Agree z y) (sym p.1) (subst (Agree (v.Bool p.0)) (sym q.1) core)

pub ints_agree : (x y : Value-F Value) → IsInt x → IsInt y → Agree x y
ints_agree x y left right =
    let p = int_layer x left in
    let q = int_layer y right in
    let core : Agree (v.Int p.0) (v.Int q.0) = one_int p.0 q.0 in
    subst (λ z. Agree z y) (sym p.1) (subst (Agree (v.Int p.0)) (sym q.1) core)

pub positions_agree : (x y : Value-F Value) → IsPosition x → IsPosition y → Agree x y
positions_agree x y left right =
    let p = position_layer x left in
    let q = position_layer y right in
    let core : Agree (v.Enum p.0) (v.Enum q.0) = one_position p.0 q.0 in
    subst (λ z. Agree z y) (sym p.1) (subst (Agree (v.Enum p.0)) (sym q.1) core)

-- ---- many scalars

and_in_turn : (p q r : Bool) → (p && q) && r ≡ (p && (q && r))
and_in_turn true q r = refl
and_in_turn false q r = refl

same_append : (ps qs xs ys : List ℤ) → length ps ≡ length qs → same_cells (ps ++ xs) (qs ++ ys) ≡ (same_cells ps qs && same_cells xs ys)
same_append [] [] xs ys e = refl
same_append [] (q ∷ qs) xs ys e = absurd (omega (arith, e))
same_append (p ∷ ps) [] xs ys e = absurd (omega (arith, e))
same_append (p ∷ ps) (q ∷ qs) xs ys e =
    ap (λ t. int_eq p q && t) (same_append ps qs xs ys (omega (arith, e)))
    ∙ sym (and_in_turn (int_eq p q) (same_cells ps qs) (same_cells xs ys))

none_and_some : (zs ws : List ℤ) → 0 < length zs → same_cells [] (zs ++ ws) ≡ false
none_and_some [] ws some = absurd (omega (arith, some))
none_and_some (z ∷ zs) ws some = refl

some_and_none : (zs ws : List ℤ) → 0 < length zs → same_cells (zs ++ ws) [] ≡ false
some_and_none [] ws some = absurd (omega (arith, some))
some_and_none (z ∷ zs) ws some = refl

-- as many cells as a value of the codec has scalars
abbrev HasCount : Codec → Type 0
HasCount codec = (x : Value) → IsValueOf codec x → length (cells_of x) ≡ scalar_count codec

abbrev IsSameByCells : Codec → Type 0
IsSameByCells codec = (a b : Value) → IsValueOf codec a → IsValueOf codec b → same_cells (cells_of a) (cells_of b) ≡ same_value a b

abbrev Told : Codec → Type 0
Told codec = HasCount codec × IsSameByCells codec

-- as many elements on both sides, or elements with cells
abbrev pub Tell : Codec → List Value → List Value → Type 0
Tell codec xs ys = (length xs ≡ length ys) ⊎ (0 < scalar_count codec)

one_fewer : (codec : Codec) (x y : Value) (xs ys : List Value) → Tell codec (x ∷ xs) (y ∷ ys) → Tell codec xs ys
one_fewer codec x y xs ys (inl e) = inl (omega (arith, e))
one_fewer codec x y xs ys (inr some) = inr some

module _ (codec : Codec) (told : Told codec) where
  has_cells : (x : Value) → IsValueOf codec x → 0 < scalar_count codec → 0 < length (cells_of x)
  has_cells x is some = omega (arith, some, told.0 x is)

  elements_same : (xs ys : List Value) → AllByRecursion (IsValueOf codec) xs → AllByRecursion (IsValueOf codec) ys → Tell codec xs ys →
      same_cells (flat_map cells_of xs) (flat_map cells_of ys) ≡ pointwise (λ is_same x. is_same x) (map same_value xs) ys
  elements_same [] [] left right tell = refl
  elements_same [] (y ∷ ys) left right (inl e) = absurd (omega (arith, e))
  elements_same [] (y ∷ ys) left right (inr some) = none_and_some (cells_of y) (flat_map cells_of ys) (has_cells y right.0 some)
  elements_same (x ∷ xs) [] left right (inl e) = absurd (omega (arith, e))
  elements_same (x ∷ xs) [] left right (inr some) = some_and_none (cells_of x) (flat_map cells_of xs) (has_cells x left.0 some)
  elements_same (x ∷ xs) (y ∷ ys) left right tell =
      same_append (cells_of x) (cells_of y) (flat_map cells_of xs) (flat_map cells_of ys) (told.0 x left.0 ∙ sym (told.0 y right.0))
      ∙ (λ i. told.1 x y left.0 right.0 i && elements_same xs ys left.1 right.1 (one_fewer codec x y xs ys tell) i)

  elements_count : (xs : List Value) → AllByRecursion (IsValueOf codec) xs → length (flat_map cells_of xs) ≡ length xs * scalar_count codec
  elements_count [] all = omega arith
  elements_count (x ∷ xs) all =
      let rest : length (flat_map cells_of xs) ≡ length xs * scalar_count codec = elements_count xs all.1 in
      let first : length (cells_of x) ≡ scalar_count codec = told.0 x all.0 in
      omega (arith, length-append (cells_of x) (flat_map cells_of xs), first, rest)

  arrays_agree : (x y : Value-F Value) (xs ys : List Value) → x ≡ v.Array xs → y ≡ v.Array ys → AllByRecursion (IsValueOf codec) xs →
      AllByRecursion (IsValueOf codec) ys → Tell codec xs ys → Agree x y
  arrays_agree x y xs ys left right all also tell =
      let core : Agree (v.Array xs) (v.Array ys) =
      (λ i. same_cells (joined_map xs i) (joined_map ys i)) ∙ elements_same xs ys all also tell in
      subst (λ z. Agree z y) (sym left) (subst (Agree (v.Array xs)) (sym right) core)

-- ---- by the codec

one_logic : (x : Value-F Value) → IsLogic x → length (layer_cells x) ≡ 1
one_logic x is = let p = logic_layer x is in subst (λ z. length (layer_cells z) ≡ 1) (sym p.1) refl

one_bool : (x : Value-F Value) → IsBool x → length (layer_cells x) ≡ 1
one_bool x is = let p = bool_layer x is in subst (λ z. length (layer_cells z) ≡ 1) (sym p.1) refl

one_number : (x : Value-F Value) → IsInt x → length (layer_cells x) ≡ 1
one_number x is = let p = int_layer x is in subst (λ z. length (layer_cells z) ≡ 1) (sym p.1) refl

one_place : (x : Value-F Value) → IsPosition x → length (layer_cells x) ≡ 1
one_place x is = let p = position_layer x is in subst (λ z. length (layer_cells z) ≡ 1) (sym p.1) refl

int_within : (low high : ℤ) (x : Value-F Value) → IsIntWithin low high x → IsInt x
int_within low high (v.Int y) is = tt
int_within low high (v.Logic y) is = absurd is
int_within low high (v.Bool y) is = absurd is
int_within low high (v.Enum y) is = absurd is
int_within low high (v.Array y) is = absurd is

position_below : (count : ℕ) (x : Value-F Value) → IsPositionBelow count x → IsPosition x
position_below count (v.Enum y) is = tt
position_below count (v.Logic y) is = absurd is
position_below count (v.Bool y) is = absurd is
position_below count (v.Int y) is = absurd is
position_below count (v.Array y) is = absurd is

array_of : (n : ℕ) (P : Value → Type 0) (x : Value-F Value) → IsArrayOf n P x →
    (ys : List Value) × (x ≡ v.Array ys) × (length ys ≡ n) × AllByRecursion P ys
array_of n P (v.Array ys) is = (ys, refl, is.0, is.1)
array_of n P (v.Logic y) is = absurd is
array_of n P (v.Bool y) is = absurd is
array_of n P (v.Int y) is = absurd is
array_of n P (v.Enum y) is = absurd is

count_roll : (codec : Codec-F Codec) → scalar_count (roll-Codec codec) ≡ scalars_step (map-Codec Codec ℕ scalar_count codec)
count_roll codec = fold-roll-Codec ℕ scalars_step codec

opened : (codec : Codec-F Codec) (x : Value) → IsValueOf (roll-Codec codec) x → value_step Codec (λ d. d) IsValueOf codec x
opened codec x is = coe 0 1 (i. value_roll codec x i) is

module _ (codec : Codec-F Codec) (count : (x : Value-F Value) (a : Value) → x ≡ out-Value a → value_step Codec (λ d. d) IsValueOf codec a → length (layer_cells x) ≡ scalars_step (map-Codec Codec ℕ scalar_count codec))
    (agree : (a b : Value) → value_step Codec (λ d. d) IsValueOf codec a → value_step Codec (λ d. d) IsValueOf codec b → Agree (out-Value a) (out-Value b)) where
  told_by_layers : Told (roll-Codec codec)
  told_by_layers = (
    (λ a is. ap length (cells_out a) ∙ count (out-Value a) a refl (opened codec a is) ∙ sym (count_roll codec)),
    (λ a b left right. same_by_layers a b (agree a b (opened codec a left) (opened codec b right))),
  )

layer_told : (codec : Codec-F ((d : Codec) × Told d)) → Told (roll-Codec (map-Codec ((d : Codec) × Told d) Codec (λ e. e.0) codec))
layer_told c.Std =
    told_by_layers c.Std (λ x a e is. subst (λ z. length (layer_cells z) ≡ 1) (sym e) (one_logic (out-Value a) is))
    (λ a b left right. logics_agree (out-Value a) (out-Value b) left right)
layer_told c.Bool =
    told_by_layers c.Bool (λ x a e is. subst (λ z. length (layer_cells z) ≡ 1) (sym e) (one_bool (out-Value a) is))
    (λ a b left right. bools_agree (out-Value a) (out-Value b) left right)
layer_told (c.Int low high) =
    told_by_layers (c.Int low high)
    (λ x a e is. subst (λ z. length (layer_cells z) ≡ 1) (sym e) (one_number (out-Value a) (int_within low high (out-Value a) is)))
    (λ a b left right. ints_agree (out-Value a) (out-Value b) (int_within low high (out-Value a) left) (int_within low high (out-Value b) right))
layer_told (c.Enum count) =
    told_by_layers (c.Enum count)
    (λ x a e is. subst (λ z. length (layer_cells z) ≡ 1) (sym e) (one_place (out-Value a) (position_below count (out-Value a) is)))
    (λ a b left right. positions_agree (out-Value a) (out-Value b) (position_below count (out-Value a) left) (position_below count (out-Value b) right))
layer_told (c.Of n elem) =
    told_by_layers (c.Of n elem.0)
    (λ x a e is.
    let p = array_of n (IsValueOf elem.0) (out-Value a) is in
    ap (λ z. length (layer_cells z)) (e ∙ p.1) ∙ ap length (joined_map p.0) ∙ elements_count elem.0 elem.1 p.0 p.3
    ∙ ap (λ m. m * scalar_count elem.0) p.2)
    (λ a b left right.
    let p = array_of n (IsValueOf elem.0) (out-Value a) left in
    let q = array_of n (IsValueOf elem.0) (out-Value b) right in
    arrays_agree elem.0 elem.1 (out-Value a) (out-Value b) p.0 q.0 p.1 q.1 p.3 q.3 (inl (p.2 ∙ sym q.2)))

told_of : (codec : Codec) → Told codec
told_of codec = ind-Codec Told (λ x told is. subst (λ z. Told (roll-Codec z)) is (layer_told told)) codec

-- arrays whose elements are values of one codec with scalars
pub alike_agree : (codec : Codec) (x y : Value-F Value) → 0 < scalar_count codec → IsArrayWith (IsValueOf codec) x → IsArrayWith (IsValueOf codec) y → Agree x y
alike_agree codec x y some left right =
    let p = array_layer (IsValueOf codec) x left in
    let q = array_layer (IsValueOf codec) y right in
    arrays_agree codec (told_of codec) x y p.0 q.0 p.1 q.1 p.2 q.2 (inr some)

pub as_many_cells : (codec : Codec) (x : Value) → IsValueOf codec x → length (cells_of x) ≡ scalar_count codec
as_many_cells codec = (told_of codec).0

-- among the values of a codec, the cells tell the value
pub told_by_cells : (codec : Codec) (a b : Value) → IsValueOf codec a → IsValueOf codec b → cells_of a ≡ cells_of b → a ≡ b
told_by_cells codec a b left right e =
    (same_is_equal a b).0 (sym ((told_of codec).1 a b left right) ∙ (signed_items (cells_of a) (cells_of b)).1 e)
