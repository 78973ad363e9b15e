-- A value has as many bits as the width of its codec.
use Rattle.std.proofs.Common.{◌≡◌, ℕ, suc, ◌+◌, ◌*◌, List, [], ◌∷◌, length, ℤ, refl, ap, sym, subst, ◌∙◌, arith, length-append}
use Rattle.std.specs.List.{flat_map, AllByRecursion}
use Rattle.vv_bits.specs.declared.nine.S9.{S9}
use Rattle.vv_types.specs.Codec.{width_of, width_step, bits_of, bits_step, std_bits, bool_bits, int_bits, enum_bits, array_bits, int_width, enum_width, IsValueOf, value_step, IsLogic, IsBool, IsIntWithin, IsPositionBelow, IsArrayOf}
use Rattle.vv_types.specs.Number.{residue}
use Rattle.vv_types.specs.declared.codec.Codec.{Codec, fold-roll-Codec, rec-roll-Codec, roll-Codec, ind-Codec, map-Codec}
use Rattle.vv_types.specs.declared.codec.Codec.TheOpen.{Codec-F}
use Rattle.vv_types.specs.declared.codec.Codec.TheOpen as code
use Rattle.vv_types.specs.declared.value.Value.{Value, out-Value}
use Rattle.vv_types.specs.declared.value.Value.TheOpen.{Value-F}
use Rattle.vv_types.specs.declared.value.Value.TheOpen as v
use Rattle.vv_types.proofs.Numbers.{length-vector_of}

-- ---- equations

pub bits_roll : (c : Codec-F Codec) (x : Value) → bits_of (roll-Codec c) x ≡ bits_step (map-Codec Codec (Value → List S9) bits_of c) x
bits_roll c x = λ i. fold-roll-Codec (Value → List S9) bits_step c i x

pub width_roll : (c : Codec-F Codec) → width_of (roll-Codec c) ≡ width_step (map-Codec Codec ℕ width_of c)
width_roll c = fold-roll-Codec ℕ width_step c

children_alone : (X : Type 0) → (child : X → Codec) → (P : Codec → Value → Type 0) → (c : Codec-F X) →
    value_step X child (λ x. P (child x)) c ≡ value_step Codec (λ d. d) P (map-Codec X Codec child c)
children_alone X child P code.Std = refl
children_alone X child P code.Bool = refl
children_alone X child P (code.Int low high) = refl
children_alone X child P (code.Enum count) = refl
children_alone X child P (code.Of n elem) = refl

pub value_roll : (c : Codec-F Codec) (x : Value) → IsValueOf (roll-Codec c) x ≡ value_step Codec (λ d. d) IsValueOf c x
value_roll c x = λ i. rec-roll-Codec (Value → Type 0) value_step children_alone c i x

-- ---- one layer

std_length : (x : Value-F Value) → IsLogic x → length (std_bits x) ≡ 1
std_length (v.Logic y) h = refl
std_length (v.Bool y) h = absurd h
std_length (v.Int y) h = absurd h
std_length (v.Enum y) h = absurd h
std_length (v.Array y) h = absurd h

bool_length : (x : Value-F Value) → IsBool x → length (bool_bits x) ≡ 1
bool_length (v.Bool y) h = refl
bool_length (v.Logic y) h = absurd h
bool_length (v.Int y) h = absurd h
bool_length (v.Enum y) h = absurd h
bool_length (v.Array y) h = absurd h

int_length : (w : ℕ) (low high : ℤ) (x : Value-F Value) → IsIntWithin low high x → length (int_bits w x) ≡ w
int_length w low high (v.Int y) h = length-vector_of w (residue w y)
int_length w low high (v.Logic y) h = absurd h
int_length w low high (v.Bool y) h = absurd h
int_length w low high (v.Enum y) h = absurd h
int_length w low high (v.Array y) h = absurd h

enum_length : (w count : ℕ) (x : Value-F Value) → IsPositionBelow count x → length (enum_bits w x) ≡ w
enum_length w count (v.Enum y) h = length-vector_of w y
enum_length w count (v.Logic y) h = absurd h
enum_length w count (v.Bool y) h = absurd h
enum_length w count (v.Int y) h = absurd h
enum_length w count (v.Array y) h = absurd h

abbrev HasLength : Codec → Type 0
HasLength c = (x : Value) → IsValueOf c x → length (bits_of c x) ≡ width_of c

one_more : (a n w t u : ℕ) → t ≡ a + u → a ≡ w → u ≡ n * w → t ≡ suc n * w
one_more a n w t u e h k = omega (arith, e, h, k)

elements_length : (c : Codec) → HasLength c → (xs : List Value) → AllByRecursion (IsValueOf c) xs →
    length (flat_map (bits_of c) xs) ≡ length xs * width_of c
elements_length c has [] all = omega arith
elements_length c has (x ∷ xs) all =
    one_more (length (bits_of c x)) (length xs) (width_of c) _ (length (flat_map (bits_of c) xs))
    (length-append (bits_of c x) (flat_map (bits_of c) xs)) (has x all.0) (elements_length c has xs all.1)

array_length : (n : ℕ) (c : Codec) → HasLength c → (x : Value-F Value) → IsArrayOf n (IsValueOf c) x →
    length (array_bits (bits_of c) x) ≡ n * width_of c
array_length n c has (v.Array xs) h = elements_length c has xs h.1 ∙ ap (λ m. m * width_of c) h.0
array_length n c has (v.Logic y) h = absurd h
array_length n c has (v.Bool y) h = absurd h
array_length n c has (v.Int y) h = absurd h
array_length n c has (v.Enum y) h = absurd h

-- ---- all layers

layer_has_length : (c : Codec-F ((d : Codec) × HasLength d)) →
    HasLength (roll-Codec (map-Codec ((d : Codec) × HasLength d) Codec (λ e. e.0) c))
layer_has_length code.Std x h =
    ap length (bits_roll code.Std x) ∙ std_length (out-Value x) (coe 0 1 (i. value_roll code.Std x i) h) ∙ sym (width_roll code.Std)
layer_has_length code.Bool x h =
    ap length (bits_roll code.Bool x) ∙ bool_length (out-Value x) (coe 0 1 (i. value_roll code.Bool x i) h) ∙ sym (width_roll code.Bool)
layer_has_length (code.Int low high) x h =
    let c : Codec-F Codec = code.Int low high in
    ap length (bits_roll c x) ∙ int_length (int_width low high) low high (out-Value x) (coe 0 1 (i. value_roll c x i) h) ∙ sym (width_roll c)
layer_has_length (code.Enum count) x h =
    let c : Codec-F Codec = code.Enum count in
    ap length (bits_roll c x) ∙ enum_length (enum_width count) count (out-Value x) (coe 0 1 (i. value_roll c x i) h) ∙ sym (width_roll c)
layer_has_length (code.Of n elem) x h =
    let c : Codec-F Codec = code.Of n elem.0 in
    ap length (bits_roll c x) ∙ array_length n elem.0 elem.1 (out-Value x) (coe 0 1 (i. value_roll c x i) h) ∙ sym (width_roll c)

pub bits_length : (c : Codec) (x : Value) → IsValueOf c x → length (bits_of c x) ≡ width_of c
bits_length c = ind-Codec HasLength (λ a b is. subst (λ z. HasLength (roll-Codec z)) is (layer_has_length b)) c
