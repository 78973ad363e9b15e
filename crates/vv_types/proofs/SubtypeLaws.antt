-- The codec of a subtype whose arrays have elements.
use Rattle.std.proofs.Common.{Bool as Truth, true, false, ◌≡◌, ℕ, ◌-◌, ◌*◌, ◌^◌, ◌<◌, ◌≤◌, max, ℤ, pos, negsuc, refl, ap, sym, subst, ◌∙◌, arith}
use Rattle.std.proofs.Math.Nat.{le-max_left, mul-le-mul_left, max-le}
use Rattle.vv_types.specs.Codec.{codec_of, codec_step, scalar_codec, width_of, width_step, int_width, enum_width, digit_count, reach}
use Rattle.vv_types.specs.Subtype.{HasElements, has_elements_step, index_count, low_end, high_end}
use Rattle.vv_types.proofs.DigitCount.{digit_count_least}
use Rattle.vv_types.specs.declared.base.BaseType.{BaseType}
use Rattle.vv_types.specs.declared.base.BaseType.TheVariants.{Logic, Bool, Int, Enum, Array as ArrayType}
use Rattle.vv_types.specs.declared.base.Bounds.{Bounds}
use Rattle.vv_types.specs.declared.base.Subtype.{Subtype, fold-roll-Subtype, ind-Subtype, rec-roll-Subtype, roll-Subtype, map-Subtype}
use Rattle.vv_types.specs.declared.base.Subtype.TheOpen.{Subtype-F}
use Rattle.vv_types.specs.declared.base.Subtype.TheOpen as layer
use Rattle.vv_types.specs.declared.base.Subtype.TheVariants.{Scalar}
use Rattle.vv_types.specs.declared.base.Subtype.TheViews.{Array, rolls-Array, rolls-Scalar}
use Rattle.vv_types.specs.declared.codec.Codec.{Codec, fold-roll-Codec}
use Rattle.vv_types.specs.declared.codec.Codec.TheOpen as code

-- ---- equations

codec_of_roll : (s : Subtype-F Subtype) → codec_of (roll-Subtype s) ≡ codec_step (map-Subtype Subtype Codec codec_of s)
codec_of_roll s = fold-roll-Subtype Codec codec_step s

pub width_of_array : (base : BaseType) (bounds : Bounds) (elem : Subtype) →
    width_of (codec_of (roll-Subtype (layer.Array base bounds elem))) ≡ index_count bounds * width_of (codec_of elem)
width_of_array base bounds elem =
    ap width_of (codec_of_roll (layer.Array base bounds elem))
    ∙ fold-roll-Codec ℕ width_step (code.Of (index_count bounds) (codec_of elem))

children_alone : (X : Type 0) → (child : X → Subtype) → (has : Subtype → Type 0) → (s : Subtype-F X) →
    has_elements_step X child (λ x. has (child x)) s ≡ has_elements_step Subtype (λ t. t) has (map-Subtype X Subtype child s)
children_alone X child has (layer.Scalar base left right down count) = refl
children_alone X child has (layer.Array base bounds elem) = refl

has_elements_roll : (s : Subtype-F Subtype) → HasElements (roll-Subtype s) ≡ has_elements_step Subtype (λ t. t) HasElements s
has_elements_roll s = rec-roll-Subtype (Type 0) has_elements_step children_alone s

pub elements_of_array : (base : BaseType) (bounds : Bounds) (elem : Subtype) →
    HasElements (roll-Subtype (layer.Array base bounds elem)) → (0 < index_count bounds) × HasElements elem
elements_of_array base bounds elem h = coe 0 1 (i. has_elements_roll (layer.Array base bounds elem) i) h

-- ---- no width is 0

int_width_positive : (low high : ℤ) → 1 ≤ int_width low high
int_width_positive (pos low) high = le-max_left 1 (digit_count (reach high))
int_width_positive (negsuc low) high = omega arith

scalar_width_positive : (base : BaseType) (low high : ℤ) (count : ℕ) → 1 ≤ width_of (scalar_codec base low high count)
scalar_width_positive Logic low high count = omega (arith, fold-roll-Codec ℕ width_step code.Std)
scalar_width_positive Bool low high count = omega (arith, fold-roll-Codec ℕ width_step code.Bool)
scalar_width_positive Int low high count =
    omega (arith, fold-roll-Codec ℕ width_step (code.Int low high), int_width_positive low high)
scalar_width_positive (Enum type) low high count =
    omega (arith, fold-roll-Codec ℕ width_step (code.Enum count), le-max_left 1 (digit_count (count - 1)))
scalar_width_positive (ArrayType type) low high count = omega (arith, fold-roll-Codec ℕ width_step code.Std)

abbrev HasWidth : Subtype → Type 0
HasWidth s = HasElements s → 1 ≤ width_of (codec_of s)

product_positive : (n w : ℕ) → 0 < n → 1 ≤ w → 1 ≤ n * w
product_positive n w hn hw = let h : n * 1 ≤ n * w = mul-le-mul_left n hw in omega (arith, h, hn)

layer_has_width : (s : Subtype-F ((t : Subtype) × HasWidth t)) →
    HasWidth (roll-Subtype (map-Subtype ((t : Subtype) × HasWidth t) Subtype (λ e. e.0) s))
layer_has_width (layer.Scalar base left right down count) h =
    let e = ap width_of (codec_of_roll (layer.Scalar base left right down count)) in
    omega (arith, e, scalar_width_positive base (low_end left right down) (high_end left right down) count)
layer_has_width (layer.Array base bounds elem) h =
    let has = elements_of_array base bounds elem.0 h in
    omega (arith, width_of_array base bounds elem.0, product_positive (index_count bounds) (width_of (codec_of elem.0)) has.0 (elem.1 has.1))

pub width_positive : (s : Subtype) → HasElements s → 1 ≤ width_of (codec_of s)
width_positive s = ind-Subtype HasWidth (λ x y is. subst (λ z. HasWidth (roll-Subtype z)) is (layer_has_width y)) s

-- ---- an array's element and its number of indexes are within the bounds of the whole

factor_le : (n w m : ℕ) → 0 < n → n * w ≤ m → w ≤ m
factor_le n w m hn h = let e : w * 1 ≤ w * n = mul-le-mul_left w hn in omega (arith, e, h)

pub element_fits : (base : BaseType) (bounds : Bounds) (elem : Subtype) (m : ℕ) → HasElements (Array base bounds elem) →
    width_of (codec_of (Array base bounds elem)) ≤ m →
    HasElements elem × (width_of (codec_of elem) ≤ m) × (index_count bounds ≤ m)
element_fits base bounds elem m h small =
    let e = sym (rolls-Array base bounds elem) in
    let has = elements_of_array base bounds elem (subst HasElements e h) in
    let width : index_count bounds * width_of (codec_of elem) ≤ m
    = omega (arith, ap (λ s. width_of (codec_of s)) e, width_of_array base bounds elem, small) in
    let turned : width_of (codec_of elem) * index_count bounds ≤ m = omega (arith, width) in (
      has.1,
      factor_le (index_count bounds) (width_of (codec_of elem)) m has.0 width,
      factor_le (width_of (codec_of elem)) (index_count bounds) m (width_positive elem has.1) turned,
    )

-- ---- a scalar has few bits

few_digits : (n k : ℕ) → n < 2 ^ k → digit_count n ≤ k
few_digits n k h = digit_count_least n k h

int_width_small : (low high : ℤ) → reach low < 2 ^ 31 → reach high < 2 ^ 31 → int_width low high ≤ 32
int_width_small (pos low) high below above =
    let d : digit_count (reach high) ≤ 31 = few_digits (reach high) 31 above in
    max-le (omega arith) (omega (arith, d))
int_width_small (negsuc low) high below above =
    let d : digit_count (max low (reach high)) ≤ 31 = few_digits (max low (reach high)) 31 (omega (arith, below, above)) in
    omega (arith, d)

enum_width_small : (count : ℕ) → count < 2 ^ 32 → enum_width count ≤ 32
enum_width_small count h = max-le (omega arith) (few_digits (count - 1) 32 (omega (arith, h)))

pub scalar_codec_small : (base : BaseType) (low high : ℤ) (count : ℕ) → reach low < 2 ^ 31 → reach high < 2 ^ 31 → count < 2 ^ 32 →
    width_of (scalar_codec base low high count) ≤ 32
scalar_codec_small Logic low high count below above few = omega (arith, fold-roll-Codec ℕ width_step code.Std)
scalar_codec_small Bool low high count below above few = omega (arith, fold-roll-Codec ℕ width_step code.Bool)
scalar_codec_small Int low high count below above few =
    omega (arith, fold-roll-Codec ℕ width_step (code.Int low high), int_width_small low high below above)
scalar_codec_small (Enum type) low high count below above few =
    omega (arith, fold-roll-Codec ℕ width_step (code.Enum count), enum_width_small count few)
scalar_codec_small (ArrayType type) low high count below above few = omega (arith, fold-roll-Codec ℕ width_step code.Std)

-- ---- the subtypes as they are written

pub scalar_has_elements : (base : BaseType) (left right : ℤ) (down : Truth) (count : ℕ) →
    HasElements (Scalar base left right down count)
scalar_has_elements base left right down count =
    coe 0 1 (i. HasElements (rolls-Scalar base left right down count i))
    (coe 1 0 (i. has_elements_roll (layer.Scalar base left right down count) i) tt)

pub codec_of_scalar : (base : BaseType) (left right : ℤ) (down : Truth) (count : ℕ) →
    codec_of (Scalar base left right down count) ≡ scalar_codec base (low_end left right down) (high_end left right down) count
codec_of_scalar base left right down count =
    ap codec_of (sym (rolls-Scalar base left right down count)) ∙ codec_of_roll (layer.Scalar base left right down count)

pub scalar_small : (base : BaseType) (left right : ℤ) (down : Truth) (count : ℕ) →
    reach left < 2 ^ 31 → reach right < 2 ^ 31 → count < 2 ^ 32 → width_of (codec_of (Scalar base left right down count)) ≤ 32
scalar_small base left right true count hl hr hc =
    omega (arith, ap width_of (codec_of_scalar base left right true count), scalar_codec_small base right left count hr hl hc)
scalar_small base left right false count hl hr hc =
    omega (arith, ap width_of (codec_of_scalar base left right false count), scalar_codec_small base left right count hl hr hc)

pub array_has_elements : (base : BaseType) (bounds : Bounds) (elem : Subtype) → 0 < index_count bounds → HasElements elem →
    HasElements (Array base bounds elem)
array_has_elements base bounds elem some has =
    coe 0 1 (i. HasElements (rolls-Array base bounds elem i))
    (coe 1 0 (i. has_elements_roll (layer.Array base bounds elem) i) (some, has))

pub array_width : (base : BaseType) (bounds : Bounds) (elem : Subtype) →
    width_of (codec_of (Array base bounds elem)) ≡ index_count bounds * width_of (codec_of elem)
array_width base bounds elem = ap (λ s. width_of (codec_of s)) (sym (rolls-Array base bounds elem)) ∙ width_of_array base bounds elem

pub array_small : (base : BaseType) (bounds : Bounds) (elem : Subtype) (m : ℕ) → index_count bounds ≤ m →
    width_of (codec_of (Array base bounds elem)) ≤ m * width_of (codec_of elem)
array_small base bounds elem m few =
    let h : width_of (codec_of elem) * index_count bounds ≤ width_of (codec_of elem) * m = mul-le-mul_left (width_of (codec_of elem)) few in
    omega (arith, h, array_width base bounds elem)
