-- The codec: which codec a subtype has, how many bits it has, and the bits of a value.
use Rattle.std.specs.Prelude.{◌≡◌, ◌<◌, ◌≤◌, ◌≤ℤ◌, ◌<ℤ◌, neg_ℤ, length, ℕ, zero, suc, ◌+◌, ◌-◌, ◌*◌, ◌^◌, max, if◌then◌else◌, nat_lt, ℤ, pos, negsuc, List, [], ◌∷◌}
use Rattle.std.specs.List.{flat_map, AllByRecursion}
use Rattle.vv_bits.specs.declared.nine.S9.{S9}
use Rattle.vv_bits.specs.declared.nine.S9.TheVariants.{Zero, One}
use Rattle.vv_types.specs.Number.{vector_of, signed_vector_of}
use Rattle.vv_types.specs.Subtype.{low_end, high_end, index_count}
use Rattle.vv_types.specs.declared.base.BaseType.{BaseType}
use Rattle.vv_types.specs.declared.base.BaseType.TheVariants as b
use Rattle.vv_types.specs.declared.base.Subtype.{Subtype, fold-Subtype}
use Rattle.vv_types.specs.declared.base.Subtype.TheOpen.{Subtype-F}
use Rattle.vv_types.specs.declared.base.Subtype.TheOpen as s
use Rattle.vv_types.specs.declared.codec.Codec.{Codec, fold-Codec, rec-Codec, roll-Codec}
use Rattle.vv_types.specs.declared.codec.Codec.TheOpen.{Codec-F}
use Rattle.vv_types.specs.declared.codec.Codec.TheOpen as c
use Rattle.vv_types.specs.declared.value.Value.{Value, out-Value}
use Rattle.vv_types.specs.declared.value.Value.TheOpen.{Value-F}
use Rattle.vv_types.specs.declared.value.Value.TheOpen as v

-- the first of the widths w, w + 1, .. that holds n, where `more` of them are tried
abbrev pub first_to_hold : ℕ → ℕ → ℕ → ℕ
first_to_hold zero w n = w
first_to_hold (suc more) w n = if nat_lt n (2 ^ w) then w else first_to_hold more (w + 1) n

-- the fewest binary digits that hold n, none for 0
unfoldable pub digit_count : ℕ → ℕ
digit_count n = first_to_hold n 0 n

-- what the digits beside the sign hold: n for n and for -(n + 1)
abbrev pub reach : ℤ → ℕ
reach (pos n) = n
reach (negsuc n) = n

-- the fewest bits, at least 1, that hold the numbers from one to another
abbrev pub int_width : ℤ → ℤ → ℕ
int_width (pos low) high = max 1 (digit_count (reach high))
int_width (negsuc low) high = 1 + digit_count (max low (reach high))

-- the fewest bits, at least 1, that hold the positions of so many literals
abbrev pub enum_width : ℕ → ℕ
enum_width count = max 1 (digit_count (count - 1))

-- w is the least width, from 1 on, for which the fact holds
pub record IsFewest (holds : ℕ → Type 0) (w : ℕ) : Type 0 where
  pub some : 1 ≤ w
  pub enough : holds w
  pub least : (v : ℕ) → 1 ≤ v → holds v → w ≤ v

-- two's complement of w bits has the number: from -2 ^ (w - 1) to 2 ^ (w - 1) - 1
pub record IsHeldBy (w : ℕ) (z : ℤ) : Type 0 where
  pub above : neg_ℤ (pos (2 ^ (w - 1))) ≤ℤ z
  pub below : z <ℤ pos (2 ^ (w - 1))

abbrev pub width_step : Codec-F ℕ → ℕ
width_step c.Std = 1
width_step c.Bool = 1
width_step (c.Int low high) = int_width low high
width_step (c.Enum count) = enum_width count
width_step (c.Of n elem) = n * elem

-- how many bits each value of a codec has
abbrev pub width_of : Codec → ℕ
width_of codec = fold-Codec ℕ width_step codec

abbrev pub std_bits : Value-F Value → List S9
std_bits (v.Logic x) = x ∷ []
std_bits _ = []

abbrev pub bool_bits : Value-F Value → List S9
bool_bits (v.Bool x) = (if x then One else Zero) ∷ []
bool_bits _ = []

-- two's complement, which a number that is not negative has for its own digits
abbrev pub int_bits : ℕ → Value-F Value → List S9
int_bits width (v.Int x) = signed_vector_of width x
int_bits width _ = []

abbrev pub enum_bits : ℕ → Value-F Value → List S9
enum_bits width (v.Enum position) = vector_of width position
enum_bits width _ = []

-- the elements' bits, the leftmost first
abbrev pub array_bits : (Value → List S9) → Value-F Value → List S9
array_bits bits (v.Array xs) = flat_map bits xs
array_bits bits _ = []

abbrev pub bits_step : Codec-F (Value → List S9) → Value → List S9
bits_step c.Std x = std_bits (out-Value x)
bits_step c.Bool x = bool_bits (out-Value x)
bits_step (c.Int low high) x = int_bits (int_width low high) (out-Value x)
bits_step (c.Enum count) x = enum_bits (enum_width count) (out-Value x)
bits_step (c.Of n elem) x = array_bits elem (out-Value x)

-- the bits of a value, leftmost first
abbrev pub bits_of : Codec → Value → List S9
bits_of codec x = fold-Codec (Value → List S9) bits_step codec x

abbrev pub IsLogic : Value-F Value → Type 0
IsLogic (v.Logic x) = Unit {0}
IsLogic _ = ⊥

abbrev pub IsBool : Value-F Value → Type 0
IsBool (v.Bool x) = Unit {0}
IsBool _ = ⊥

abbrev pub IsIntWithin : ℤ → ℤ → Value-F Value → Type 0
IsIntWithin low high (v.Int x) = (low ≤ℤ x) × (x ≤ℤ high)
IsIntWithin low high _ = ⊥

abbrev pub IsPositionBelow : ℕ → Value-F Value → Type 0
IsPositionBelow count (v.Enum position) = position < count
IsPositionBelow count _ = ⊥

abbrev pub IsArrayOf : ℕ → (Value → Type 0) → Value-F Value → Type 0
IsArrayOf n P (v.Array xs) = (length xs ≡ n) × AllByRecursion P xs
IsArrayOf n P _ = ⊥

abbrev pub value_step : (X : Type 0) → (X → Codec) → (X → Value → Type 0) → Codec-F X → Value → Type 0
value_step X child P c.Std x = IsLogic (out-Value x)
value_step X child P c.Bool x = IsBool (out-Value x)
value_step X child P (c.Int low high) x = IsIntWithin low high (out-Value x)
value_step X child P (c.Enum count) x = IsPositionBelow count (out-Value x)
value_step X child P (c.Of n elem) x = IsArrayOf n (P elem) (out-Value x)

-- the value is one of those that the codec writes
abbrev pub IsValueOf : Codec → Value → Type 0
IsValueOf codec x = rec-Codec (Value → Type 0) value_step codec x

-- the codec of a scalar by its base type, which is no array type
abbrev pub scalar_codec : BaseType → ℤ → ℤ → ℕ → Codec
scalar_codec b.Logic low high count = roll-Codec c.Std
scalar_codec b.Bool low high count = roll-Codec c.Bool
scalar_codec b.Int low high count = roll-Codec (c.Int low high)
scalar_codec (b.Enum type) low high count = roll-Codec (c.Enum count)
scalar_codec (b.Array type) low high count = roll-Codec c.Std

abbrev pub codec_step : Subtype-F Codec → Codec
codec_step (s.Scalar base left right down count) =
    scalar_codec base (low_end left right down) (high_end left right down) count
codec_step (s.Array base bounds elem) = roll-Codec (c.Of (index_count bounds) elem)

-- the codec of a subtype
abbrev pub codec_of : Subtype → Codec
codec_of t = fold-Subtype Codec codec_step t
