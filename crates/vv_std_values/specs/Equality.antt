-- Equality of values.
use Rattle.std.specs.Prelude.{Bool, false, not, nat_eq, if◌then◌else◌}
use Rattle.std.specs.Cmp.Lexicographic.{pointwise}
use Rattle.std.specs.Ordering.{int_eq}
use Rattle.vv_bits.specs.Nine.{same}
use Rattle.vv_types.specs.declared.value.Value.{Value, out-Value, fold-Value}
use Rattle.vv_types.specs.declared.value.Value.TheOpen.{Value-F}
use Rattle.vv_types.specs.declared.value.Value.TheOpen as v

abbrev pub same_bool : Bool → Bool → Bool
same_bool a b = if a then b else not b

abbrev pub same_layer : Value-F (Value → Bool) → Value-F Value → Bool
same_layer (v.Logic a) (v.Logic b) = same a b
same_layer (v.Bool a) (v.Bool b) = same_bool a b
same_layer (v.Int a) (v.Int b) = int_eq a b
same_layer (v.Enum a) (v.Enum b) = nat_eq a b
same_layer (v.Array tests) (v.Array xs) = pointwise (λ is_same x. is_same x) tests xs
same_layer _ _ = false

abbrev pub same_step : Value-F (Value → Bool) → Value → Bool
same_step a b = same_layer a (out-Value b)

-- the values are the same: arrays have as many elements, and the same ones from the left
abbrev pub same_value : Value → Value → Bool
same_value a b = fold-Value (Value → Bool) same_step a b
