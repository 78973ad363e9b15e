-- The laws of the event design of a flat design.
use Rattle.std.proofs.Common.{◌≡◌, ℕ, List, [], ◌∷◌, refl, ap, ap₂}
use Rattle.vv_vast.specs.Tree as vast
use Rattle.vv_bits.specs.declared.four.V4.{V4}
use Rattle.vv_events.specs.Values.{and_bits, or_bits, xor_bits, not_bits}
use Rattle.vv_events.specs.Expressions.{value}
use Rattle.vv_gate_verilog.specs.Events.{expr_of, bit_value}

pub value_bit : (e : vast.Expr ℕ) (bits : List V4) → value (expr_of e) bits ≡ bit_value e bits ∷ []
value_bit (vast.literal b) bits = refl
value_bit (vast.name n) bits = refl
value_bit (vast.unary vast.not' e) bits = ap not_bits (value_bit e bits)
value_bit (vast.binary vast.and' e g) bits = ap₂ and_bits (value_bit e bits) (value_bit g bits)
value_bit (vast.binary vast.or' e g) bits = ap₂ or_bits (value_bit e bits) (value_bit g bits)
value_bit (vast.binary vast.xor' e g) bits = ap₂ xor_bits (value_bit e bits) (value_bit g bits)
