-- What a row enters on the in ports.
use Rattle.std.specs.Prelude.{ℕ, zero, suc, nat_eq, cond, List, [], ◌∷◌}
use Rattle.vv_bits.specs.declared.nine.S9.{S9}
use Rattle.vv_gate.specs.Tree.{Port}
use Rattle.vv_cycle.specs.Rows.{Entry}

-- the number of in ports before port k, which is the number of its input
abbrev pub input_number : List Port → ℕ → ℕ
input_number [] k = 0
input_number (p ∷ ports) zero = 0
input_number (p ∷ ports) (suc k) = cond p.input (suc (input_number ports k)) (input_number ports k)

abbrev pub bit_or : List S9 → S9 → S9
bit_or [] v = v
bit_or (b ∷ bits) v = b

-- the bit that the entries give input i, or v where none is of it
abbrev pub new_bit : List Entry → ℕ → S9 → S9
new_bit [] i v = v
new_bit (e ∷ es) i v = new_bit es i (cond (nat_eq e.input i) (bit_or e.bits v) v)
