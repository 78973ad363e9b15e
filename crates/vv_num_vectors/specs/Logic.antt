-- Logical operators, element by element.
use Rattle.std.specs.Prelude.{List, [], ◌∷◌}
use Rattle.vv_bits.specs.declared.nine.S9.{S9}
use Rattle.vv_bits.specs.Nine.{and_rule, or_rule, xor_rule, nand_rule, nor_rule, xnor_rule}
use Rattle.vv_num_vectors.specs.declared.logic.Gate.{Gate}
use Rattle.vv_num_vectors.specs.declared.logic.Gate.TheVariants as g

-- what an operator gives for two elements
abbrev pub gate_rule : Gate → S9 → S9 → S9
gate_rule g.And a b = and_rule a b
gate_rule g.Or a b = or_rule a b
gate_rule g.Xor a b = xor_rule a b
gate_rule g.Nand a b = nand_rule a b
gate_rule g.Nor a b = nor_rule a b
gate_rule g.Xnor a b = xnor_rule a b

-- what it gives for the elements of two vectors of one length
abbrev pub combined : Gate → List S9 → List S9 → List S9
combined gate (a ∷ xs) (b ∷ ys) = gate_rule gate a b ∷ combined gate xs ys
combined gate _ _ = []
