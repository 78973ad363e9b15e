-- Relations of numbers.
use Rattle.std.specs.Prelude.{Bool, true, false, ◌||◌, if◌then◌else◌, List, ℤ, pos}
use Rattle.std.specs.declared.cmp.Ordering.{Ordering}
use Rattle.std.specs.Ordering.{int_cmp, is_eq, is_ne, is_lt, is_le, is_gt, is_ge}
use Rattle.vv_num_vectors.specs.declared.operand.Operand.{Operand}
use Rattle.vv_num_vectors.specs.declared.comparison.Relation.{Relation}
use Rattle.vv_num_vectors.specs.declared.comparison.Relation.TheVariants as r
use Rattle.vv_num_vectors.specs.Operands.{is_meta_in, value_of}

-- the relation holds of numbers that stand in this order
abbrev pub admits : Relation → Ordering → Bool
admits r.Equal order = is_eq order
admits r.NotEqual order = is_ne order
admits r.Less order = is_lt order
admits r.LessEqual order = is_le order
admits r.Greater order = is_gt order
admits r.GreaterEqual order = is_ge order

-- what a relation answers where an operand has a metavalue
abbrev pub without_value : Relation → Bool
without_value r.NotEqual = true
without_value _ = false

-- the relation of two operands
abbrev pub compared : Relation → List ℤ → Operand → Operand → Bool
compared relation cells a b =
    if is_meta_in cells a || is_meta_in cells b then without_value relation
    else admits relation (int_cmp (value_of cells a) (value_of cells b))

abbrev pub boolean_cell : Bool → ℤ
boolean_cell false = pos 0
boolean_cell true = pos 1
