-- What each operator gives for its operands.
use Rattle.std.specs.Prelude.{Bool, false, ◌&&◌, ◌||◌, not, List, [], ◌∷◌, ◌++◌, map, ℤ, pos, int_lt, int_le, if◌then◌else◌}
use Rattle.std.specs.List.{zip}
use Rattle.vv_bits.specs.declared.nine.S9.{S9}
use Rattle.vv_bits.specs.Nine.{and_rule, or_rule, xor_rule, nand_rule, nor_rule, xnor_rule, not_rule}
use Rattle.vv_types.specs.declared.standard.StdFn.{StdFn}
use Rattle.vv_types.specs.declared.standard.StdFn.TheVariants as f
use Rattle.vv_types.specs.declared.value.Value.{Value, out-Value, roll-Value}
use Rattle.vv_types.specs.declared.value.Value.TheOpen.{Value-F}
use Rattle.vv_types.specs.declared.value.Value.TheOpen as v
use Rattle.vv_std_values.specs.declared.arrays.Part.{Part}
use Rattle.vv_std_values.specs.declared.arrays.Part.TheVariants.{Elements, Element}
use Rattle.vv_std_values.specs.declared.gates.Gate.{Gate}
use Rattle.vv_std_values.specs.declared.gates.Gate.TheVariants.{And, Or, Xor, Nand, Nor, Xnor}
use Rattle.vv_std_values.specs.Equality.{same_bool, same_value}

abbrev pub boolean : Bool → Value
boolean b = roll-Value (v.Bool b)

-- what a row gives for operands that it does not have
abbrev pub no_row : Value
no_row = boolean false

-- the number by which a value is ordered: FALSE stands before TRUE
abbrev pub rank_layer : Value-F Value → ℤ
rank_layer (v.Bool b) = if b then pos 1 else pos 0
rank_layer (v.Int z) = z
rank_layer (v.Enum position) = pos position
rank_layer _ = pos 0

abbrev pub rank : Value → ℤ
rank a = rank_layer (out-Value a)

-- the truth table of a logical operator
abbrev pub boolean_rule : Gate → Bool → Bool → Bool
boolean_rule And a b = a && b
boolean_rule Or a b = a || b
boolean_rule Xor a b = not (same_bool a b)
boolean_rule Nand a b = not (a && b)
boolean_rule Nor a b = not (a || b)
boolean_rule Xnor a b = same_bool a b

-- the table of a logical operator on std_ulogic
abbrev pub logic_rule : Gate → S9 → S9 → S9
logic_rule And a b = and_rule a b
logic_rule Or a b = or_rule a b
logic_rule Xor a b = xor_rule a b
logic_rule Nand a b = nand_rule a b
logic_rule Nor a b = nor_rule a b
logic_rule Xnor a b = xnor_rule a b

abbrev pub booleans : Gate → Value-F Value → Value-F Value → Value
booleans gate (v.Bool a) (v.Bool b) = boolean (boolean_rule gate a b)
booleans gate _ _ = no_row

abbrev pub boolean_row : Gate → Value → Value → Value
boolean_row gate a b = booleans gate (out-Value a) (out-Value b)

abbrev pub logics : Gate → Value-F Value → Value-F Value → Value
logics gate (v.Logic a) (v.Logic b) = roll-Value (v.Logic (logic_rule gate a b))
logics gate _ _ = no_row

abbrev pub logic_row : Gate → Value → Value → Value
logic_row gate a b = logics gate (out-Value a) (out-Value b)

abbrev pub vectors : Gate → Value-F Value → Value-F Value → Value
vectors gate (v.Array xs) (v.Array ys) = roll-Value (v.Array (map (λ p. logic_row gate p.0 p.1) (zip xs ys)))
vectors gate _ _ = no_row

-- element by element from the left
abbrev pub vector_row : Gate → Value → Value → Value
vector_row gate a b = vectors gate (out-Value a) (out-Value b)

abbrev pub not_boolean : Value-F Value → Value
not_boolean (v.Bool a) = boolean (not a)
not_boolean _ = no_row

abbrev pub not_logic : Value-F Value → Value
not_logic (v.Logic a) = roll-Value (v.Logic (not_rule a))
not_logic _ = no_row

abbrev pub not_vector : Value-F Value → Value
not_vector (v.Array xs) = roll-Value (v.Array (map (λ x. not_logic (out-Value x)) xs))
not_vector _ = no_row

abbrev pub elements_layer : Value-F Value → List Value
elements_layer (v.Array xs) = xs
elements_layer _ = []

abbrev pub elements : Value → List Value
elements a = elements_layer (out-Value a)

-- what an operand of `&` brings: its elements, or itself
abbrev pub brought : Part → Value → List Value
brought Elements a = elements a
brought Element a = a ∷ []

abbrev pub array : List Value → Value
array xs = roll-Value (v.Array xs)

-- the relations of two operands
abbrev pub relation_row : StdFn → Value → Value → Bool
relation_row f.EqualLogic a b = same_value a b
relation_row f.EqualBool a b = same_value a b
relation_row f.EqualInt a b = same_value a b
relation_row f.EqualEnum a b = same_value a b
relation_row f.EqualArray a b = same_value a b
relation_row f.NotEqualLogic a b = not (same_value a b)
relation_row f.NotEqualBool a b = not (same_value a b)
relation_row f.NotEqualInt a b = not (same_value a b)
relation_row f.NotEqualEnum a b = not (same_value a b)
relation_row f.NotEqualArray a b = not (same_value a b)
relation_row f.LessBool a b = int_lt (rank a) (rank b)
relation_row f.LessInt a b = int_lt (rank a) (rank b)
relation_row f.LessEnum a b = int_lt (rank a) (rank b)
relation_row f.LessEqualBool a b = int_le (rank a) (rank b)
relation_row f.LessEqualInt a b = int_le (rank a) (rank b)
relation_row f.LessEqualEnum a b = int_le (rank a) (rank b)
relation_row f.GreaterBool a b = int_lt (rank b) (rank a)
relation_row f.GreaterInt a b = int_lt (rank b) (rank a)
relation_row f.GreaterEnum a b = int_lt (rank b) (rank a)
relation_row f.GreaterEqualBool a b = int_le (rank b) (rank a)
relation_row f.GreaterEqualInt a b = int_le (rank b) (rank a)
relation_row f.GreaterEqualEnum a b = int_le (rank b) (rank a)
relation_row _ a b = false

-- the rows of two operands
abbrev pub row_of_two : StdFn → Value → Value → Value
row_of_two f.AndBool a b = boolean_row And a b
row_of_two f.OrBool a b = boolean_row Or a b
row_of_two f.XorBool a b = boolean_row Xor a b
row_of_two f.NandBool a b = boolean_row Nand a b
row_of_two f.NorBool a b = boolean_row Nor a b
row_of_two f.XnorBool a b = boolean_row Xnor a b
row_of_two f.AndLogic a b = logic_row And a b
row_of_two f.OrLogic a b = logic_row Or a b
row_of_two f.XorLogic a b = logic_row Xor a b
row_of_two f.NandLogic a b = logic_row Nand a b
row_of_two f.NorLogic a b = logic_row Nor a b
row_of_two f.XnorLogic a b = logic_row Xnor a b
row_of_two f.AndVector a b = vector_row And a b
row_of_two f.OrVector a b = vector_row Or a b
row_of_two f.XorVector a b = vector_row Xor a b
row_of_two f.NandVector a b = vector_row Nand a b
row_of_two f.NorVector a b = vector_row Nor a b
row_of_two f.XnorVector a b = vector_row Xnor a b
row_of_two f.ConcatenateArrays a b = array (elements a ++ elements b)
row_of_two f.ConcatenateArrayElement a b = array (elements a ++ b ∷ [])
row_of_two f.ConcatenateElementArray a b = array (a ∷ elements b)
row_of_two f.ConcatenateElements a b = array (a ∷ b ∷ [])
row_of_two f a b = boolean (relation_row f a b)

-- the rows of one operand
abbrev pub row_of_one : StdFn → Value → Value
row_of_one f.NotBool a = not_boolean (out-Value a)
row_of_one f.NotLogic a = not_logic (out-Value a)
row_of_one f.NotVector a = not_vector (out-Value a)
row_of_one _ a = no_row

-- the value of an operator for its operands from the left
abbrev pub std_row : StdFn → List Value → Value
std_row f (a ∷ []) = row_of_one f a
std_row f (a ∷ b ∷ []) = row_of_two f a b
std_row f _ = no_row
