-- What each operator gives for operands that lie in cells, one scalar in each cell: a truth value as 0 or 1, an element of
-- std_ulogic by its place, a number as itself, an enumeration value by its position, an array by its scalars from the left.
use Rattle.std.specs.Prelude.{◌≡◌, ℕ, ◌+◌, ◌<◌, Bool, false, not, List, [], ◌∷◌, ◌++◌, map, ℤ, pos, int_lt, int_le, if◌then◌else◌}
use Rattle.std.specs.Cmp.Lexicographic.{pointwise}
use Rattle.std.specs.List.{zip}
use Rattle.std.specs.Ordering.{int_eq}
use Rattle.vv_bits.specs.declared.nine.S9.{S9}
use Rattle.vv_bits.specs.Nine.{not_rule}
use Rattle.vv_std_values.specs.declared.gates.Gate.{Gate}
use Rattle.vv_std_values.specs.declared.gates.Gate.TheVariants.{And, Or, Xor, Nand, Nor, Xnor}
use Rattle.vv_std_values.specs.Rows.{boolean_rule, logic_rule}
use Rattle.vv_types.specs.declared.standard.StdFn.{StdFn}
use Rattle.vv_types.specs.declared.standard.StdFn.TheVariants as f
use Rattle.vv_vectors.specs.Vectors.{bit_of, cell_of}

-- a truth value as a cell
abbrev pub truth : Bool → ℤ
truth b = if b then pos 1 else pos 0

-- the first cell of an operand
abbrev pub first : List ℤ → ℤ
first [] = pos 0
first (z ∷ zs) = z

-- the truth value that an operand holds
abbrev pub holds : List ℤ → Bool
holds zs = not (int_eq (first zs) (pos 0))

abbrev pub same_cells : List ℤ → List ℤ → Bool
same_cells a b = pointwise int_eq a b

-- a logical operator on elements, from the left
unfoldable pub logic : Gate → List S9 → List S9 → List S9
logic gate xs ys = map (λ p. logic_rule gate p.0 p.1) (zip xs ys)

abbrev pub truth_cells : Gate → List ℤ → List ℤ → List ℤ
truth_cells gate a b = truth (boolean_rule gate (holds a) (holds b)) ∷ []

abbrev pub logic_cells : Gate → List ℤ → List ℤ → List ℤ
logic_cells gate a b = map cell_of (logic gate (map bit_of a) (map bit_of b))

abbrev pub not_cells : List ℤ → List ℤ
not_cells a = map cell_of (map not_rule (map bit_of a))

abbrev pub relation_holds : StdFn → List ℤ → List ℤ → Bool
relation_holds f.EqualLogic a b = same_cells a b
relation_holds f.EqualBool a b = same_cells a b
relation_holds f.EqualInt a b = same_cells a b
relation_holds f.EqualEnum a b = same_cells a b
relation_holds f.EqualArray a b = same_cells a b
relation_holds f.NotEqualLogic a b = not (same_cells a b)
relation_holds f.NotEqualBool a b = not (same_cells a b)
relation_holds f.NotEqualInt a b = not (same_cells a b)
relation_holds f.NotEqualEnum a b = not (same_cells a b)
relation_holds f.NotEqualArray a b = not (same_cells a b)
relation_holds f.LessBool a b = int_lt (first a) (first b)
relation_holds f.LessInt a b = int_lt (first a) (first b)
relation_holds f.LessEnum a b = int_lt (first a) (first b)
relation_holds f.LessEqualBool a b = int_le (first a) (first b)
relation_holds f.LessEqualInt a b = int_le (first a) (first b)
relation_holds f.LessEqualEnum a b = int_le (first a) (first b)
relation_holds f.GreaterBool a b = int_lt (first b) (first a)
relation_holds f.GreaterInt a b = int_lt (first b) (first a)
relation_holds f.GreaterEnum a b = int_lt (first b) (first a)
relation_holds f.GreaterEqualBool a b = int_le (first b) (first a)
relation_holds f.GreaterEqualInt a b = int_le (first b) (first a)
relation_holds f.GreaterEqualEnum a b = int_le (first b) (first a)
relation_holds _ a b = false

-- the cells of the result
abbrev pub cells_row : StdFn → List ℤ → List ℤ → List ℤ
cells_row f.AndBool a b = truth_cells And a b
cells_row f.OrBool a b = truth_cells Or a b
cells_row f.XorBool a b = truth_cells Xor a b
cells_row f.NandBool a b = truth_cells Nand a b
cells_row f.NorBool a b = truth_cells Nor a b
cells_row f.XnorBool a b = truth_cells Xnor a b
cells_row f.AndLogic a b = logic_cells And a b
cells_row f.OrLogic a b = logic_cells Or a b
cells_row f.XorLogic a b = logic_cells Xor a b
cells_row f.NandLogic a b = logic_cells Nand a b
cells_row f.NorLogic a b = logic_cells Nor a b
cells_row f.XnorLogic a b = logic_cells Xnor a b
cells_row f.AndVector a b = logic_cells And a b
cells_row f.OrVector a b = logic_cells Or a b
cells_row f.XorVector a b = logic_cells Xor a b
cells_row f.NandVector a b = logic_cells Nand a b
cells_row f.NorVector a b = logic_cells Nor a b
cells_row f.XnorVector a b = logic_cells Xnor a b
cells_row f.NotBool a b = truth (not (holds a)) ∷ []
cells_row f.NotLogic a b = not_cells a
cells_row f.NotVector a b = not_cells a
cells_row f.ConcatenateArrays a b = a ++ b
cells_row f.ConcatenateArrayElement a b = a ++ b
cells_row f.ConcatenateElementArray a b = a ++ b
cells_row f.ConcatenateElements a b = a ++ b
cells_row f a b = truth (relation_holds f a b) ∷ []

-- the sizes of the operands and of the result are those of the operator's row
abbrev pub FitsSizes : StdFn → ℕ → ℕ → ℕ → Type 0
FitsSizes f.AndLogic a b to = (a ≡ to) × (b ≡ to)
FitsSizes f.OrLogic a b to = (a ≡ to) × (b ≡ to)
FitsSizes f.XorLogic a b to = (a ≡ to) × (b ≡ to)
FitsSizes f.NandLogic a b to = (a ≡ to) × (b ≡ to)
FitsSizes f.NorLogic a b to = (a ≡ to) × (b ≡ to)
FitsSizes f.XnorLogic a b to = (a ≡ to) × (b ≡ to)
FitsSizes f.AndVector a b to = (a ≡ to) × (b ≡ to)
FitsSizes f.OrVector a b to = (a ≡ to) × (b ≡ to)
FitsSizes f.XorVector a b to = (a ≡ to) × (b ≡ to)
FitsSizes f.NandVector a b to = (a ≡ to) × (b ≡ to)
FitsSizes f.NorVector a b to = (a ≡ to) × (b ≡ to)
FitsSizes f.XnorVector a b to = (a ≡ to) × (b ≡ to)
FitsSizes f.NotLogic a b to = a ≡ to
FitsSizes f.NotVector a b to = a ≡ to
FitsSizes f.ConcatenateArrays a b to = (0 < b) × (to ≡ a + b)
FitsSizes f.ConcatenateArrayElement a b to = (0 < b) × (to ≡ a + b)
FitsSizes f.ConcatenateElementArray a b to = (0 < b) × (to ≡ a + b)
FitsSizes f.ConcatenateElements a b to = (0 < b) × (to ≡ a + b)
FitsSizes _ a b to = to ≡ 1
