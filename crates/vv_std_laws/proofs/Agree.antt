-- Rows over cells and rows over values.
use Rattle.std.proofs.Common.{◌≡◌, Bool, true, false, not, List, [], ◌∷◌, ◌++◌, ℤ, int_lt, int_le, refl, ap, sym, subst, ◌∙◌, map, append-nil}
use Rattle.std.proofs.lemmas.Grind.{flat_map-append}
use Rattle.std.specs.List.{AllByRecursion, flat_map, zip}
use Rattle.vv_bits.specs.declared.nine.S9.{S9}
use Rattle.vv_bits.specs.Nine.{not_rule}
use Rattle.vv_types.specs.Codec.{IsBool, IsLogic}
use Rattle.vv_types.specs.declared.standard.StdFn.{StdFn}
use Rattle.vv_types.specs.declared.standard.StdFn.TheVariants as f
use Rattle.vv_types.specs.declared.value.Value.{Value, out-Value, out-roll-Value, roll-Value, roll-out-Value}
use Rattle.vv_types.specs.declared.value.Value.TheOpen.{Value-F}
use Rattle.vv_types.specs.declared.value.Value.TheOpen as v
use Rattle.vv_vectors.specs.Vectors.{cell_of}
use Rattle.vv_vectors.proofs.Places.{bit_of_cell, bits_of_cells}
use Rattle.vv_std_values.specs.Equality.{same_value}
use Rattle.vv_std_values.specs.Rows.{array, boolean, boolean_rule, booleans, elements_layer, logic_row, logic_rule, logics, not_boolean, not_logic, not_vector, rank, rank_layer, row_of_one, row_of_two, vectors}
use Rattle.vv_std_values.specs.declared.gates.Gate.{Gate}
use Rattle.vv_std_values.specs.declared.gates.Gate.TheVariants.{And, Or, Xor, Nand, Nor, Xnor}
use Rattle.vv_std_cells.specs.Rows.{cells_row, first, holds, logic, logic_cells, not_cells, same_cells, truth, truth_cells}
use Rattle.vv_std_laws.specs.Cells.{cells_of}
use Rattle.vv_std_laws.specs.Operands.{AreAlike, AreBoth, AreOperands, IsArray, IsInt, IsOperand, IsPosition, IsVector}
use Rattle.vv_std_laws.proofs.Layers.{array_layer, bool_layer, cells_out, cells_roll, int_layer, joined_map, layer_cells, logic_layer, position_layer}
use Rattle.vv_std_laws.proofs.Alike.{alike_agree, bools_agree, ints_agree, logics_agree, positions_agree, same_by_layers}

truth_of_cell : (b : Bool) → holds (truth b ∷ []) ≡ b
truth_of_cell true = refl
truth_of_cell false = refl

cells_of_truth : (b : Bool) → cells_of (boolean b) ≡ truth b ∷ []
cells_of_truth b = cells_roll (v.Bool b)

-- a row by the outermost layers of its operands
module _ (F : List ℤ → List ℤ → List ℤ) (R : Value-F Value → Value-F Value → Value) where
  by_layers : (a b : Value) (x y : Value-F Value) → out-Value a ≡ x → out-Value b ≡ y →
      F (layer_cells x) (layer_cells y) ≡ cells_of (R x y) → F (cells_of a) (cells_of b) ≡ cells_of (R (out-Value a) (out-Value b))
  by_layers a b x y left right core =
      (λ i. F (cells_out a i) (cells_out b i))
      ∙ (λ i. F (layer_cells (left i)) (layer_cells (right i)))
      ∙ core
      ∙ (λ i. cells_of (R (sym left i) (sym right i)))

-- ---- logic

booleans_agree : (gate : Gate) (a b : Value) → AreBoth IsBool a b → truth_cells gate (cells_of a) (cells_of b) ≡ cells_of (booleans gate (out-Value a) (out-Value b))
booleans_agree gate a b both =
    let p = bool_layer (out-Value a) both.0 in
    let q = bool_layer (out-Value b) both.1 in
    by_layers (truth_cells gate) (booleans gate) a b (v.Bool p.0) (v.Bool q.0) p.1 q.1
    ((λ i. truth (boolean_rule gate (truth_of_cell p.0 i) (truth_of_cell q.0 i)) ∷ []) ∙ sym (cells_of_truth (boolean_rule gate p.0 q.0)))

one_logic : (gate : Gate) (x y : S9) → logic gate (x ∷ []) (y ∷ []) ≡ logic_rule gate x y ∷ []
unfolding logic
one_logic gate x y = refl

scalars_agree : (gate : Gate) (a b : Value) → AreBoth IsLogic a b → logic_cells gate (cells_of a) (cells_of b) ≡ cells_of (logics gate (out-Value a) (out-Value b))
scalars_agree gate a b both =
    let p = logic_layer (out-Value a) both.0 in
    let q = logic_layer (out-Value b) both.1 in
    by_layers (logic_cells gate) (logics gate) a b (v.Logic p.0) (v.Logic q.0) p.1 q.1
    ((λ i. map cell_of (logic gate (bit_of_cell p.0 i ∷ []) (bit_of_cell q.0 i ∷ [])))
    ∙ ap (map cell_of) (one_logic gate p.0 q.0)
    ∙ sym (cells_roll (v.Logic (logic_rule gate p.0 q.0))))

-- ---- vectors

abbrev element : S9 → Value
element x = roll-Value (v.Logic x)

element_is : (a : Value) (x : S9) → out-Value a ≡ v.Logic x → a ≡ element x
element_is a x e = sym (roll-out-Value a) ∙ ap roll-Value e

-- the elements of a vector of std_ulogic
vector_of : (xs : List Value) → AllByRecursion (λ y. IsLogic (out-Value y)) xs → (ps : List S9) × (xs ≡ map element ps)
vector_of [] all = ([], refl)
vector_of (x ∷ xs) all =
    let p = logic_layer (out-Value x) all.0 in
    let rest = vector_of xs all.1 in
    (p.0 ∷ rest.0, (λ i. element_is x p.0 p.1 i ∷ rest.1 i))

cells_of_elements : (ps : List S9) → flat_map cells_of (map element ps) ≡ map cell_of ps
cells_of_elements [] = refl
cells_of_elements (p ∷ ps) = λ i. cells_roll (v.Logic p) i ++ cells_of_elements ps i

vector_cells : (ps : List S9) → layer_cells (v.Array (map element ps)) ≡ map cell_of ps
vector_cells ps = joined_map (map element ps) ∙ cells_of_elements ps

row_of_elements : (gate : Gate) (p q : S9) → logic_row gate (element p) (element q) ≡ element (logic_rule gate p q)
row_of_elements gate p q = λ i. logics gate (out-roll-Value (v.Logic p) i) (out-roll-Value (v.Logic q) i)

rows_of_elements : (gate : Gate) (ps qs : List S9) →
    map (λ p. logic_row gate p.0 p.1) (zip (map element ps) (map element qs)) ≡ map element (logic gate ps qs)
unfolding logic
rows_of_elements gate [] qs = refl
rows_of_elements gate (p ∷ ps) [] = refl
rows_of_elements gate (p ∷ ps) (q ∷ qs) = λ i. row_of_elements gate p q i ∷ rows_of_elements gate ps qs i

vectors_agree : (gate : Gate) (a b : Value) → AreBoth IsVector a b → logic_cells gate (cells_of a) (cells_of b) ≡ cells_of (vectors gate (out-Value a) (out-Value b))
vectors_agree gate a b both =
    let x = array_layer (λ y. IsLogic (out-Value y)) (out-Value a) both.0 in
    let y = array_layer (λ y. IsLogic (out-Value y)) (out-Value b) both.1 in
    let p = vector_of x.0 x.2 in
    let q = vector_of y.0 y.2 in
    by_layers (logic_cells gate) (vectors gate) a b (v.Array (map element p.0)) (v.Array (map element q.0)) (x.1 ∙ ap v.Array p.1) (y.1 ∙ ap v.Array q.1)
    ((λ i. logic_cells gate (vector_cells p.0 i) (vector_cells q.0 i))
    ∙ (λ i. map cell_of (logic gate (bits_of_cells p.0 i) (bits_of_cells q.0 i)))
    ∙ sym (vector_cells (logic gate p.0 q.0))
    ∙ sym (cells_roll (v.Array (map element (logic gate p.0 q.0))))
    ∙ ap (λ xs. cells_of (array xs)) (sym (rows_of_elements gate p.0 q.0)))

not_of_elements : (ps : List S9) → map (λ x. not_logic (out-Value x)) (map element ps) ≡ map element (map not_rule ps)
not_of_elements [] = refl
not_of_elements (p ∷ ps) = λ i. not_logic (out-roll-Value (v.Logic p) i) ∷ not_of_elements ps i

-- ---- one operand

-- a row of one operand by its outermost layer
by_layer : (F : List ℤ → List ℤ) (R : Value-F Value → Value) (a : Value) (x : Value-F Value) → out-Value a ≡ x →
    F (layer_cells x) ≡ cells_of (R x) → F (cells_of a) ≡ cells_of (R (out-Value a))
by_layer F R a x is core = ap F (cells_out a) ∙ (λ i. F (layer_cells (is i))) ∙ core ∙ (λ i. cells_of (R (sym is i)))

not_boolean_agrees : (a : Value) → IsBool (out-Value a) → truth (not (holds (cells_of a))) ∷ [] ≡ cells_of (not_boolean (out-Value a))
not_boolean_agrees a is =
    let p = bool_layer (out-Value a) is in
    by_layer (λ zs. truth (not (holds zs)) ∷ []) not_boolean a (v.Bool p.0) p.1
    ((λ i. truth (not (truth_of_cell p.0 i)) ∷ []) ∙ sym (cells_of_truth (not p.0)))

not_logic_agrees : (a : Value) → IsLogic (out-Value a) → not_cells (cells_of a) ≡ cells_of (not_logic (out-Value a))
not_logic_agrees a is =
    let p = logic_layer (out-Value a) is in
    by_layer not_cells not_logic a (v.Logic p.0) p.1
    ((λ i. cell_of (not_rule (bit_of_cell p.0 i)) ∷ []) ∙ sym (cells_roll (v.Logic (not_rule p.0))))

not_vector_agrees : (a : Value) → IsVector (out-Value a) → not_cells (cells_of a) ≡ cells_of (not_vector (out-Value a))
not_vector_agrees a is =
    let x = array_layer (λ y. IsLogic (out-Value y)) (out-Value a) is in
    let p = vector_of x.0 x.2 in
    by_layer not_cells not_vector a (v.Array (map element p.0)) (x.1 ∙ ap v.Array p.1)
    (ap not_cells (vector_cells p.0)
    ∙ ap (λ xs. map cell_of (map not_rule xs)) (bits_of_cells p.0)
    ∙ sym (vector_cells (map not_rule p.0))
    ∙ sym (cells_roll (v.Array (map element (map not_rule p.0))))
    ∙ ap (λ xs. cells_of (array xs)) (sym (not_of_elements p.0)))

pub one_operand : (g : StdFn) (a : Value) → IsOperand g a → cells_row g (cells_of a) [] ≡ cells_of (row_of_one g a)
one_operand f.NotBool a is = not_boolean_agrees a is
one_operand f.NotLogic a is = not_logic_agrees a is
one_operand f.NotVector a is = not_vector_agrees a is
one_operand _ a is = absurd is

-- ---- concatenation

array_cells : (xs : List Value) → cells_of (array xs) ≡ flat_map cells_of xs
array_cells xs = cells_roll (v.Array xs) ∙ joined_map xs

-- the cells of an array are those of its elements
cells_of_array : (a : Value) → IsArray (out-Value a) → cells_of a ≡ flat_map cells_of (elements_layer (out-Value a))
cells_of_array a is =
    let x = array_layer (λ _. Unit {0}) (out-Value a) is in
    cells_out a ∙ ap layer_cells x.1 ∙ joined_map x.0 ∙ ap (λ y. flat_map cells_of (elements_layer y)) (sym x.1)

arrays_join : (a b : Value) → AreBoth IsArray a b → cells_of a ++ cells_of b ≡ cells_of (array (elements_layer (out-Value a) ++ elements_layer (out-Value b)))
arrays_join a b both =
    let xs = elements_layer (out-Value a) in
    let ys = elements_layer (out-Value b) in
    (λ i. cells_of_array a both.0 i ++ cells_of_array b both.1 i) ∙ sym (flat_map-append cells_of xs ys) ∙ sym (array_cells (xs ++ ys))

element_behind : (a b : Value) → IsArray (out-Value a) → cells_of a ++ cells_of b ≡ cells_of (array (elements_layer (out-Value a) ++ b ∷ []))
element_behind a b is =
    let xs = elements_layer (out-Value a) in
    (λ i. cells_of_array a is i ++ sym (append-nil (cells_of b)) i) ∙ sym (flat_map-append cells_of xs (b ∷ [])) ∙ sym (array_cells (xs ++ b ∷ []))

element_before : (a b : Value) → IsArray (out-Value b) → cells_of a ++ cells_of b ≡ cells_of (array (a ∷ elements_layer (out-Value b)))
element_before a b is =
    ap (λ zs. cells_of a ++ zs) (cells_of_array b is) ∙ sym (array_cells (a ∷ elements_layer (out-Value b)))

elements_join : (a b : Value) → cells_of a ++ cells_of b ≡ cells_of (array (a ∷ b ∷ []))
elements_join a b = ap (λ zs. cells_of a ++ zs) (sym (append-nil (cells_of b))) ∙ sym (array_cells (a ∷ b ∷ []))

-- ---- relations

bool_rank : (a : Value) → IsBool (out-Value a) → first (cells_of a) ≡ rank a
bool_rank a is =
    let p = bool_layer (out-Value a) is in
    ap first (cells_out a) ∙ subst (λ x. first (layer_cells x) ≡ rank_layer x) (sym p.1) refl

int_rank : (a : Value) → IsInt (out-Value a) → first (cells_of a) ≡ rank a
int_rank a is =
    let p = int_layer (out-Value a) is in
    ap first (cells_out a) ∙ subst (λ x. first (layer_cells x) ≡ rank_layer x) (sym p.1) refl

position_rank : (a : Value) → IsPosition (out-Value a) → first (cells_of a) ≡ rank a
position_rank a is =
    let p = position_layer (out-Value a) is in
    ap first (cells_out a) ∙ subst (λ x. first (layer_cells x) ≡ rank_layer x) (sym p.1) refl

ranked : (test : ℤ → ℤ → Bool) (a b : Value) → first (cells_of a) ≡ rank a → first (cells_of b) ≡ rank b →
    truth (test (first (cells_of a)) (first (cells_of b))) ∷ [] ≡ cells_of (boolean (test (rank a) (rank b)))
ranked test a b left right = (λ i. truth (test (left i) (right i)) ∷ []) ∙ sym (cells_of_truth (test (rank a) (rank b)))

bools_ranked : (test : ℤ → ℤ → Bool) (a b : Value) → AreBoth IsBool a b →
    truth (test (first (cells_of a)) (first (cells_of b))) ∷ [] ≡ cells_of (boolean (test (rank a) (rank b)))
bools_ranked test a b both = ranked test a b (bool_rank a both.0) (bool_rank b both.1)

ints_ranked : (test : ℤ → ℤ → Bool) (a b : Value) → AreBoth IsInt a b →
    truth (test (first (cells_of a)) (first (cells_of b))) ∷ [] ≡ cells_of (boolean (test (rank a) (rank b)))
ints_ranked test a b both = ranked test a b (int_rank a both.0) (int_rank b both.1)

positions_ranked : (test : ℤ → ℤ → Bool) (a b : Value) → AreBoth IsPosition a b →
    truth (test (first (cells_of a)) (first (cells_of b))) ∷ [] ≡ cells_of (boolean (test (rank a) (rank b)))
positions_ranked test a b both = ranked test a b (position_rank a both.0) (position_rank b both.1)

abbrev turned : (ℤ → ℤ → Bool) → ℤ → ℤ → Bool
turned test x y = test y x

equal : (a b : Value) → same_cells (cells_of a) (cells_of b) ≡ same_value a b →
    truth (same_cells (cells_of a) (cells_of b)) ∷ [] ≡ cells_of (boolean (same_value a b))
equal a b e = ap (λ t. truth t ∷ []) e ∙ sym (cells_of_truth (same_value a b))

unequal : (a b : Value) → same_cells (cells_of a) (cells_of b) ≡ same_value a b →
    truth (not (same_cells (cells_of a) (cells_of b))) ∷ [] ≡ cells_of (boolean (not (same_value a b)))
unequal a b e = ap (λ t. truth (not t) ∷ []) e ∙ sym (cells_of_truth (not (same_value a b)))

logics_same : (a b : Value) → AreBoth IsLogic a b → same_cells (cells_of a) (cells_of b) ≡ same_value a b
logics_same a b both = same_by_layers a b (logics_agree (out-Value a) (out-Value b) both.0 both.1)

bools_same : (a b : Value) → AreBoth IsBool a b → same_cells (cells_of a) (cells_of b) ≡ same_value a b
bools_same a b both = same_by_layers a b (bools_agree (out-Value a) (out-Value b) both.0 both.1)

ints_same : (a b : Value) → AreBoth IsInt a b → same_cells (cells_of a) (cells_of b) ≡ same_value a b
ints_same a b both = same_by_layers a b (ints_agree (out-Value a) (out-Value b) both.0 both.1)

positions_same : (a b : Value) → AreBoth IsPosition a b → same_cells (cells_of a) (cells_of b) ≡ same_value a b
positions_same a b both = same_by_layers a b (positions_agree (out-Value a) (out-Value b) both.0 both.1)

arrays_same : (a b : Value) → AreAlike a b → same_cells (cells_of a) (cells_of b) ≡ same_value a b
arrays_same a b alike = same_by_layers a b (alike_agree alike.0 (out-Value a) (out-Value b) alike.1 alike.2.0 alike.2.1)

-- ---- two operands

pub two_operands : (g : StdFn) (a b : Value) → AreOperands g a b → cells_row g (cells_of a) (cells_of b) ≡ cells_of (row_of_two g a b)
two_operands f.EqualLogic a b is = equal a b (logics_same a b is)
two_operands f.NotEqualLogic a b is = unequal a b (logics_same a b is)
two_operands f.EqualBool a b is = equal a b (bools_same a b is)
two_operands f.NotEqualBool a b is = unequal a b (bools_same a b is)
two_operands f.EqualInt a b is = equal a b (ints_same a b is)
two_operands f.NotEqualInt a b is = unequal a b (ints_same a b is)
two_operands f.EqualEnum a b is = equal a b (positions_same a b is)
two_operands f.NotEqualEnum a b is = unequal a b (positions_same a b is)
two_operands f.EqualArray a b is = equal a b (arrays_same a b is)
two_operands f.NotEqualArray a b is = unequal a b (arrays_same a b is)
two_operands f.LessBool a b is = bools_ranked int_lt a b is
two_operands f.LessEqualBool a b is = bools_ranked int_le a b is
two_operands f.GreaterBool a b is = bools_ranked (turned int_lt) a b is
two_operands f.GreaterEqualBool a b is = bools_ranked (turned int_le) a b is
two_operands f.LessInt a b is = ints_ranked int_lt a b is
two_operands f.LessEqualInt a b is = ints_ranked int_le a b is
two_operands f.GreaterInt a b is = ints_ranked (turned int_lt) a b is
two_operands f.GreaterEqualInt a b is = ints_ranked (turned int_le) a b is
two_operands f.LessEnum a b is = positions_ranked int_lt a b is
two_operands f.LessEqualEnum a b is = positions_ranked int_le a b is
two_operands f.GreaterEnum a b is = positions_ranked (turned int_lt) a b is
two_operands f.GreaterEqualEnum a b is = positions_ranked (turned int_le) a b is
two_operands f.AndBool a b is = booleans_agree And a b is
two_operands f.OrBool a b is = booleans_agree Or a b is
two_operands f.XorBool a b is = booleans_agree Xor a b is
two_operands f.NandBool a b is = booleans_agree Nand a b is
two_operands f.NorBool a b is = booleans_agree Nor a b is
two_operands f.XnorBool a b is = booleans_agree Xnor a b is
two_operands f.AndLogic a b is = scalars_agree And a b is
two_operands f.OrLogic a b is = scalars_agree Or a b is
two_operands f.XorLogic a b is = scalars_agree Xor a b is
two_operands f.NandLogic a b is = scalars_agree Nand a b is
two_operands f.NorLogic a b is = scalars_agree Nor a b is
two_operands f.XnorLogic a b is = scalars_agree Xnor a b is
two_operands f.AndVector a b is = vectors_agree And a b is
two_operands f.OrVector a b is = vectors_agree Or a b is
two_operands f.XorVector a b is = vectors_agree Xor a b is
two_operands f.NandVector a b is = vectors_agree Nand a b is
two_operands f.NorVector a b is = vectors_agree Nor a b is
two_operands f.XnorVector a b is = vectors_agree Xnor a b is
two_operands f.ConcatenateArrays a b is = arrays_join a b is
two_operands f.ConcatenateArrayElement a b is = element_behind a b is
two_operands f.ConcatenateElementArray a b is = element_before a b is
two_operands f.ConcatenateElements a b is = elements_join a b
two_operands _ a b is = absurd is
