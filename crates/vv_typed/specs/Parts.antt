-- Typed trees: what contracts see of one layer, and folds that gather over all of it.
use Rattle.std.specs.Prelude.{ℕ, ◌+◌, List, [], ◌∷◌, ◌++◌, Option, Some, None, map}
use Rattle.std.specs.List.{sum}
use Rattle.vv_typed.specs.declared.expressions.Element.{Element}
use Rattle.vv_typed.specs.declared.expressions.Form.{Form, fold-Form, out-Form}
use Rattle.vv_typed.specs.declared.expressions.Link.{Link}
use Rattle.vv_typed.specs.declared.expressions.Suffix.{Suffix}
use Rattle.vv_typed.specs.declared.expressions.TRange.{TRange, fold-TRange}
use Rattle.vv_typed.specs.declared.expressions.Typed.{Typed, fold-Typed, out-Typed}
use Rattle.vv_typed.specs.declared.expressions.Form.TheOpen.{Form-F, Suffix-F, TRange-F, Element-F, Link-F, Typed-F}
use Rattle.vv_typed.specs.declared.expressions.Form.TheOpen as f
use Rattle.vv_typed.specs.declared.statements.Alternative.{Alternative}
use Rattle.vv_typed.specs.declared.statements.Arm.{Arm}
use Rattle.vv_typed.specs.declared.statements.StmtForm.{StmtForm, fold-StmtForm, out-StmtForm}
use Rattle.vv_typed.specs.declared.statements.TStmt.{TStmt, fold-TStmt, out-TStmt}
use Rattle.vv_typed.specs.declared.statements.StmtForm.TheOpen.{StmtForm-F, Alternative-F, Arm-F, TStmt-F}
use Rattle.vv_typed.specs.declared.statements.StmtForm.TheOpen as s

-- ---- expressions: a layer whose parts are all of one type

abbrev pub FormOf : Type 0 → Type 0
FormOf X = Form-F X X X X X X

abbrev pub SuffixOf : Type 0 → Type 0
SuffixOf X = Suffix-F X X X X X X

abbrev pub RangeOf : Type 0 → Type 0
RangeOf X = TRange-F X X X X X X

abbrev pub ElementOf : Type 0 → Type 0
ElementOf X = Element-F X X X X X X

abbrev pub LinkOf : Type 0 → Type 0
LinkOf X = Link-F X X X X X X

abbrev pub TypedOf : Type 0 → Type 0
TypedOf X = Typed-F X X X X X X

-- one layer of an expression, whose parts are trees
abbrev pub TypedLayer : Type 0
TypedLayer = Typed-F Form Suffix TRange Element Link Typed

-- ---- the parts of a layer, in the order of the text

abbrev pub suffix_parts : {X : Type 0} → SuffixOf X → List X
suffix_parts (f.Index index base span) = index ∷ []
suffix_parts (f.Slice range span) = range ∷ []

abbrev pub range_parts : {X : Type 0} → RangeOf X → List X
range_parts (f.Whole value) = value ∷ []
range_parts (f.Between left right down) = left ∷ right ∷ []
range_parts (f.Within mark range) = range ∷ []
range_parts (f.Others span) = []

abbrev pub form_parts : {X : Type 0} → FormOf X → List X
form_parts (f.Call callee formals args) = args
form_parts (f.Edge rising signal) = signal ∷ []
form_parts (f.Part prefix suffixes) = prefix ∷ suffixes
form_parts (f.Conversion mark operand) = operand ∷ []
form_parts (f.Qualified mark operand) = operand ∷ []
form_parts (f.Length prefix) = prefix ∷ []
form_parts (f.Range prefix) = prefix ∷ []
form_parts (f.ReverseRange prefix) = prefix ∷ []
form_parts (f.Left prefix) = prefix ∷ []
form_parts (f.Right prefix) = prefix ∷ []
form_parts (f.High prefix) = prefix ∷ []
form_parts (f.Low prefix) = prefix ∷ []
form_parts (f.Pos mark operand) = operand ∷ []
form_parts (f.Val mark operand) = operand ∷ []
form_parts (f.Event signal) = signal ∷ []
form_parts (f.Logical first rest) = first ∷ rest
form_parts (f.Relation left callee right) = left ∷ right ∷ []
form_parts (f.Shift left callee right) = left ∷ right ∷ []
form_parts (f.Sum first rest) = first ∷ rest
form_parts (f.Sign callee operand) = operand ∷ []
form_parts (f.Product first rest) = first ∷ rest
form_parts (f.Power left callee right) = left ∷ right ∷ []
form_parts (f.Absolute callee operand) = operand ∷ []
form_parts (f.Not callee operand) = operand ∷ []
form_parts (f.Parenthesis inner) = inner ∷ []
form_parts (f.Aggregate elements) = elements
form_parts _ = []

-- ---- how many expressions there are: each counts one

abbrev pub count_form : FormOf ℕ → ℕ
count_form x = sum (form_parts x)

abbrev pub count_suffix : SuffixOf ℕ → ℕ
count_suffix x = sum (suffix_parts x)

abbrev pub count_range : RangeOf ℕ → ℕ
count_range x = sum (range_parts x)

abbrev pub count_element : ElementOf ℕ → ℕ
count_element x = sum (x.choices ++ x.value ∷ [])

abbrev pub count_link : LinkOf ℕ → ℕ
count_link x = x.right

abbrev pub count_typed : TypedOf ℕ → ℕ
count_typed x = x.form + 1

abbrev pub node_count : Typed → ℕ
node_count e = fold-Typed ℕ ℕ ℕ ℕ ℕ ℕ count_form count_suffix count_range count_element count_link count_typed e

-- the same of the parts of a form, and of a range
abbrev pub form_node_count : Form → ℕ
form_node_count e = fold-Form ℕ ℕ ℕ ℕ ℕ ℕ count_form count_suffix count_range count_element count_link count_typed e

abbrev pub range_node_count : TRange → ℕ
range_node_count r = fold-TRange ℕ ℕ ℕ ℕ ℕ ℕ count_form count_suffix count_range count_element count_link count_typed r

-- ---- statements

abbrev pub StmtFormOf : Type 0 → Type 0
StmtFormOf X = StmtForm-F X X X X

abbrev pub AlternativeOf : Type 0 → Type 0
AlternativeOf X = Alternative-F X X X X

abbrev pub ArmOf : Type 0 → Type 0
ArmOf X = Arm-F X X X X

abbrev pub StmtOf : Type 0 → Type 0
StmtOf X = TStmt-F X X X X

-- one layer of a statement, whose parts are trees
abbrev pub StmtLayer : Type 0
StmtLayer = TStmt-F StmtForm Alternative Arm TStmt

abbrev pub written : Option (List ℕ) → List ℕ
written None = []
written (Some xs) = xs

abbrev pub count_stmt_form : StmtFormOf ℕ → ℕ
count_stmt_form (s.SignalAssignment target value) = node_count target + node_count value
count_stmt_form (s.VariableAssignment target value) = node_count target + node_count value
count_stmt_form (s.If arms otherwise) = sum (arms ++ written otherwise)
count_stmt_form (s.Case selector alternatives) = node_count selector + sum alternatives
count_stmt_form (s.For turn range body) = range_node_count range + sum body
count_stmt_form (s.While condition body) = node_count condition + sum body
count_stmt_form (s.Exit outer condition) = node_count condition
count_stmt_form (s.Next outer condition) = node_count condition
count_stmt_form (s.Return value) = node_count value
count_stmt_form s.Null = 0
count_stmt_form (s.WaitUntil condition) = node_count condition

abbrev pub count_alternative : AlternativeOf ℕ → ℕ
count_alternative x = sum (map range_node_count x.choices ++ x.body)

abbrev pub count_arm : ArmOf ℕ → ℕ
count_arm x = node_count x.condition + sum x.body

abbrev pub count_stmt : StmtOf ℕ → ℕ
count_stmt x = x.form + 1

-- how many expressions and statements there are
abbrev pub stmt_node_count : TStmt → ℕ
stmt_node_count s = fold-TStmt ℕ ℕ ℕ ℕ count_stmt_form count_alternative count_arm count_stmt s

abbrev pub stmt_form_node_count : StmtForm → ℕ
stmt_form_node_count s = fold-StmtForm ℕ ℕ ℕ ℕ count_stmt_form count_alternative count_arm count_stmt s
