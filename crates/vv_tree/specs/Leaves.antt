-- What contracts see of the parts that are one token, and of lists and parts that may be left out.
use Rattle.std.specs.Prelude.{ℕ, ℤ, List, [], ◌∷◌, map, Option, Some, None}
use Rattle.vv_base.specs.declared.fault.Name.{Name}
use Rattle.vv_base.specs.declared.fault.Span.{Span}
use Rattle.vv_vlex.specs.declared.sign.Sign.TheVariants as sign
use Rattle.vv_vlex.specs.declared.token.TokenKind.{TokenKind}
use Rattle.vv_vlex.specs.declared.token.TokenKind.TheVariants as kind
use Rattle.vv_vlex.specs.declared.word.Word.{Word}
use Rattle.vv_vlex.specs.declared.word.Word.TheVariants as word
use Rattle.vv_grammar.specs.Trees.{Tree, leaf, node, list, absent, Trees, none, more}
use Rattle.vv_grammar.specs.declared.form.Form.{Form}
use Rattle.vv_tree.specs.declared.leaf.Ident.{Ident}
use Rattle.vv_tree.specs.declared.leaf.Keyword.{Keyword}
use Rattle.vv_tree.specs.declared.leaf.Literal.{Literal}
use Rattle.vv_tree.specs.declared.leaf.Literal.TheVariants as literal
use Rattle.vv_tree.specs.declared.leaf.OperatorSymbol.{OperatorSymbol}
use Rattle.vv_tree.specs.declared.leaf.OperatorSymbol.TheVariants as symbol
use Rattle.vv_tree.specs.declared.leaf.Operator.{Operator}
use Rattle.vv_tree.specs.declared.leaf.Direction.{Direction}
use Rattle.vv_tree.specs.declared.leaf.Direction.TheVariants as direction
use Rattle.vv_tree.specs.declared.leaf.Mode.{Mode}
use Rattle.vv_tree.specs.declared.leaf.Mode.TheVariants as mode
use Rattle.vv_tree.specs.declared.leaf.AssignmentSign.{AssignmentSign}
use Rattle.vv_tree.specs.declared.leaf.AssignmentSign.TheVariants as assignment
use Rattle.vv_tree.specs.declared.leaf.Designator.{Designator}
use Rattle.vv_tree.specs.declared.leaf.Designator.TheVariants as designator

abbrev pub token : TokenKind → Span → Tree
token k s = leaf (record { kind = k; span = s })

abbrev pub word_tree : Word → Span → Tree
word_tree w = token (kind.Word w)

abbrev pub ident_tree : Ident → Tree
ident_tree i = token (kind.Id i.name) i.span

abbrev pub keyword_tree : Keyword → Tree
keyword_tree k = word_tree k.word k.span

abbrev pub literal_tree : Literal → Tree
literal_tree (literal.Integer n s) = token (kind.Int n) s
literal_tree (literal.Character b n s) = token (kind.Char b n) s
literal_tree (literal.Text bs n s) = token (kind.Str bs.now n) s
literal_tree (literal.BitText bs s) = token (kind.BitStr bs.now) s

abbrev pub symbol_kind : OperatorSymbol → TokenKind
symbol_kind symbol.And = kind.Word word.And
symbol_kind symbol.Or = kind.Word word.Or
symbol_kind symbol.Xor = kind.Word word.Xor
symbol_kind symbol.Xnor = kind.Word word.Xnor
symbol_kind symbol.Nand = kind.Word word.Nand
symbol_kind symbol.Nor = kind.Word word.Nor
symbol_kind symbol.Equal = kind.Sign sign.Equal
symbol_kind symbol.NotEqual = kind.Sign sign.NotEqual
symbol_kind symbol.Less = kind.Sign sign.Less
symbol_kind symbol.LessEqual = kind.Sign sign.LessEqual
symbol_kind symbol.Greater = kind.Sign sign.Greater
symbol_kind symbol.GreaterEqual = kind.Sign sign.GreaterEqual
symbol_kind symbol.ShiftLeftLogical = kind.Word word.Sll
symbol_kind symbol.ShiftRightLogical = kind.Word word.Srl
symbol_kind symbol.ShiftLeftArithmetic = kind.Word word.Sla
symbol_kind symbol.ShiftRightArithmetic = kind.Word word.Sra
symbol_kind symbol.RotateLeft = kind.Word word.Rol
symbol_kind symbol.RotateRight = kind.Word word.Ror
symbol_kind symbol.Plus = kind.Sign sign.Plus
symbol_kind symbol.Minus = kind.Sign sign.Minus
symbol_kind symbol.Concatenate = kind.Sign sign.Ampersand
symbol_kind symbol.Multiply = kind.Sign sign.Star
symbol_kind symbol.Divide = kind.Sign sign.Slash
symbol_kind symbol.Mod = kind.Word word.Mod
symbol_kind symbol.Rem = kind.Word word.Rem

abbrev pub operator_tree : Operator → Tree
operator_tree o = token (symbol_kind o.symbol) o.span

abbrev pub direction_tree : Direction → Tree
direction_tree (direction.To s) = word_tree word.To s
direction_tree (direction.Downto s) = word_tree word.Downto s

abbrev pub mode_tree : Mode → Tree
mode_tree (mode.In s) = word_tree word.In s
mode_tree (mode.Out s) = word_tree word.Out s
mode_tree (mode.Inout s) = word_tree word.Inout s

abbrev pub assignment_tree : AssignmentSign → Tree
assignment_tree (assignment.Signal s) = token (kind.Sign sign.LessEqual) s
assignment_tree (assignment.Variable s) = token (kind.Sign sign.Becomes) s

abbrev pub designator_tree : Designator → Tree
designator_tree (designator.Ident i) = ident_tree i
designator_tree (designator.Literal l) = literal_tree l
designator_tree (designator.Others s) = word_tree word.Others s
designator_tree (designator.All s) = word_tree word.All s

abbrev pub trees : List Tree → Trees
trees [] = none
trees (t ∷ ts) = more t (trees ts)

abbrev pub trees_of : {A : Type 0} → (A → Tree) → List A → Tree
trees_of f xs = list (trees (map f xs))

abbrev pub tree_or_absent : {A : Type 0} → (A → Tree) → Option A → Tree
tree_or_absent f None = absent
tree_or_absent f (Some x) = f x

-- nodes by the number of their parts
abbrev pub node0 : Form → Span → Tree
node0 f s = node f none s

abbrev pub node1 : Form → Tree → Span → Tree
node1 f a s = node f (more a none) s

abbrev pub node2 : Form → Tree → Tree → Span → Tree
node2 f a b s = node f (more a (more b none)) s

abbrev pub node3 : Form → Tree → Tree → Tree → Span → Tree
node3 f a b c s = node f (more a (more b (more c none))) s

abbrev pub node4 : Form → Tree → Tree → Tree → Tree → Span → Tree
node4 f a b c d s = node f (more a (more b (more c (more d none)))) s

abbrev pub node5 : Form → Tree → Tree → Tree → Tree → Tree → Span → Tree
node5 f a b c d e s = node f (more a (more b (more c (more d (more e none))))) s
