-- The grammar: the symbols of a tree, in order. A text of the grammar is what a whole tree spells, and the end of the file.
use Rattle.std.specs.Prelude.{◌≡◌, ℕ, Bool, if◌then◌else◌, List, [], ◌∷◌, ◌++◌, map, flat_map, Option, Some, None}
use Rattle.vv_gate.specs.Tree.{Ident, Group, Operand, low, high, port, Term, Assignment, GateFile}
use Rattle.vv_gate.specs.Whole.{IsWhole}
use Rattle.vv_gate.specs.declared.token.Mark.{Mark}
use Rattle.vv_gate.specs.declared.token.Mark.TheVariants as mk
use Rattle.vv_gate.specs.declared.tree.Operator.{Operator}
use Rattle.vv_gate.specs.declared.tree.Operator.TheVariants as operator
use Rattle.vv_gate_lex.specs.Symbols.{Symbol, name, mark, finish, Token}

-- one or more parts with a mark between them
abbrev pub joined : {A : Type 0} → Mark → (A → List Symbol) → List A → List Symbol
joined between part [] = []
joined between part (x ∷ []) = part x
joined between part (x ∷ y ∷ more) = part x ++ (mark between ∷ joined between part (y ∷ more))

-- id
abbrev pub spelled_ident : Ident → List Symbol
spelled_ident i = name i ∷ []

abbrev pub direction : Bool → Mark
direction input = if input then mk.In else mk.Out

-- id {"," id} ":" ("in" | "out") "std_logic"
abbrev pub spelled_group : Group → List Symbol
spelled_group g = joined mk.Comma spelled_ident g.idents ++ map mark (mk.Colon ∷ direction g.input ∷ mk.StdLogic ∷ [])

abbrev pub spelled_operand : Operand → Symbol
spelled_operand low = mark mk.Zero
spelled_operand high = mark mk.One
spelled_operand (port i) = name i

-- ["not"] (id | "'0'" | "'1'")
abbrev pub spelled_term : Term → List Symbol
spelled_term t = (if t.negated then (mark mk.Not ∷ []) else []) ++ (spelled_operand t.operand ∷ [])

abbrev pub operator_mark : Operator → Mark
operator_mark operator.And = mk.And
operator_mark operator.Or = mk.Or
operator_mark operator.Xor = mk.Xor

-- id "<=" term {operator term} ";"
abbrev pub spelled_assignment : Assignment → List Symbol
spelled_assignment a = name a.target ∷ mark mk.Arrow ∷ (joined (operator_mark a.operator) spelled_term a.terms ++ (mark mk.Semicolon ∷ []))

-- ["use" "ieee" "." "numeric_std" "." "all" ";"]
abbrev pub spelled_numeric : Option Ident → List Symbol
spelled_numeric None = []
spelled_numeric (Some i) = map mark (mk.Use ∷ mk.Ieee ∷ mk.Dot ∷ []) ++ (name i ∷ map mark (mk.Dot ∷ mk.All ∷ mk.Semicolon ∷ []))

-- "library" "ieee" ";" "use" "ieee" "." "std_logic_1164" "." "all" ";" and the second use clause
abbrev pub spelled_context : Ident → Option Ident → List Symbol
spelled_context logic numeric =
    map mark (mk.Library ∷ mk.Ieee ∷ mk.Semicolon ∷ mk.Use ∷ mk.Ieee ∷ mk.Dot ∷ [])
    ++ (name logic ∷ (map mark (mk.Dot ∷ mk.All ∷ mk.Semicolon ∷ []) ++ spelled_numeric numeric))

-- "entity" id "is" "port" "("
abbrev pub spelled_entity : Ident → List Symbol
spelled_entity e = mark mk.Entity ∷ name e ∷ map mark (mk.Is ∷ mk.Port ∷ mk.Open ∷ [])

-- ")" ";" "end" ";" "architecture" id "of" id "is" "begin"
abbrev pub spelled_architecture : Ident → Ident → List Symbol
spelled_architecture architecture of =
    map mark (mk.Close ∷ mk.Semicolon ∷ mk.End ∷ mk.Semicolon ∷ mk.Architecture ∷ [])
    ++ (name architecture ∷ mark mk.Of ∷ name of ∷ mark mk.Is ∷ mark mk.Begin ∷ [])

-- a whole file, which ends with "end" ";"
abbrev pub spelled : GateFile → List Symbol
spelled f =
    spelled_context f.logic f.numeric
    ++ (spelled_entity f.entity
    ++ (joined mk.Semicolon spelled_group f.groups
    ++ (spelled_architecture f.architecture f.of
    ++ (flat_map spelled_assignment f.assignments ++ (mark mk.End ∷ mark mk.Semicolon ∷ finish ∷ [])))))

-- the tokens are those of the tree
pub record IsTextOf (f : GateFile) (ts : List Token) : Type 0 where
  pub whole : IsWhole f
  pub spells : map (λ t. t.symbol) ts ≡ spelled f

-- some text goes on from these symbols
pub record IsViable (p : List Symbol) : Type 0 where
  pub file : GateFile
  pub more : List Symbol
  pub whole : IsWhole file
  pub spells : p ++ more ≡ spelled file

-- the first token that no text goes on with stands there
pub record IsMisplaced (ts : List Token) (at : ℕ) : Type 0 where
  pub front : List Token
  pub token : Token
  pub more : List Token
  pub split : ts ≡ front ++ (token ∷ more)
  pub place : token.at ≡ at
  pub before : IsViable (map (λ t. t.symbol) front)
  pub not_after : IsViable (map (λ t. t.symbol) front ++ (token.symbol ∷ [])) → ⊥
