-- Declarations of built-in packages.
use Rattle.std.specs.Prelude.{ℕ, List, [], ◌∷◌, ◌++◌, map, codes}
use Rattle.vv_types.specs.declared.base.BaseType.{BaseType}
use Rattle.vv_types.specs.declared.base.BaseType.TheVariants.{Logic, Bool}
use Rattle.vv_types.specs.declared.declarations.BuiltDecl.{BuiltDecl}
use Rattle.vv_types.specs.declared.declarations.What.{What}
use Rattle.vv_types.specs.declared.declarations.What.TheVariants.{Function}
use Rattle.vv_types.specs.declared.operators.Op.{Op}
use Rattle.vv_types.specs.declared.operators.Op.TheVariants as o

-- the word or sign of an operator
abbrev pub symbol : Op → List ℕ
symbol o.And = codes "and"
symbol o.Or = codes "or"
symbol o.Xor = codes "xor"
symbol o.Xnor = codes "xnor"
symbol o.Nand = codes "nand"
symbol o.Nor = codes "nor"
symbol o.Equal = codes "="
symbol o.NotEqual = codes "/="
symbol o.Less = codes "<"
symbol o.LessEqual = codes "<="
symbol o.Greater = codes ">"
symbol o.GreaterEqual = codes ">="
symbol o.ShiftLeftLogical = codes "sll"
symbol o.ShiftRightLogical = codes "srl"
symbol o.ShiftLeftArithmetic = codes "sla"
symbol o.ShiftRightArithmetic = codes "sra"
symbol o.RotateLeft = codes "rol"
symbol o.RotateRight = codes "ror"
symbol o.Plus = codes "+"
symbol o.Minus = codes "-"
symbol o.Concatenate = codes "&"
symbol o.Times = codes "*"
symbol o.Divide = codes "/"
symbol o.Modulo = codes "mod"
symbol o.Remainder = codes "rem"
symbol o.Power = codes "**"
symbol o.Absolute = codes "abs"
symbol o.Not = codes "not"

-- the name of an operator: its symbol between double quotes
abbrev pub operator_name : Op → List ℕ
operator_name op = 34 ∷ (symbol op ++ 34 ∷ [])

-- a declaration, whose parameters have no names
abbrev pub built : List ℕ → List ℕ → What → BuiltDecl
built unit name what = record { «package» = unit; name = name; formals = []; what = what }

abbrev pub operator : List ℕ → List BaseType → BaseType → Op → BuiltDecl
operator unit params result op = built unit (operator_name op) (Function params result)

abbrev pub relational : List Op
relational = o.Equal ∷ o.NotEqual ∷ o.Less ∷ o.LessEqual ∷ o.Greater ∷ o.GreaterEqual ∷ []

abbrev pub logical : List Op
logical = o.And ∷ o.Or ∷ o.Xor ∷ o.Nand ∷ o.Nor ∷ o.Xnor ∷ []

-- the relations of a type with itself
unfoldable pub relations_of : List ℕ → BaseType → List BuiltDecl
relations_of unit type = map (operator unit (type ∷ type ∷ []) Bool) relational

-- the logical operators of a type with itself
unfoldable pub logic_of : List ℕ → BaseType → List BuiltDecl
logic_of unit type =
    map (operator unit (type ∷ type ∷ []) type) logical ++ map (operator unit (type ∷ []) type) (o.Not ∷ [])

-- `&` of a vector of std_ulogic with itself and with its elements
unfoldable pub concatenations_of : List ℕ → BaseType → List BuiltDecl
concatenations_of unit vector =
    operator unit (vector ∷ vector ∷ []) vector o.Concatenate
    ∷ operator unit (vector ∷ Logic ∷ []) vector o.Concatenate
    ∷ operator unit (Logic ∷ vector ∷ []) vector o.Concatenate
    ∷ operator unit (Logic ∷ Logic ∷ []) vector o.Concatenate
    ∷ []
