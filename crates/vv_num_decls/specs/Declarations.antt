-- The declarations of `numeric_std`.
use Rattle.std.specs.Prelude.{ℕ, List, [], ◌∷◌, ◌++◌, map, codes}
use Rattle.vv_types.specs.declared.base.BaseType.{BaseType}
use Rattle.vv_types.specs.declared.base.BaseType.TheVariants.{Bool, Int, Array}
use Rattle.vv_types.specs.declared.declarations.BuiltDecl.{BuiltDecl}
use Rattle.vv_types.specs.declared.declarations.What.TheVariants.{Mark, Function}
use Rattle.vv_types.specs.declared.operators.Op.{Op}
use Rattle.vv_types.specs.declared.operators.Op.TheVariants as o
use Rattle.vv_builtin.specs.Builtin.{built, concatenations_of, logic_of, operator, relational}

abbrev pub numeric : List ℕ
numeric = codes "numeric_std"

-- an array type has the place of its declaration as its number, where those of `standard` and `std_logic_1164` stand before
abbrev pub unsigned : BaseType
unsigned = Array 97

abbrev pub signed : BaseType
signed = Array 98

unfoldable pub types : List BuiltDecl
types = built numeric (codes "unsigned") (Mark unsigned) ∷ built numeric (codes "signed") (Mark signed) ∷ []

abbrev pub arithmetical : List Op
arithmetical = o.Plus ∷ o.Minus ∷ o.Times ∷ []

-- the operators on numbers, for operands of these types
unfoldable pub numbers_on : BaseType → List BaseType → List BuiltDecl
numbers_on vector operands = map (operator numeric operands vector) arithmetical ++ map (operator numeric operands Bool) relational

-- the operators on numbers: of two vectors of a type, and of a vector and a number on either side
unfoldable pub numbers_of : BaseType → List BuiltDecl
numbers_of vector =
    numbers_on vector (vector ∷ vector ∷ []) ++ numbers_on vector (vector ∷ Int ∷ []) ++ numbers_on vector (Int ∷ vector ∷ [])

unfoldable pub signs : List BuiltDecl
signs = map (operator numeric (signed ∷ []) signed) (o.Absolute ∷ o.Minus ∷ [])

-- a function and the names of its parameters
abbrev pub function : List ℕ → List (List ℕ) → List BaseType → BaseType → BuiltDecl
function name formals params result = record { «package» = numeric; name = name; formals = formals; what = Function params result }

-- a shift or a rotation of a vector by a count
abbrev pub movement : BaseType → List ℕ → BuiltDecl
movement vector name = function name (codes "arg" ∷ codes "count" ∷ []) (vector ∷ Int ∷ []) vector

-- the functions whose first operand is a vector
unfoldable pub functions_of : BaseType → List BuiltDecl
functions_of vector =
    movement vector (codes "shift_left")
    ∷ movement vector (codes "shift_right")
    ∷ movement vector (codes "rotate_left")
    ∷ movement vector (codes "rotate_right")
    ∷ function (codes "resize") (codes "arg" ∷ codes "new_size" ∷ []) (vector ∷ Int ∷ []) vector
    ∷ function (codes "to_integer") (codes "arg" ∷ []) (vector ∷ []) Int
    ∷ []

-- a vector of a number and a size
abbrev pub conversion : BaseType → List ℕ → BuiltDecl
conversion vector name = function name (codes "arg" ∷ codes "size" ∷ []) (Int ∷ Int ∷ []) vector

unfoldable pub conversions : List BuiltDecl
conversions = conversion unsigned (codes "to_unsigned") ∷ conversion signed (codes "to_signed") ∷ []

-- what both vector types have
unfoldable pub declarations_of : BaseType → List BuiltDecl
declarations_of vector = numbers_of vector ++ logic_of numeric vector ++ concatenations_of numeric vector ++ functions_of vector

-- all declarations of the package
unfoldable pub num_declarations : List BuiltDecl
num_declarations = types ++ declarations_of unsigned ++ declarations_of signed ++ signs ++ conversions
