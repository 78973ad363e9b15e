-- The declarations of `standard` and `std_logic_1164`.
use Rattle.std.specs.Prelude.{ℕ, ◌+◌, ◌/◌, ◌%◌, List, [], ◌∷◌, ◌++◌, map, codes, if◌then◌else◌, nat_lt}
use Rattle.std.specs.List.{flat_map}
use Rattle.vv_types.specs.declared.base.BaseType.{BaseType}
use Rattle.vv_types.specs.declared.base.BaseType.TheVariants.{Logic, Bool, Int, Array}
use Rattle.vv_types.specs.declared.declarations.BuiltDecl.{BuiltDecl}
use Rattle.vv_types.specs.declared.declarations.What.TheVariants.{Mark, Function, Literal}
use Rattle.vv_types.specs.declared.operators.Op.{Op}
use Rattle.vv_types.specs.declared.operators.Op.TheVariants as o
use Rattle.vv_builtin.specs.Builtin.{built, concatenations_of, logic_of, operator, relations_of}

abbrev pub standard : List ℕ
standard = codes "standard"

abbrev pub logic_1164 : List ℕ
logic_1164 = codes "std_logic_1164"

-- an array type has the place of its declaration as its number
abbrev pub ulogic_vector : BaseType
ulogic_vector = Array 6

abbrev pub logic_vector : BaseType
logic_vector = Array 7

-- a hexadecimal digit, with small letters
abbrev pub hex : ℕ → ℕ
hex digit = if nat_lt digit 10 then 48 + digit else 87 + digit

-- the name of a character literal: an apostrophe and the character in two hexadecimal digits
abbrev pub letter_name : ℕ → List ℕ
letter_name letter = 39 ∷ hex (letter / 16) ∷ hex (letter % 16) ∷ []

abbrev pub arithmetical : List Op
arithmetical = o.Plus ∷ o.Minus ∷ o.Times ∷ o.Divide ∷ o.Modulo ∷ o.Remainder ∷ o.Power ∷ []

abbrev pub signs : List Op
signs = o.Plus ∷ o.Minus ∷ o.Absolute ∷ []

unfoldable pub arithmetic : List BuiltDecl
arithmetic = map (operator standard (Int ∷ Int ∷ []) Int) arithmetical ++ map (operator standard (Int ∷ []) Int) signs

-- a type or a subtype
abbrev pub mark : List ℕ → List ℕ → BaseType → BuiltDecl
mark unit name type = built unit name (Mark type)

-- a literal of boolean
abbrev pub truth : List ℕ → BuiltDecl
truth name = built standard name (Literal Bool)

-- the types and subtypes
unfoldable pub types : List BuiltDecl
types =
    built standard (codes "boolean") (Mark Bool)
    ∷ built standard (codes "integer") (Mark Int)
    ∷ built standard (codes "natural") (Mark Int)
    ∷ built standard (codes "positive") (Mark Int)
    ∷ built logic_1164 (codes "std_ulogic") (Mark Logic)
    ∷ built logic_1164 (codes "std_logic") (Mark Logic)
    ∷ built logic_1164 (codes "std_ulogic_vector") (Mark ulogic_vector)
    ∷ built logic_1164 (codes "std_logic_vector") (Mark logic_vector)
    ∷ []

-- a character literal of std_ulogic
abbrev pub letter : ℕ → BuiltDecl
letter byte = built logic_1164 (letter_name byte) (Literal Logic)

unfoldable pub literals : List BuiltDecl
literals =
    built standard (codes "false") (Literal Bool)
    ∷ built standard (codes "true") (Literal Bool)
    ∷ map letter (codes "UX01ZWLH-")

abbrev pub edge : List ℕ → BuiltDecl
edge name = built logic_1164 name (Function (Logic ∷ []) Bool)

unfoldable pub edges : List BuiltDecl
edges = edge (codes "rising_edge") ∷ edge (codes "falling_edge") ∷ []

-- the operators of a type of `std_logic_1164`
abbrev pub operators_of : BaseType → List BuiltDecl
operators_of type = relations_of logic_1164 type ++ logic_of logic_1164 type

-- what both packages name: types and literals
unfoldable pub named : List BuiltDecl
named = types ++ literals

-- the predefined operators of `standard`
unfoldable pub predefined : List BuiltDecl
predefined = relations_of standard Bool ++ logic_of standard Bool ++ relations_of standard Int ++ arithmetic

unfoldable pub concatenations : List BuiltDecl
concatenations = concatenations_of logic_1164 ulogic_vector ++ concatenations_of logic_1164 logic_vector

-- the operators and functions of `std_logic_1164`
unfoldable pub logic_operators : List BuiltDecl
logic_operators = flat_map operators_of (Logic ∷ ulogic_vector ∷ logic_vector ∷ []) ++ concatenations ++ edges

-- all declarations of both packages
unfoldable pub std_declarations : List BuiltDecl
std_declarations = named ++ predefined ++ logic_operators
