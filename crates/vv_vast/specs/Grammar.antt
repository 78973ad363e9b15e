-- The grammar: the tokens of a tree in order, a line for each production. A text of a tree is cut into these.
use Rattle.std.specs.Prelude.{ℕ, List, [], ◌∷◌, ◌++◌, map, flat_map, codes, All}
use Rattle.vv_vast.specs.Tree.{Bit, bit0, bit1, bitx, bitz, Unary, not', Binary, and', or', xor', Expr, literal, name, unary, binary, Item, assign, Direction, input, output, Port, Module, names_of_item}
use Rattle.vv_vast.specs.Tokens.{IsCut}
use Rattle.vv_vast.specs.Words.{IsIdentifier}

abbrev pub spelled_bit : Bit → List ℕ
spelled_bit bit0 = codes "1'b0"
spelled_bit bit1 = codes "1'b1"
spelled_bit bitx = codes "1'bx"
spelled_bit bitz = codes "1'bz"

abbrev pub spelled_unary : Unary → List ℕ
spelled_unary not' = codes "~"

abbrev pub spelled_binary : Binary → List ℕ
spelled_binary and' = codes "&"
spelled_binary or' = codes "|"
spelled_binary xor' = codes "^"

abbrev pub spelled_expr : Expr (List ℕ) → List (List ℕ)
spelled_expr (literal b) = spelled_bit b ∷ []
spelled_expr (name n) = n ∷ []
spelled_expr (unary o e) = codes "(" ∷ spelled_unary o ∷ spelled_expr e ++ (codes ")" ∷ [])
spelled_expr (binary o e g) = codes "(" ∷ spelled_expr e ++ (spelled_binary o ∷ spelled_expr g) ++ (codes ")" ∷ [])

abbrev pub spelled_item : Item (List ℕ) → List (List ℕ)
spelled_item (assign n e) = codes "assign" ∷ n ∷ codes "=" ∷ spelled_expr e ++ (codes ";" ∷ [])

abbrev pub spelled_direction : Direction → List ℕ
spelled_direction input = codes "input"
spelled_direction output = codes "output"

abbrev pub spelled_port : Port → List (List ℕ)
spelled_port p = spelled_direction p.direction ∷ codes "wire" ∷ p.name ∷ []

abbrev pub spelled_ports : List Port → List (List ℕ)
spelled_ports [] = []
spelled_ports (p ∷ ps) = spelled_port p ++ flat_map (λ q. codes "," ∷ spelled_port q) ps

abbrev pub spelled_module : Module → List (List ℕ)
spelled_module m =
    (codes "module" ∷ m.name ∷ codes "(" ∷ spelled_ports m.ports)
    ++ (codes ")" ∷ codes ";" ∷ flat_map spelled_item m.items)
    ++ (codes "endmodule" ∷ [])

abbrev pub spelled : List Module → List (List ℕ)
spelled modules = flat_map spelled_module modules

-- every name of a module
abbrev pub names_of : Module → List (List ℕ)
names_of m = m.name ∷ map (λ p. p.name) m.ports ++ flat_map names_of_item m.items

-- the bytes are a text of these modules
pub record VerilogText (modules : List Module) (text : List ℕ) : Type 0 where
  pub tokens : IsCut text (spelled modules)
  pub names : All IsIdentifier (flat_map names_of modules)
