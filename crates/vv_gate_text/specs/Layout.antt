-- How a module is written: a line for each port and each item, indented by two spaces.
use Rattle.std.specs.Prelude.{ℕ, List, [], ◌∷◌, ◌++◌, flat_map, codes}
use Rattle.vv_vast.specs.Tree.{Expr, literal, name, unary, binary, Item, assign, Port, Module}
use Rattle.vv_vast.specs.Grammar.{spelled_bit, spelled_unary, spelled_binary, spelled_direction}

-- a line feed
abbrev pub newline : List ℕ
newline = 10 ∷ []

abbrev pub written_expr : Expr (List ℕ) → List ℕ
written_expr (literal b) = spelled_bit b
written_expr (name n) = n
written_expr (unary o e) = codes "(" ++ spelled_unary o ++ written_expr e ++ codes ")"
written_expr (binary o e g) = codes "(" ++ written_expr e ++ codes " " ++ spelled_binary o ++ codes " " ++ written_expr g ++ codes ")"

abbrev pub written_item : Item (List ℕ) → List ℕ
written_item (assign n e) = codes "  assign " ++ n ++ codes " = " ++ written_expr e ++ codes ";" ++ newline

abbrev pub written_port : Port → List ℕ
written_port p = codes "  " ++ spelled_direction p.direction ++ codes " wire " ++ p.name

-- each port on a line of its own, and a comma after each but the last
abbrev pub written_ports : List Port → List ℕ
written_ports [] = []
written_ports (p ∷ ps) = newline ++ written_port p ++ flat_map (λ q. codes "," ++ newline ++ written_port q) ps ++ newline

abbrev pub written_module : Module → List ℕ
written_module m =
    codes "module " ++ m.name ++ codes "(" ++ written_ports m.ports ++ codes ");" ++ newline
    ++ flat_map written_item m.items
    ++ codes "endmodule" ++ newline
