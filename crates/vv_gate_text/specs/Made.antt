-- The module that a file of gates becomes.
use Rattle.std.specs.Prelude.{ℕ, Bool, true, false, not, ◌&&◌, List, [], ◌∷◌, ◌++◌, map, filter, if◌then◌else◌}
use Rattle.std.specs.List.{list_any}
use Rattle.std.specs.Str.{bytes_eq}
use Rattle.vv_gate.specs.Tree as gates
use Rattle.vv_gate.specs.declared.tree.Operator.{Operator}
use Rattle.vv_gate.specs.declared.tree.Operator.TheVariants.{And, Or, Xor}
use Rattle.vv_vast.specs.Tree.{bit0, bit1, bitx, not', Binary, and', or', xor', Expr, literal, name, unary, binary, Item, assign, Direction, input, output, Port, Module}
use Rattle.vv_gate_text.specs.Names.{mangled}

abbrev pub binary_of : Operator → Binary
binary_of And = and'
binary_of Or = or'
binary_of Xor = xor'

abbrev pub made_operand : gates.Operand → Expr (List ℕ)
made_operand gates.low = literal bit0
made_operand gates.high = literal bit1
made_operand (gates.port i) = name (mangled i.text)

abbrev pub made_term : gates.Term → Expr (List ℕ)
made_term t = if t.negated then unary not' (made_operand t.operand) else made_operand t.operand

-- the chain from the left, of which e is the part so far
abbrev pub chained : Binary → Expr (List ℕ) → List gates.Term → Expr (List ℕ)
chained o e [] = e
chained o e (t ∷ ts) = chained o (binary o e (made_term t)) ts

abbrev pub made_terms : Binary → List gates.Term → Expr (List ℕ)
made_terms o [] = literal bitx
made_terms o (t ∷ ts) = chained o (made_term t) ts

abbrev pub made_assignment : gates.Assignment → Item (List ℕ)
made_assignment a = assign (mangled a.target.text) (made_terms (binary_of a.operator) a.terms)

-- some assignment has the name as its target
abbrev pub is_assigned : List gates.Assignment → List ℕ → Bool
is_assigned assignments text = list_any (λ a. bytes_eq a.target.text text) assignments

-- an output that no assignment targets
abbrev pub is_idle : gates.GateFile → gates.Port → Bool
is_idle f p = not p.input && not (is_assigned f.assignments p.ident.text)

-- such an output is x
abbrev pub made_idle : gates.Port → Item (List ℕ)
made_idle p = assign (mangled p.ident.text) (literal bitx)

abbrev pub direction_of : Bool → Direction
direction_of true = input
direction_of false = output

abbrev pub made_port : gates.Port → Port
made_port p = record { direction = direction_of p.input; name = mangled p.ident.text }

abbrev pub module_of : gates.GateFile → Module
module_of f = record {
  name = mangled f.entity.text;
  ports = map made_port (gates.ports_of f);
  items = map made_assignment f.assignments ++ map made_idle (filter (is_idle f) (gates.ports_of f));
}
