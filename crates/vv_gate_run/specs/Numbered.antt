-- The flat design of a file of gates, in which the number of a port stands for its name.
use Rattle.std.specs.Prelude.{ℕ, suc, Bool, ◌||◌, cond, if◌then◌else◌, List, [], ◌∷◌, ◌++◌, map}
use Rattle.vv_gate.specs.Tree.{Operand, low, high, port, Term, Assignment, GateFile, Port, ports_of}
use Rattle.vv_gate_text.specs.Made.{binary_of, made_port}
use Rattle.vv_gate_vhdl.specs.Design.{net_of, is_assigned}
use Rattle.vv_vast.specs.Flat.{Flat}
use Rattle.vv_vast.specs.Tree.{bit0, bit1, bitx, not', Binary, Expr, literal, name, unary, binary, Item, assign}

abbrev pub numbered_operand : List Port → Operand → Expr ℕ
numbered_operand ports low = literal bit0
numbered_operand ports high = literal bit1
numbered_operand ports (port i) = name (net_of ports i.text)

abbrev pub numbered_term : List Port → Term → Expr ℕ
numbered_term ports t = if t.negated then unary not' (numbered_operand ports t.operand) else numbered_operand ports t.operand

-- the chain from the left, of which e is the part so far
abbrev pub numbered_chain : List Port → Binary → Expr ℕ → List Term → Expr ℕ
numbered_chain ports o e [] = e
numbered_chain ports o e (t ∷ ts) = numbered_chain ports o (binary o e (numbered_term ports t)) ts

abbrev pub numbered_terms : List Port → Binary → List Term → Expr ℕ
numbered_terms ports o [] = literal bitx
numbered_terms ports o (t ∷ ts) = numbered_chain ports o (numbered_term ports t) ts

abbrev pub numbered_item : List Port → Assignment → Item ℕ
numbered_item ports a = assign (net_of ports a.target.text) (numbered_terms ports (binary_of a.operator) a.terms)

-- an output that no assignment targets is x; these ports have numbers from k on
abbrev pub idle_items : (ℕ → Bool) → List Port → ℕ → List (Item ℕ)
idle_items taken [] k = []
idle_items taken (p ∷ ports) k = cond (p.input || taken k) (idle_items taken ports (suc k)) (assign k (literal bitx) ∷ idle_items taken ports (suc k))

abbrev pub numbered_file : GateFile → Flat
numbered_file f = record {
  objects = map made_port (ports_of f);
  items = map (numbered_item (ports_of f)) f.assignments ++ idle_items (is_assigned (ports_of f) f.assignments) (ports_of f) 0;
}
