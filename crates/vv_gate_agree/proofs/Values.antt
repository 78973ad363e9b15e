-- What Verilog sees of an assignment's value is the value of the assignment's expression.
use Rattle.std.proofs.Common.{◌≡◌, ℕ, Bool, true, false, cond, List, [], ◌∷◌, refl, sym, ap, ap₂, ◌∙◌}
use Rattle.std.specs.List.{AllByRecursion}
use Rattle.vv_bits.specs.declared.nine.S9.{S9}
use Rattle.vv_bits.specs.declared.four.V4.{V4}
use Rattle.vv_bits.specs.Four.{abs_rule, and4_rule, or4_rule, xor4_rule, not4_rule}
use Rattle.vv_vast.specs.Flat.{IsDistinct}
use Rattle.vv_vast.specs.Tree as vast
use Rattle.vv_gate.specs.Tree.{Operand, low, high, port, Term, Port}
use Rattle.vv_gate.specs.declared.tree.Operator.{Operator}
use Rattle.vv_gate.specs.declared.tree.Operator.TheVariants.{And, Or, Xor}
use Rattle.vv_cycle.specs.Processes as vhdl
use Rattle.vv_events.specs.Equations.{at}
use Rattle.vv_gate_vhdl.specs.Design.{net_of, is_port, operand_value, term_value, combine, chain_from, chain_value, HasInput, AllInputs}
use Rattle.vv_gate_verilog.specs.Events.{v4_of, bit_value}
use Rattle.vv_gate_text.specs.Made.{binary_of, made_operand, made_term, chained, made_terms}
use Rattle.vv_gate_text.proofs.Elements.{each_front, each_back}
use Rattle.vv_gate_agree.proofs.Operators.{seen_and, seen_or, seen_xor, seen_not}
use Rattle.vv_gate_agree.proofs.Names.{find, find_net, names_of}

-- the value of an expression where the bits have names
abbrev pub named_value : vast.Expr (List ℕ) → (List ℕ → V4) → V4
named_value (vast.literal b) env = v4_of b
named_value (vast.name n) env = env n
named_value (vast.unary vast.not' e) env = not4_rule (named_value e env)
named_value (vast.binary vast.and' e g) env = and4_rule (named_value e env) (named_value g env)
named_value (vast.binary vast.or' e g) env = or4_rule (named_value e env) (named_value g env)
named_value (vast.binary vast.xor' e g) env = xor4_rule (named_value e env) (named_value g env)

pub bit_is_named : (name : ℕ → List ℕ) (env : List ℕ → V4) (bits : List V4) (e : vast.Expr ℕ) → AllByRecursion (λ n. env (name n) ≡ at bits n) (vast.reads e) → bit_value e bits ≡ named_value (vast.renamed name e) env
bit_is_named name env bits (vast.literal b) h = refl
bit_is_named name env bits (vast.name n) h = sym h.0
bit_is_named name env bits (vast.unary vast.not' e) h = ap not4_rule (bit_is_named name env bits e h)
bit_is_named name env bits (vast.binary vast.and' e g) h =
    ap₂ and4_rule (bit_is_named name env bits e (each_front (λ n. env (name n) ≡ at bits n) (vast.reads e) (vast.reads g) h)) (bit_is_named name env bits g (each_back (λ n. env (name n) ≡ at bits n) (vast.reads e) (vast.reads g) h))
bit_is_named name env bits (vast.binary vast.or' e g) h =
    ap₂ or4_rule (bit_is_named name env bits e (each_front (λ n. env (name n) ≡ at bits n) (vast.reads e) (vast.reads g) h)) (bit_is_named name env bits g (each_back (λ n. env (name n) ≡ at bits n) (vast.reads e) (vast.reads g) h))
bit_is_named name env bits (vast.binary vast.xor' e g) h =
    ap₂ xor4_rule (bit_is_named name env bits e (each_front (λ n. env (name n) ≡ at bits n) (vast.reads e) (vast.reads g) h)) (bit_is_named name env bits g (each_back (λ n. env (name n) ≡ at bits n) (vast.reads e) (vast.reads g) h))

module _ (ports : List Port) (distinct : IsDistinct (names_of ports)) (values : List S9) (bits : List V4) (agree : (k : ℕ) → is_port true ports k ≡ true → at bits k ≡ abs_rule (vhdl.at values k)) where
  abbrev env : List ℕ → V4
  env n = at bits (find (names_of ports) n)

  operand_seen : (o : Operand) → HasInput ports o → named_value (made_operand o) env ≡ abs_rule (operand_value ports values o)
  operand_seen low h = refl
  operand_seen high h = refl
  operand_seen (port i) h = ap (at bits) (find_net ports distinct true i.text h) ∙ agree (net_of ports i.text) h

  term_seen : (t : Term) → HasInput ports t.operand → named_value (made_term t) env ≡ abs_rule (term_value ports values t)
  term_seen t h = go t.negated
    where
      go : (b : Bool) → named_value (cond b (vast.unary vast.not' (made_operand t.operand)) (made_operand t.operand)) env ≡ abs_rule (term_value ports values (record { negated = b; operand = t.operand }))
      go true = ap not4_rule (operand_seen t.operand h) ∙ seen_not (operand_value ports values t.operand)
      go false = operand_seen t.operand h

  combined_seen : (o : Operator) (e g : vast.Expr (List ℕ)) (v w : S9) → named_value e env ≡ abs_rule v → named_value g env ≡ abs_rule w → named_value (vast.binary (binary_of o) e g) env ≡ abs_rule (combine o v w)
  combined_seen And e g v w p q = ap₂ and4_rule p q ∙ seen_and v w
  combined_seen Or e g v w p q = ap₂ or4_rule p q ∙ seen_or v w
  combined_seen Xor e g v w p q = ap₂ xor4_rule p q ∙ seen_xor v w

  chain_seen : (o : Operator) (e : vast.Expr (List ℕ)) (v : S9) (terms : List Term) → named_value e env ≡ abs_rule v → AllInputs ports terms → named_value (chained (binary_of o) e terms) env ≡ abs_rule (chain_from ports o v terms values)
  chain_seen o e v [] p h = p
  chain_seen o e v (t ∷ terms) p h =
      chain_seen o (vast.binary (binary_of o) e (made_term t)) (combine o v (term_value ports values t)) terms (combined_seen o e (made_term t) v (term_value ports values t) p (term_seen t h.0)) h.1

  pub terms_seen : (o : Operator) (terms : List Term) → AllInputs ports terms → named_value (made_terms (binary_of o) terms) env ≡ abs_rule (chain_value ports o terms values)
  terms_seen o [] h = refl
  terms_seen o (t ∷ terms) h = chain_seen o (made_term t) (term_value ports values t) terms (term_seen t h.0) h.1
