-- The VHDL design that a file of gates stands for. Its nets are its ports, in their order.
use Rattle.std.specs.Prelude.{◌≡◌, ℕ, zero, suc, nat_eq, Bool, true, false, cond, not, ◌||◌, List, [], ◌∷◌, map, Option, Some, None, slice_get}
use Rattle.std.specs.Str.{bytes_eq}
use Rattle.vv_bits.specs.declared.nine.S9.{S9}
use Rattle.vv_bits.specs.declared.nine.S9.TheVariants.{U, Zero, One}
use Rattle.vv_bits.specs.Nine.{and_rule, or_rule, xor_rule, not_rule}
use Rattle.vv_gate.specs.Tree.{Operand, low, high, port, Term, Assignment, GateFile, Port, ports_of}
use Rattle.vv_gate.specs.declared.tree.Operator.{Operator}
use Rattle.vv_gate.specs.declared.tree.Operator.TheVariants.{And, Or, Xor}
use Rattle.vv_cycle.specs.Processes.{Process, Data, Input, Design, at, pick}

-- ---- nets

-- the number of the first port with this name, or the number of ports where none has it
abbrev pub net_of : List Port → List ℕ → ℕ
net_of [] text = 0
net_of (p ∷ ports) text = cond (bytes_eq p.ident.text text) 0 (suc (net_of ports text))

-- net k is a port of this direction
abbrev pub is_port : Bool → List Port → ℕ → Bool
is_port input [] k = false
is_port true (p ∷ ports) zero = p.input
is_port false (p ∷ ports) zero = not p.input
is_port input (p ∷ ports) (suc k) = is_port input ports k

abbrev pub target_net : List Port → Assignment → ℕ
target_net ports a = net_of ports a.target.text

abbrev pub operand_nets : List Port → Operand → List ℕ → List ℕ
operand_nets ports low more = more
operand_nets ports high more = more
operand_nets ports (port i) more = net_of ports i.text ∷ more

-- the nets of the operands, in the order of the text
abbrev pub term_nets : List Port → List Term → List ℕ
term_nets ports [] = []
term_nets ports (t ∷ terms) = operand_nets ports t.operand (term_nets ports terms)

-- ---- values

abbrev pub operand_value : List Port → List S9 → Operand → S9
operand_value ports values low = Zero
operand_value ports values high = One
operand_value ports values (port i) = at values (net_of ports i.text)

abbrev pub term_value : List Port → List S9 → Term → S9
term_value ports values t = cond t.negated (not_rule (operand_value ports values t.operand)) (operand_value ports values t.operand)

abbrev pub combine : Operator → S9 → S9 → S9
combine And a b = and_rule a b
combine Or a b = or_rule a b
combine Xor a b = xor_rule a b

abbrev pub chain_from : List Port → Operator → S9 → List Term → List S9 → S9
chain_from ports o v [] values = v
chain_from ports o v (t ∷ terms) values = chain_from ports o (combine o v (term_value ports values t)) terms values

-- the terms combined from the left; U where there is none
abbrev pub chain_value : List Port → Operator → List Term → List S9 → S9
chain_value ports o [] values = U
chain_value ports o (t ∷ terms) values = chain_from ports o (term_value ports values t) terms values

abbrev pub assigned_value : List Port → Assignment → List S9 → S9
assigned_value ports a values = chain_value ports a.operator a.terms values

abbrev pub output_among : List Port → List Assignment → List S9 → ℕ → S9
output_among ports [] values k = U
output_among ports (a ∷ more) values k = cond (nat_eq (target_net ports a) k) (assigned_value ports a values) (output_among ports more values k)

-- the value of the assignment that targets net k, or U where none does
abbrev pub output_value : GateFile → List S9 → ℕ → S9
output_value f values k = output_among (ports_of f) f.assignments values k

-- ---- the design

-- an assignment is a process, which is sensitive to its operands
abbrev pub gate_process : List Port → Assignment → Process
gate_process ports a = record { sensitive = term_nets ports a.terms; targets = target_net ports a ∷ []; first_drivers = U ∷ []; first_variables = []; body = λ nets drivers variables. Some (record { drivers = assigned_value ports a nets.values ∷ []; variables = []; clash = false }) }

-- some assignment targets net k
abbrev pub is_assigned : List Port → List Assignment → ℕ → Bool
is_assigned ports [] k = false
is_assigned ports (a ∷ more) k = nat_eq (target_net ports a) k || is_assigned ports more k

-- an out port that nothing in its entity drives has its initial value as a constant source;
-- these ports have numbers from k on, and the nets of taken are assigned
abbrev pub undriven : (ℕ → Bool) → List Port → ℕ → List (ℕ × S9)
undriven taken [] k = []
undriven taken (p ∷ ports) k = cond (p.input || taken k) (undriven taken ports (suc k)) ((k, U) ∷ undriven taken ports (suc k))

-- each in port is an input of one net; these ports have numbers from k on
abbrev pub inputs_from : List Port → ℕ → List Input
inputs_from [] k = []
inputs_from (p ∷ ports) k = cond p.input (record { class = Data; nets = k ∷ [] } ∷ inputs_from ports (suc k)) (inputs_from ports (suc k))

abbrev pub gate_design : GateFile → Design
gate_design f = record { processes = map (gate_process (ports_of f)) f.assignments; constants = undriven (is_assigned (ports_of f) f.assignments) (ports_of f) 0; initial = map (λ p. U) (ports_of f); inputs = inputs_from (ports_of f) 0 }

-- ---- files whose design settles

-- the operand is an in port or a constant
abbrev pub HasInput : List Port → Operand → Type 0
HasInput ports low = Unit {0}
HasInput ports high = Unit {0}
HasInput ports (port i) = is_port true ports (net_of ports i.text) ≡ true

-- no net is targeted twice
abbrev pub OnceAssigned : List Port → List Assignment → Type 0
OnceAssigned ports [] = Unit {0}
OnceAssigned ports (a ∷ more) = (is_assigned ports more (target_net ports a) ≡ false) × OnceAssigned ports more

abbrev pub AllInputs : List Port → List Term → Type 0
AllInputs ports [] = Unit {0}
AllInputs ports (t ∷ terms) = HasInput ports t.operand × AllInputs ports terms

abbrev pub AllPlaced : List Port → List Assignment → Type 0
AllPlaced ports [] = Unit {0}
AllPlaced ports (a ∷ more) = (is_port false ports (target_net ports a) ≡ true) × (AllInputs ports a.terms × AllPlaced ports more)

-- each target is an out port, each operand an in port, and no out port is targeted twice
pub record IsSoundGate (f : GateFile) : Type 0 where
  pub placed : AllPlaced (ports_of f) f.assignments
  pub once : OnceAssigned (ports_of f) f.assignments

-- ---- ranks

-- an in port has rank 0, and any other net rank 1
abbrev pub gate_rank : GateFile → ℕ → ℕ
gate_rank f k = cond (is_port true (ports_of f) k) 0 1

abbrev pub none_held : List S9 → ℕ → Bool
none_held values i = false

abbrev pub give_of : List Port → Option Assignment → ℕ → List S9 → List S9
give_of ports None x values = []
give_of ports (Some a) x values = pick (target_net ports a ∷ []) (assigned_value ports a values ∷ []) x

-- the driver of net x in the process of assignment number i
abbrev pub gate_give : GateFile → ℕ → ℕ → List S9 → List S9
gate_give f i x values = give_of (ports_of f) (slice_get f.assignments i) x values
