-- Where the machine comes to over some symbols, and what it has read there.
use Rattle.std.proofs.Common.{◌≡◌, ◌≤◌, ◌<◌, Bool, List, [], ◌∷◌, ◌++◌, length, map, flat_map, Option, Some, None, codes, IfSome, All, refl, ap, ◌∙◌}
use Rattle.vv_gate.specs.Tree.{Ident, Group, Term, GateFile}
use Rattle.vv_gate.specs.Whole.{IsWhole}
use Rattle.vv_gate.specs.declared.token.Mark.{Mark}
use Rattle.vv_gate.specs.declared.token.Mark.TheVariants as mk
use Rattle.vv_gate.specs.declared.tree.Operator.{Operator}
use Rattle.vv_gate_lex.specs.Symbols.{Symbol, name, mark, finish}
use Rattle.vv_gate_read.specs.Grammar.{joined, spelled_group, spelled_term, operator_mark, spelled_assignment, spelled_context, spelled_entity, spelled_architecture}
use Rattle.vv_gate_read.specs.Machine.{Context, Ports, Chain, Place, at_logic, after_logic, at_numeric, at_entity, at_port, after_port, at_mode, after_group, at_architecture, at_of, at_statement, at_term, at_operand, after_term, at_finish, done, State, when, wait, step, operator_or_and}
use Rattle.vv_gate_lex.proofs.Marks.{is_mark-same}

abbrev pub at : Place → State
at p = record { expected = []; place = p }

-- the state behind some symbols
abbrev pub after : Option State → List Symbol → Option State
after None ts = None
after (Some s) [] = Some s
after (Some s) (t ∷ ts) = after (step s t) ts

abbrev pub run : State → List Symbol → Option State
run s ts = after (Some s) ts

pub after-append : (s : Option State) (a b : List Symbol) → after s (a ++ b) ≡ after (after s a) b
after-append None [] b = refl
after-append None (t ∷ a) b = refl
after-append (Some s) [] b = refl
after-append (Some s) (t ∷ a) b = after-append (step s t) a b

-- the expected marks
pub run-expected : (ms : List Mark) (p : Place) (ts : List Symbol) → run (record { expected = ms; place = p }) (map mark ms ++ ts) ≡ run (at p) ts
run-expected [] p ts = refl
run-expected (m ∷ ms) p ts = ap (λ (b : Bool). after (when b (wait ms p)) (map mark ms ++ ts)) (is_mark-same m) ∙ run-expected ms p ts

-- what was read before a place
abbrev pub opening : Context → Ident → List Symbol
opening c e = spelled_context c.logic c.numeric ++ spelled_entity e

abbrev pub ended_group : Group → List Symbol
ended_group g = spelled_group g ++ (mark mk.Semicolon ∷ [])

abbrev pub ended_ident : Ident → List Symbol
ended_ident i = name i ∷ mark mk.Comma ∷ []

abbrev pub front_port : Ports → List Symbol
front_port p = (opening p.context p.entity ++ flat_map ended_group p.groups) ++ flat_map ended_ident p.idents

abbrev pub front_architecture : Ports → List Symbol
front_architecture p = (opening p.context p.entity ++ joined mk.Semicolon spelled_group p.groups) ++ map mark (mk.Close ∷ mk.Semicolon ∷ mk.End ∷ mk.Semicolon ∷ mk.Architecture ∷ [])

abbrev pub context_in : GateFile → Context
context_in f = record { logic = f.logic; numeric = f.numeric }

abbrev pub heading : GateFile → List Symbol
heading f = (opening (context_in f) f.entity ++ joined mk.Semicolon spelled_group f.groups) ++ spelled_architecture f.architecture f.of

abbrev pub front_statement : GateFile → List Symbol
front_statement f = heading f ++ flat_map spelled_assignment f.assignments

abbrev pub ended_term : Operator → Term → List Symbol
ended_term o t = spelled_term t ++ (mark (operator_mark o) ∷ [])

abbrev pub front_term : Chain → List Symbol
front_term c = (front_statement c.file ++ (name c.target ∷ mark mk.Arrow ∷ [])) ++ flat_map (ended_term (operator_or_and c.operator)) c.terms

abbrev pub front : Place → List Symbol
front at_logic = map mark (mk.Library ∷ mk.Ieee ∷ mk.Semicolon ∷ mk.Use ∷ mk.Ieee ∷ mk.Dot ∷ [])
front (after_logic l) = spelled_context l None
front (at_numeric l) = spelled_context l None ++ map mark (mk.Use ∷ mk.Ieee ∷ mk.Dot ∷ [])
front (at_entity c) = spelled_context c.logic c.numeric ++ (mark mk.Entity ∷ [])
front (at_port p) = front_port p
front (after_port p i) = front_port p ++ (name i ∷ [])
front (at_mode p i) = front_port p ++ (name i ∷ mark mk.Colon ∷ [])
front (after_group p g) = (opening p.context p.entity ++ flat_map ended_group p.groups) ++ spelled_group g
front (at_architecture p) = front_architecture p
front (at_of p a) = front_architecture p ++ (name a ∷ mark mk.Of ∷ [])
front (at_statement f) = front_statement f
front (at_term c) = front_term c
front (at_operand c) = front_term c ++ (mark mk.Not ∷ [])
front (after_term c t) = front_term c ++ spelled_term t
front (at_finish f) = front_statement f ++ (mark mk.End ∷ mark mk.Semicolon ∷ [])
front (done f) = front_statement f ++ (mark mk.End ∷ mark mk.Semicolon ∷ finish ∷ [])

-- what is known of the parts that were read
pub record IsContext (c : Context) : Type 0 where
  pub logic : c.logic.text ≡ codes "std_logic_1164"
  pub numeric : IfSome c.numeric (λ i. i.text ≡ codes "numeric_std")

pub record ArePorts (p : Ports) : Type 0 where
  pub context : IsContext p.context
  pub groups : All (λ g. 0 < length g.idents) p.groups

pub record IsChain (c : Chain) : Type 0 where
  pub file : IsWhole c.file
  pub none : c.operator ≡ None → c.terms ≡ []
  pub some : c.terms ≡ [] → c.operator ≡ None
  pub most : length c.terms ≤ 63

abbrev pub Good : Place → Type 0
Good at_logic = Unit {0}
Good (after_logic l) = l.text ≡ codes "std_logic_1164"
Good (at_numeric l) = l.text ≡ codes "std_logic_1164"
Good (at_entity c) = IsContext c
Good (at_port p) = ArePorts p
Good (after_port p i) = ArePorts p
Good (at_mode p i) = ArePorts p
Good (after_group p g) = ArePorts p × (p.idents ≡ []) × (0 < length g.idents)
Good (at_architecture p) = ArePorts p × (0 < length p.groups)
Good (at_of p a) = ArePorts p × (0 < length p.groups)
Good (at_statement f) = IsWhole f
Good (at_term c) = IsChain c
Good (at_operand c) = IsChain c
Good (after_term c t) = IsChain c
Good (at_finish f) = IsWhole f
Good (done f) = IsWhole f

-- these symbols were read on the way to the state
pub record Reached (read : List Symbol) (s : State) : Type 0 where
  pub text : read ++ map mark s.expected ≡ front s.place
  pub good : Good s.place
