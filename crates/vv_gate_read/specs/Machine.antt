-- The grammar as a machine: what is still expected, where it stands and what was read, and what one symbol makes of it.
use Rattle.std.specs.Prelude.{ℕ, Bool, true, false, if◌then◌else◌, ◌&&◌, nat_lt, List, [], ◌∷◌, ◌++◌, length, Option, Some, None, codes, bytes_eq}
use Rattle.vv_gate.specs.Tree.{Ident, Group, low, high, port, Term, Assignment, GateFile}
use Rattle.vv_gate.specs.declared.token.Mark.{Mark}
use Rattle.vv_gate.specs.declared.token.Mark.TheVariants as mk
use Rattle.vv_gate.specs.declared.tree.Operator.{Operator}
use Rattle.vv_gate.specs.declared.tree.Operator.TheVariants as operator
use Rattle.vv_gate_lex.specs.Symbols.{Symbol, name, mark, other, finish, is_mark, Token}

-- the context clause
pub record Context : Type 0 where
  pub logic : Ident
  pub numeric : Option Ident

-- the entity up to a port
pub record Ports : Type 0 where
  pub context : Context
  pub entity : Ident
  pub groups : List Group
  pub idents : List Ident

-- an assignment up to a term
pub record Chain : Type 0 where
  pub file : GateFile
  pub target : Ident
  pub operator : Option Operator
  pub terms : List Term

pub data Place : Type 0 where
  -- `std_logic_1164` is wanted
  at_logic : Place
  after_logic : Ident → Place
  -- `numeric_std` is wanted
  at_numeric : Ident → Place
  at_entity : Context → Place
  at_port : Ports → Place
  after_port : Ports → Ident → Place
  at_mode : Ports → Ident → Place
  after_group : Ports → Group → Place
  at_architecture : Ports → Place
  at_of : Ports → Ident → Place
  at_statement : GateFile → Place
  at_term : Chain → Place
  at_operand : Chain → Place
  after_term : Chain → Term → Place
  at_finish : GateFile → Place
  done : GateFile → Place

-- the marks that come first, and the place behind them
pub record State : Type 0 where
  pub expected : List Mark
  pub place : Place

abbrev pub wait : List Mark → Place → Option State
wait ms p = Some (record { expected = ms; place = p })

abbrev pub start : State
start = record { expected = mk.Library ∷ mk.Ieee ∷ mk.Semicolon ∷ mk.Use ∷ mk.Ieee ∷ mk.Dot ∷ []; place = at_logic }

-- a name makes a state of it, and nothing else goes on
abbrev pub on_name : (Ident → Option State) → Symbol → Option State
on_name f (name i) = f i
on_name f (mark m) = None
on_name f (other b) = None
on_name f finish = None

-- the end of the file makes this state, and nothing else goes on
abbrev pub on_finish : Option State → Symbol → Option State
on_finish s finish = s
on_finish s (name i) = None
on_finish s (mark m) = None
on_finish s (other b) = None

abbrev pub when : Bool → Option State → Option State
when b s = if b then s else None

abbrev pub no_groups : Context → Ident → Ports
no_groups c e = record { context = c; entity = e; groups = []; idents = [] }

abbrev pub with_ident : Ports → Ident → Ports
with_ident p i = record p { idents = p.idents ++ (i ∷ []) }

abbrev pub with_group : Ports → Group → Ports
with_group p g = record p { groups = p.groups ++ (g ∷ []) }

abbrev pub group_with : Ports → Ident → Bool → Group
group_with p i input = record { idents = p.idents ++ (i ∷ []); input = input }

abbrev pub no_idents : Ports → Ports
no_idents p = record p { idents = [] }

abbrev pub after_mode : Ports → Ident → Bool → Option State
after_mode p i input = wait (mk.StdLogic ∷ []) (after_group (no_idents p) (group_with p i input))

abbrev pub no_assignments : Ports → Ident → Ident → GateFile
no_assignments p a o = record {
  logic = p.context.logic;
  numeric = p.context.numeric;
  entity = p.entity;
  groups = p.groups;
  architecture = a;
  of = o;
  assignments = [];
}

abbrev pub no_terms : GateFile → Ident → Chain
no_terms f i = record { file = f; target = i; operator = None; terms = [] }

abbrev pub with_term : Chain → Operator → Term → Chain
with_term c o t = record c { operator = Some o; terms = c.terms ++ (t ∷ []) }

abbrev pub operator_or_and : Option Operator → Operator
operator_or_and None = operator.And
operator_or_and (Some o) = o

abbrev pub assignment_with : Chain → Term → Assignment
assignment_with c t = record { target = c.target; operator = operator_or_and c.operator; terms = c.terms ++ (t ∷ []) }

abbrev pub with_assignment : GateFile → Assignment → GateFile
with_assignment f a = record f { assignments = f.assignments ++ (a ∷ []) }

-- a mark that is an operator
abbrev pub operator_of : Symbol → Option Operator
operator_of t =
    if is_mark mk.And t then Some operator.And
    else if is_mark mk.Or t then Some operator.Or
    else if is_mark mk.Xor t then Some operator.Xor
    else None

abbrev pub same_operator : Operator → Operator → Bool
same_operator operator.And operator.And = true
same_operator operator.Or operator.Or = true
same_operator operator.Xor operator.Xor = true
same_operator _ _ = false

-- one operator for a chain
abbrev pub may_follow : Option Operator → Operator → Bool
may_follow None o = true
may_follow (Some p) o = same_operator p o

-- behind a term, an operator with room for one more term, or the end of the statement
abbrev pub more_terms : Chain → Term → Option Operator → Option State
more_terms c t None = None
more_terms c t (Some o) = when (may_follow c.operator o && nat_lt (length c.terms) 63) (wait [] (at_term (with_term c o t)))

abbrev pub operand_from : Chain → Bool → Symbol → Option State
operand_from c negated t =
    if is_mark mk.Zero t then wait [] (after_term c (record { negated = negated; operand = low }))
    else if is_mark mk.One t then wait [] (after_term c (record { negated = negated; operand = high }))
    else on_name (λ i. wait [] (after_term c (record { negated = negated; operand = port i }))) t

abbrev pub choose : Place → Symbol → Option State
choose at_logic t = on_name (λ i. when (bytes_eq i.text (codes "std_logic_1164")) (wait (mk.Dot ∷ mk.All ∷ mk.Semicolon ∷ []) (after_logic i))) t
choose (after_logic l) t =
    if is_mark mk.Use t then wait (mk.Ieee ∷ mk.Dot ∷ []) (at_numeric l)
    else when (is_mark mk.Entity t) (wait [] (at_entity (record { logic = l; numeric = None })))
choose (at_numeric l) t = on_name (λ i. when (bytes_eq i.text (codes "numeric_std"))
    (wait (mk.Dot ∷ mk.All ∷ mk.Semicolon ∷ mk.Entity ∷ []) (at_entity (record { logic = l; numeric = Some i })))) t
choose (at_entity c) t = on_name (λ i. wait (mk.Is ∷ mk.Port ∷ mk.Open ∷ []) (at_port (no_groups c i))) t
choose (at_port p) t = on_name (λ i. wait [] (after_port p i)) t
choose (after_port p i) t =
    if is_mark mk.Comma t then wait [] (at_port (with_ident p i)) else when (is_mark mk.Colon t) (wait [] (at_mode p i))
choose (at_mode p i) t = if is_mark mk.In t then after_mode p i true else when (is_mark mk.Out t) (after_mode p i false)
choose (after_group p g) t =
    if is_mark mk.Semicolon t then wait [] (at_port (with_group p g))
    else when (is_mark mk.Close t) (wait (mk.Semicolon ∷ mk.End ∷ mk.Semicolon ∷ mk.Architecture ∷ []) (at_architecture (with_group p g)))
choose (at_architecture p) t = on_name (λ i. wait (mk.Of ∷ []) (at_of p i)) t
choose (at_of p a) t = on_name (λ i. wait (mk.Is ∷ mk.Begin ∷ []) (at_statement (no_assignments p a i))) t
choose (at_statement f) t =
    if is_mark mk.End t then wait (mk.Semicolon ∷ []) (at_finish f)
    else on_name (λ i. wait (mk.Arrow ∷ []) (at_term (no_terms f i))) t
choose (at_term c) t = if is_mark mk.Not t then wait [] (at_operand c) else operand_from c false t
choose (at_operand c) t = operand_from c true t
choose (after_term c t) s =
    if is_mark mk.Semicolon s then wait [] (at_statement (with_assignment c.file (assignment_with c t)))
    else more_terms c t (operator_of s)
choose (at_finish f) t = on_finish (wait [] (done f)) t
choose (done f) t = None

abbrev pub step_at : List Mark → Place → Symbol → Option State
step_at [] p t = choose p t
step_at (m ∷ ms) p t = when (is_mark m t) (wait ms p)

abbrev pub step : State → Symbol → Option State
step s t = step_at s.expected s.place t

pub data Outcome : Type 0 where
  -- the tokens are those of this tree
  Reads : GateFile → Outcome
  -- the token at this offset fits nowhere
  Stops : ℕ → Outcome

abbrev pub ended : List Mark → Place → Outcome
ended [] (done f) = Reads f
ended _ _ = Stops 0

abbrev pub going : Option State → (State → Outcome) → ℕ → Outcome
going None go at = Stops at
going (Some s) go at = go s

unfoldable pub drive : State → List Token → Outcome
drive s [] = ended s.expected s.place
drive s (t ∷ ts) = going (step s t.symbol) (λ n. drive n ts) t.at

-- the tree, where the end of the file may come now
abbrev pub ending_at : List Mark → Place → Option GateFile
ending_at [] (at_finish f) = Some f
ending_at _ _ = None

abbrev pub ending : State → Option GateFile
ending s = ending_at s.expected s.place
