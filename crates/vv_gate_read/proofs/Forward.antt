-- The machine goes over what a whole tree spells, and comes to its end with that tree.
use Rattle.std.proofs.Common.{◌≡◌, ◌≤◌, ◌<◌, ◌+◌, Bool, true, false, if◌then◌else◌, ◌&&◌, nat_lt, List, [], ◌∷◌, ◌++◌, length, length-append, map, flat_map, Option, Some, None, codes, IfSome, All, refl, sym, ap, ◌∙◌, append_assoc, append-nil, arith}
use Rattle.std.proofs.lemmas.List.Elements.{All-head, All-tail}
use Rattle.std.proofs.lemmas.Bool.{lt-ltb}
use Rattle.std.proofs.lemmas.Slice.Eq.{bytes_eq-Decides}
use Rattle.vv_gate.specs.Tree.{Ident, Group, Operand, low, high, port, Term, Assignment, GateFile}
use Rattle.vv_gate.specs.Whole.{IsWhole, IsWholeAssignment}
use Rattle.vv_gate.specs.declared.token.Mark.TheVariants as mk
use Rattle.vv_gate.specs.declared.tree.Operator.{Operator}
use Rattle.vv_gate.specs.declared.tree.Operator.TheVariants as operator
use Rattle.vv_gate_lex.specs.Symbols.{Symbol, name, mark, finish, is_mark}
use Rattle.vv_gate_read.specs.Grammar.{joined, spelled_ident, direction, spelled_group, spelled_term, operator_mark, spelled_assignment, spelled_numeric, spelled_context, spelled_entity, spelled_architecture, spelled}
use Rattle.vv_gate_read.specs.Machine.{Context, Ports, Chain, after_logic, at_entity, at_port, after_group, at_architecture, at_statement, at_term, after_term, done, start, when, wait, with_ident, no_idents, no_assignments, no_terms, with_term, assignment_with, with_assignment, operator_of, may_follow, same_operator, more_terms}
use Rattle.vv_gate_read.proofs.Runs.{at, after, run}

-- a group of ports
group_over : (p : Ports) (x : Ident) (xs : List Ident) (input : Bool) (rest : List Symbol)
    → run (at (at_port p)) ((joined mk.Comma spelled_ident (x ∷ xs) ++ map mark (mk.Colon ∷ direction input ∷ mk.StdLogic ∷ [])) ++ rest)
    ≡ run (at (after_group (no_idents p) (record { idents = p.idents ++ (x ∷ xs); input = input }))) rest
unfolding is_mark
group_over p x [] true rest = refl
group_over p x [] false rest = refl
group_over p x (y ∷ more) input rest =
    group_over (with_ident p x) y more input rest
    ∙ ap (λ (k : List Ident). run (at (after_group (no_idents p) (record { idents = k; input = input }))) rest) (append_assoc p.idents (x ∷ []) (y ∷ more))

abbrev pub ports : Context → Ident → List Group → Ports
ports c e gs = record { context = c; entity = e; groups = gs; idents = [] }

one_group : (c : Context) (e : Ident) (gs : List Group) (xs : List Ident) (input : Bool) (rest : List Symbol) → 0 < length xs
    → run (at (at_port (ports c e gs))) (spelled_group (record { idents = xs; input = input }) ++ rest) ≡ run (at (after_group (ports c e gs) (record { idents = xs; input = input }))) rest
one_group c e gs [] input rest some = absurd (omega arith)
one_group c e gs (x ∷ xs) input rest some = group_over (ports c e gs) x xs input rest

-- all groups, and the end of the entity
groups_over : (c : Context) (e : Ident) (before : List Group) (g : Group) (gs : List Group) (rest : List Symbol) → All (λ g. 0 < length g.idents) (g ∷ gs)
    → run (at (at_port (ports c e before))) ((joined mk.Semicolon spelled_group (g ∷ gs)) ++ (mark mk.Close ∷ rest))
    ≡ run (record { expected = mk.Semicolon ∷ mk.End ∷ mk.Semicolon ∷ mk.Architecture ∷ []; place = at_architecture (ports c e (before ++ (g ∷ gs))) }) rest
unfolding is_mark
groups_over c e before g [] rest some = one_group c e before g.idents g.input (mark mk.Close ∷ rest) (All-head (λ (g : Group). 0 < length g.idents) g [] some)
groups_over c e before g (h ∷ more) rest some =
    ap (run (at (at_port (ports c e before)))) (append_assoc (spelled_group g) (mark mk.Semicolon ∷ joined mk.Semicolon spelled_group (h ∷ more)) (mark mk.Close ∷ rest))
    ∙ (one_group c e before g.idents g.input (mark mk.Semicolon ∷ (joined mk.Semicolon spelled_group (h ∷ more) ++ (mark mk.Close ∷ rest))) (All-head (λ (g : Group). 0 < length g.idents) g (h ∷ more) some)
    ∙ (groups_over c e (before ++ (g ∷ [])) h more rest (All-tail (λ (g : Group). 0 < length g.idents) g (h ∷ more) some)
    ∙ ap (λ (k : List Group). run (record { expected = mk.Semicolon ∷ mk.End ∷ mk.Semicolon ∷ mk.Architecture ∷ []; place = at_architecture (ports c e k) }) rest) (append_assoc before (g ∷ []) (h ∷ more))))

-- a term
term_over : (c : Chain) (b : Bool) (o : Operand) (rest : List Symbol) → run (at (at_term c)) (spelled_term (record { negated = b; operand = o }) ++ rest) ≡ run (at (after_term c (record { negated = b; operand = o }))) rest
unfolding is_mark
term_over c true low rest = refl
term_over c true high rest = refl
term_over c true (port i) rest = refl
term_over c false low rest = refl
term_over c false high rest = refl
term_over c false (port i) rest = refl

operator_of-mark : (o : Operator) → operator_of (mark (operator_mark o)) ≡ Some o
unfolding is_mark
operator_of-mark operator.And = refl
operator_of-mark operator.Or = refl
operator_of-mark operator.Xor = refl

no_semicolon : (o : Operator) → is_mark mk.Semicolon (mark (operator_mark o)) ≡ false
unfolding is_mark
no_semicolon operator.And = refl
no_semicolon operator.Or = refl
no_semicolon operator.Xor = refl

-- the operator of a chain is this one, or not yet known
abbrev pub Leads : Option Operator → Operator → Type 0
Leads None o = Unit {0}
Leads (Some p) o = p ≡ o

itself : (o : Operator) → same_operator o o ≡ true
itself operator.And = refl
itself operator.Or = refl
itself operator.Xor = refl

leads_on : (k : Option Operator) (o : Operator) → Leads k o → may_follow k o ≡ true
leads_on None o h = refl
leads_on (Some p) o h = ap (λ (q : Operator). same_operator q o) h ∙ itself o

-- an operator behind a term
operator_over : (c : Chain) (t : Term) (o : Operator) (rest : List Symbol) → Leads c.operator o → length c.terms < 63
    → run (at (after_term c t)) (mark (operator_mark o) ∷ rest) ≡ run (at (at_term (with_term c o t))) rest
operator_over c t o rest leads few =
    ap (λ (b : Bool). after (if b then wait [] (at_statement (with_assignment c.file (assignment_with c t))) else more_terms c t (operator_of (mark (operator_mark o)))) rest) (no_semicolon o)
    ∙ (ap (λ (k : Option Operator). after (more_terms c t k) rest) (operator_of-mark o)
    ∙ (ap (λ (b : Bool). after (when (b && nat_lt (length c.terms) 63) (wait [] (at_term (with_term c o t)))) rest) (leads_on c.operator o leads)
    ∙ ap (λ (b : Bool). after (when b (wait [] (at_term (with_term c o t)))) rest) (lt-ltb (length c.terms) 63 few)))

abbrev closed : Chain → Operator → List Term → GateFile
closed c o ts = with_assignment c.file (record { target = c.target; operator = o; terms = c.terms ++ ts })

-- terms from the second one on
more_over : (f : GateFile) (i : Ident) (o : Operator) (before : List Term) (t : Term) (ts : List Term) (rest : List Symbol) → length before + length (t ∷ ts) ≤ 64
    → run (at (at_term (record { file = f; target = i; operator = Some o; terms = before }))) ((joined (operator_mark o) spelled_term (t ∷ ts)) ++ (mark mk.Semicolon ∷ rest))
    ≡ run (at (at_statement (with_assignment f (record { target = i; operator = o; terms = before ++ (t ∷ ts) })))) rest
unfolding is_mark
more_over f i o before t [] rest few = term_over (record { file = f; target = i; operator = Some o; terms = before }) t.negated t.operand (mark mk.Semicolon ∷ rest)
more_over f i o before t (u ∷ more) rest few =
    let c : Chain = record { file = f; target = i; operator = Some o; terms = before } in
    ap (run (at (at_term c))) (append_assoc (spelled_term t) (mark (operator_mark o) ∷ joined (operator_mark o) spelled_term (u ∷ more)) (mark mk.Semicolon ∷ rest))
    ∙ (term_over c t.negated t.operand (mark (operator_mark o) ∷ (joined (operator_mark o) spelled_term (u ∷ more) ++ (mark mk.Semicolon ∷ rest)))
    ∙ (operator_over c t o (joined (operator_mark o) spelled_term (u ∷ more) ++ (mark mk.Semicolon ∷ rest)) refl (omega arith)
    ∙ (more_over f i o (before ++ (t ∷ [])) u more rest (omega (arith, length-append before (t ∷ [])))
    ∙ ap (λ (k : List Term). run (at (at_statement (with_assignment f (record { target = i; operator = o; terms = k })))) rest) (append_assoc before (t ∷ []) (u ∷ more)))))

-- a chain
chain_over : (f : GateFile) (i : Ident) (o : Operator) (ts : List Term) (rest : List Symbol) → IsWholeAssignment (record { target = i; operator = o; terms = ts })
    → run (at (at_term (no_terms f i))) ((joined (operator_mark o) spelled_term ts) ++ (mark mk.Semicolon ∷ rest)) ≡ run (at (at_statement (with_assignment f (record { target = i; operator = o; terms = ts })))) rest
unfolding is_mark
chain_over f i o [] rest w = absurd (omega (arith, w.some))
chain_over f i o (t ∷ []) rest w =
    term_over (no_terms f i) t.negated t.operand (mark mk.Semicolon ∷ rest)
    ∙ ap (λ (k : Operator). run (at (at_statement (with_assignment f (record { target = i; operator = k; terms = t ∷ [] })))) rest) (sym (w.alone refl))
chain_over f i o (t ∷ u ∷ more) rest w =
    let most = w.most in
    ap (run (at (at_term (no_terms f i)))) (append_assoc (spelled_term t) (mark (operator_mark o) ∷ joined (operator_mark o) spelled_term (u ∷ more)) (mark mk.Semicolon ∷ rest))
    ∙ (term_over (no_terms f i) t.negated t.operand (mark (operator_mark o) ∷ (joined (operator_mark o) spelled_term (u ∷ more) ++ (mark mk.Semicolon ∷ rest)))
    ∙ (operator_over (no_terms f i) t o (joined (operator_mark o) spelled_term (u ∷ more) ++ (mark mk.Semicolon ∷ rest)) tt (omega arith)
    ∙ more_over f i o (t ∷ []) u more rest (omega arith)))

assignment_over : (f : GateFile) (a : Assignment) (rest : List Symbol) → IsWholeAssignment a → run (at (at_statement f)) (spelled_assignment a ++ rest) ≡ run (at (at_statement (with_assignment f a))) rest
unfolding is_mark
assignment_over f a rest w =
    ap (λ (k : List Symbol). run (at (at_statement f)) (name a.target ∷ mark mk.Arrow ∷ k)) (append_assoc (joined (operator_mark a.operator) spelled_term a.terms) (mark mk.Semicolon ∷ []) rest)
    ∙ chain_over f a.target a.operator a.terms rest w

abbrev with_assignments : GateFile → List Assignment → GateFile
with_assignments f all = record f { assignments = f.assignments ++ all }

assignments_over : (f : GateFile) (all : List Assignment) (rest : List Symbol) → All IsWholeAssignment all → run (at (at_statement f)) (flat_map spelled_assignment all ++ rest) ≡ run (at (at_statement (with_assignments f all))) rest
assignments_over f [] rest w = ap (λ (k : List Assignment). run (at (at_statement (record f { assignments = k }))) rest) (sym (append-nil f.assignments))
assignments_over f (a ∷ all) rest w =
    ap (run (at (at_statement f))) (append_assoc (spelled_assignment a) (flat_map spelled_assignment all) rest)
    ∙ (assignment_over f a (flat_map spelled_assignment all ++ rest) (All-head IsWholeAssignment a all w)
    ∙ (assignments_over (with_assignment f a) all rest (All-tail IsWholeAssignment a all w)
    ∙ ap (λ (k : List Assignment). run (at (at_statement (record f { assignments = k }))) rest) (append_assoc f.assignments (a ∷ []) all)))

context_over : (l : Ident) (n : Option Ident) (e : Ident) (rest : List Symbol) → l.text ≡ codes "std_logic_1164" → IfSome n (λ i. i.text ≡ codes "numeric_std")
    → run start (spelled_context l n ++ (spelled_entity e ++ rest)) ≡ run (at (at_port (ports (record { logic = l; numeric = n }) e []))) rest
unfolding is_mark
context_over l None e rest h k =
    ap (λ (b : Bool). after (when b (wait (mk.Dot ∷ mk.All ∷ mk.Semicolon ∷ []) (after_logic l))) (map mark (mk.Dot ∷ mk.All ∷ mk.Semicolon ∷ []) ++ (spelled_entity e ++ rest)))
    ((bytes_eq-Decides l.text (codes "std_logic_1164")).1 h)
context_over l (Some n) e rest h k =
    ap (λ (b : Bool). after (when b (wait (mk.Dot ∷ mk.All ∷ mk.Semicolon ∷ []) (after_logic l))) (map mark (mk.Dot ∷ mk.All ∷ mk.Semicolon ∷ []) ++ (spelled_numeric (Some n) ++ (spelled_entity e ++ rest))))
    ((bytes_eq-Decides l.text (codes "std_logic_1164")).1 h)
    ∙ ap (λ (b : Bool). after (when b (wait (mk.Dot ∷ mk.All ∷ mk.Semicolon ∷ mk.Entity ∷ []) (at_entity (record { logic = l; numeric = Some n })))) (map mark (mk.Dot ∷ mk.All ∷ mk.Semicolon ∷ []) ++ (spelled_entity e ++ rest)))
    ((bytes_eq-Decides n.text (codes "numeric_std")).1 k)

entity_over : (c : Context) (e : Ident) (gs : List Group) (a o : Ident) (rest : List Symbol) → 0 < length gs → All (λ g. 0 < length g.idents) gs
    → run (at (at_port (ports c e []))) (joined mk.Semicolon spelled_group gs ++ (spelled_architecture a o ++ rest)) ≡ run (at (at_statement (no_assignments (ports c e gs) a o))) rest
unfolding is_mark
entity_over c e [] a o rest some groups = absurd (omega arith)
entity_over c e (g ∷ gs) a o rest some groups =
    groups_over c e [] g gs (map mark (mk.Semicolon ∷ mk.End ∷ mk.Semicolon ∷ mk.Architecture ∷ []) ++ (name a ∷ mark mk.Of ∷ name o ∷ mark mk.Is ∷ mark mk.Begin ∷ rest)) groups

end_over : (f : GateFile) → run (at (at_statement f)) (mark mk.End ∷ mark mk.Semicolon ∷ finish ∷ []) ≡ Some (at (done f))
unfolding is_mark
end_over f = refl

-- a whole file
pub file_over : (f : GateFile) → IsWhole f → run start (spelled f) ≡ Some (at (done f))
file_over f w =
    let c : Context = record { logic = f.logic; numeric = f.numeric } in
    let last : List Symbol = mark mk.End ∷ mark mk.Semicolon ∷ finish ∷ [] in
    let body = flat_map spelled_assignment f.assignments ++ last in
    context_over f.logic f.numeric f.entity (joined mk.Semicolon spelled_group f.groups ++ (spelled_architecture f.architecture f.of ++ body)) w.logic w.numeric
    ∙ (entity_over c f.entity f.groups f.architecture f.of body w.some w.groups
    ∙ (assignments_over (no_assignments (ports c f.entity f.groups) f.architecture f.of) f.assignments last w.assignments
    ∙ end_over f))
