-- One symbol more: what was read before the next place.
use Rattle.std.proofs.Common.{◌≡◌, ℕ, ◌<◌, Bool, true, false, if◌then◌else◌, ◌&&◌, nat_lt, List, [], ◌∷◌, ◌++◌, length, length-append, map, flat_map, Option, Some, None, codes, bytes_eq, refl, sym, ap, ◌∙◌, subst, append_assoc, append-nil, arith, ◌⊎◌, inl, inr}
use Rattle.std.proofs.lemmas.Grind.{flat_map-append}
use Rattle.std.proofs.lemmas.List.Elements.{All-nil, All-push}
use Rattle.std.proofs.lemmas.Slice.Eq.{bytes_eq-Decides}
use Rattle.std.proofs.lemmas.Bool.{ltb-true}
use Rattle.vv_gate.specs.Tree.{Ident, Group, Operand, low, high, port, Term, Assignment, GateFile}
use Rattle.vv_gate.specs.Whole.{IsWhole, IsWholeAssignment}
use Rattle.vv_gate.specs.declared.token.Mark.{Mark}
use Rattle.vv_gate.specs.declared.token.Mark.TheVariants as mk
use Rattle.vv_gate.specs.declared.tree.Operator.{Operator}
use Rattle.vv_gate.specs.declared.tree.Operator.TheVariants as operator
use Rattle.vv_gate_lex.specs.Symbols.{Symbol, name, mark, other, finish, is_mark}
use Rattle.vv_gate_read.specs.Grammar.{joined, spelled_ident, direction, spelled_group, spelled_operand, spelled_term, operator_mark, spelled_assignment, spelled_context, spelled_entity, spelled_architecture}
use Rattle.vv_gate_read.specs.Machine.{Context, Ports, Chain, Place, at_logic, after_logic, at_numeric, at_entity, at_port, after_port, at_mode, after_group, at_architecture, at_of, at_statement, at_term, at_operand, after_term, at_finish, done, State, on_name, when, wait, choose, step_at, step, no_groups, with_ident, with_group, group_with, no_idents, no_assignments, no_terms, with_term, operator_or_and, assignment_with, with_assignment, operator_of, may_follow, same_operator, more_terms, operand_from, after_mode}
use Rattle.vv_gate_lex.proofs.Marks.{mark_is}
use Rattle.vv_gate_read.proofs.Runs.{after, run, opening, ended_group, ended_ident, front_port, front_architecture, heading, front_statement, ended_term, front_term, front, IsContext, ArePorts, IsChain, Good, Reached}

-- regrouped lists
two : (x y : List Symbol) (a b : List Symbol) → ((x ++ y) ++ a) ++ b ≡ x ++ (y ++ (a ++ b))
two x y a b = simp append_assoc

three : (x y a b c : List Symbol) → (((x ++ y) ++ a) ++ b) ++ c ≡ x ++ (y ++ (a ++ (b ++ c)))
three x y a b c = simp append_assoc

pair : (x a b : List Symbol) → (x ++ a) ++ b ≡ x ++ (a ++ b)
pair x a b = append_assoc x a b

-- a last part more
pub joined-snoc : {A : Type 0} (m : Mark) (f : A → List Symbol) (xs : List A) (y : A) → joined m f (xs ++ (y ∷ [])) ≡ flat_map (λ x. f x ++ (mark m ∷ [])) xs ++ f y
joined-snoc m f [] y = refl
joined-snoc m f (x ∷ []) y = simp (append_assoc, append-nil)
joined-snoc m f (x ∷ z ∷ more) y = ap (λ (ts : List Symbol). f x ++ (mark m ∷ ts)) (joined-snoc m f (z ∷ more) y) ∙ simp append_assoc

chosen : (b : Bool) (x y : Option State) (n : State) → (if b then x else y) ≡ Some n → ((b ≡ true) × (x ≡ Some n)) ⊎ ((b ≡ false) × (y ≡ Some n))
chosen true x y n e = inl (refl, e)
chosen false x y n e = inr (refl, e)

held : (b : Bool) (x : Option State) (n : State) → when b x ≡ Some n → (b ≡ true) × (x ≡ Some n)
held true x n e = (refl, e)
held false x n e = let z : None ≡ Some n = e in cc

named : (f : Ident → Option State) (t : Symbol) (n : State) → on_name f t ≡ Some n → (i : Ident) × (t ≡ name i) × (f i ≡ Some n)
named f (name i) n e = (i, refl, e)
named f (mark m) n e = let z : None ≡ Some n = e in cc
named f (other b) n e = let z : None ≡ Some n = e in cc
named f finish n e = let z : None ≡ Some n = e in cc

same_state : (a b : State) → Some a ≡ Some b → a ≡ b
same_state a b e = cc

-- a state that is known
arrives : (read : List Symbol) (ms : List Mark) (q : Place) (n : State) → wait ms q ≡ Some n → read ++ map mark ms ≡ front q → Good q → Reached read n
arrives read ms q n e text good = subst (Reached read) (same_state (record { expected = ms; place = q }) n e) (record { text = text; good = good })

-- by a mark
arrives_by : (p : Place) (m : Mark) (t : Symbol) (ms : List Mark) (q : Place) (n : State) → is_mark m t ≡ true → wait ms q ≡ Some n
    → (front p ++ (mark m ∷ [])) ++ map mark ms ≡ front q → Good q → Reached (front p ++ (t ∷ [])) n
arrives_by p m t ms q n is e text good =
    subst (λ (x : Symbol). Reached (front p ++ (x ∷ [])) n) (sym (mark_is m t is)) (arrives (front p ++ (mark m ∷ [])) ms q n e text good)

-- by a name
arrives_named : (p : Place) (i : Ident) (t : Symbol) (ms : List Mark) (q : Place) (n : State) → t ≡ name i → wait ms q ≡ Some n
    → (front p ++ (name i ∷ [])) ++ map mark ms ≡ front q → Good q → Reached (front p ++ (t ∷ [])) n
arrives_named p i t ms q n is e text good =
    subst (λ (x : Symbol). Reached (front p ++ (x ∷ [])) n) (sym is) (arrives (front p ++ (name i ∷ [])) ms q n e text good)

-- the text of a name
is_text : (xs ys : List ℕ) → bytes_eq xs ys ≡ true → xs ≡ ys
is_text xs ys h = (bytes_eq-Decides xs ys).0 h

-- from each place
from_logic : (t : Symbol) (n : State) → choose at_logic t ≡ Some n → Reached (front at_logic ++ (t ∷ [])) n
from_logic t n e =
    let x = named _ t n e in
    let y = held (bytes_eq x.0.text (codes "std_logic_1164")) _ n x.2 in
    arrives_named at_logic x.0 t _ (after_logic x.0) n x.1 y.1 refl (is_text x.0.text (codes "std_logic_1164") y.0)

from_after_logic : (l : Ident) (t : Symbol) (n : State) → choose (after_logic l) t ≡ Some n → Good (after_logic l) → Reached (front (after_logic l) ++ (t ∷ [])) n
from_after_logic l t n e g = elim (chosen (is_mark mk.Use t) (wait (mk.Ieee ∷ mk.Dot ∷ []) (at_numeric l)) (when (is_mark mk.Entity t) (wait [] (at_entity (record { logic = l; numeric = None })))) n e) [
  | inl x ↦ arrives_by (after_logic l) mk.Use t (mk.Ieee ∷ mk.Dot ∷ []) (at_numeric l) n x.0 x.1 refl g
  | inr x ↦ (let y = held (is_mark mk.Entity t) (wait [] (at_entity (record { logic = l; numeric = None }))) n x.1 in
      arrives_by (after_logic l) mk.Entity t [] (at_entity (record { logic = l; numeric = None })) n y.0 y.1 refl (record { logic = g; numeric = tt }))
]

from_numeric : (l : Ident) (t : Symbol) (n : State) → choose (at_numeric l) t ≡ Some n → Good (at_numeric l) → Reached (front (at_numeric l) ++ (t ∷ [])) n
from_numeric l t n e g =
    let x = named _ t n e in
    let y = held (bytes_eq x.0.text (codes "numeric_std")) _ n x.2 in
    arrives_named (at_numeric l) x.0 t (mk.Dot ∷ mk.All ∷ mk.Semicolon ∷ mk.Entity ∷ []) (at_entity (record { logic = l; numeric = Some x.0 })) n x.1 y.1 refl
    (record { logic = g; numeric = is_text x.0.text (codes "numeric_std") y.0 })

entity_text : (x : List Symbol) (e : Ident) → ((x ++ (mark mk.Entity ∷ [])) ++ (name e ∷ [])) ++ map mark (mk.Is ∷ mk.Port ∷ mk.Open ∷ []) ≡ ((x ++ spelled_entity e) ++ []) ++ []
entity_text x e = two x (mark mk.Entity ∷ []) (name e ∷ []) (map mark (mk.Is ∷ mk.Port ∷ mk.Open ∷ [])) ∙ (sym (append-nil (x ++ spelled_entity e)) ∙ sym (append-nil ((x ++ spelled_entity e) ++ [])))

from_entity : (c : Context) (t : Symbol) (n : State) → choose (at_entity c) t ≡ Some n → IsContext c → Reached (front (at_entity c) ++ (t ∷ [])) n
from_entity c t n e g =
    let x = named _ t n e in
    arrives_named (at_entity c) x.0 t (mk.Is ∷ mk.Port ∷ mk.Open ∷ []) (at_port (no_groups c x.0)) n x.1 x.2
    (entity_text (spelled_context c.logic c.numeric) x.0) (record { context = g; groups = All-nil (λ (g : Group). 0 < length g.idents) })

from_port : (p : Ports) (t : Symbol) (n : State) → choose (at_port p) t ≡ Some n → ArePorts p → Reached (front (at_port p) ++ (t ∷ [])) n
from_port p t n e g =
    let x = named _ t n e in
    arrives_named (at_port p) x.0 t [] (after_port p x.0) n x.1 x.2 (append-nil (front_port p ++ (name x.0 ∷ []))) g

more_idents : (p : Ports) (i : Ident) → (front_port p ++ (name i ∷ [])) ++ (mark mk.Comma ∷ []) ≡ front_port (with_ident p i)
more_idents p i =
    let e : flat_map ended_ident (p.idents ++ (i ∷ [])) ≡ flat_map ended_ident p.idents ++ (name i ∷ mark mk.Comma ∷ []) = flat_map-append ended_ident p.idents (i ∷ []) in
    two (opening p.context p.entity ++ flat_map ended_group p.groups) (flat_map ended_ident p.idents) (name i ∷ []) (mark mk.Comma ∷ [])
    ∙ ap (λ (k : List Symbol). (opening p.context p.entity ++ flat_map ended_group p.groups) ++ k) (sym e)

from_after_port : (p : Ports) (i : Ident) (t : Symbol) (n : State) → choose (after_port p i) t ≡ Some n → ArePorts p → Reached (front (after_port p i) ++ (t ∷ [])) n
from_after_port p i t n e g = elim (chosen (is_mark mk.Comma t) (wait [] (at_port (with_ident p i))) (when (is_mark mk.Colon t) (wait [] (at_mode p i))) n e) [
  | inl x ↦ arrives_by (after_port p i) mk.Comma t [] (at_port (with_ident p i)) n x.0 x.1 (append-nil ((front_port p ++ (name i ∷ [])) ++ (mark mk.Comma ∷ [])) ∙ more_idents p i) (record { context = g.context; groups = g.groups })
  | inr x ↦ (let y = held (is_mark mk.Colon t) (wait [] (at_mode p i)) n x.1 in
      arrives_by (after_port p i) mk.Colon t [] (at_mode p i) n y.0 y.1
      (append-nil ((front_port p ++ (name i ∷ [])) ++ (mark mk.Colon ∷ [])) ∙ pair (front_port p) (name i ∷ []) (mark mk.Colon ∷ [])) g)
]

closed_group : (p : Ports) (i : Ident) (input : Bool) → ((front_port p ++ (name i ∷ mark mk.Colon ∷ [])) ++ (mark (direction input) ∷ [])) ++ (mark mk.StdLogic ∷ []) ≡ front (after_group (no_idents p) (group_with p i input))
closed_group p i input =
    let e : joined mk.Comma spelled_ident (p.idents ++ (i ∷ [])) ≡ flat_map ended_ident p.idents ++ (name i ∷ []) = joined-snoc mk.Comma spelled_ident p.idents i in
    three (opening p.context p.entity ++ flat_map ended_group p.groups) (flat_map ended_ident p.idents) (name i ∷ mark mk.Colon ∷ []) (mark (direction input) ∷ []) (mark mk.StdLogic ∷ [])
    ∙ ap (λ (k : List Symbol). (opening p.context p.entity ++ flat_map ended_group p.groups) ++ k)
    (sym (pair (flat_map ended_ident p.idents) (name i ∷ []) (mark mk.Colon ∷ mark (direction input) ∷ mark mk.StdLogic ∷ []))
    ∙ ap (λ (k : List Symbol). k ++ (mark mk.Colon ∷ mark (direction input) ∷ mark mk.StdLogic ∷ [])) (sym e))

more_than_none : (p : Ports) (i : Ident) → 0 < length (p.idents ++ (i ∷ []))
more_than_none p i = omega (arith, length-append p.idents (i ∷ []))

after_modes : (p : Ports) (i : Ident) (input : Bool) → ArePorts p → Good (after_group (no_idents p) (group_with p i input))
after_modes p i input g = (record { context = g.context; groups = g.groups }, refl, more_than_none p i)

from_mode : (p : Ports) (i : Ident) (t : Symbol) (n : State) → choose (at_mode p i) t ≡ Some n → ArePorts p → Reached (front (at_mode p i) ++ (t ∷ [])) n
from_mode p i t n e g = elim (chosen (is_mark mk.In t) (after_mode p i true) (when (is_mark mk.Out t) (after_mode p i false)) n e) [
  | inl x ↦ arrives_by (at_mode p i) mk.In t (mk.StdLogic ∷ []) (after_group (no_idents p) (group_with p i true)) n x.0 x.1 (closed_group p i true) (after_modes p i true g)
  | inr x ↦ (let y = held (is_mark mk.Out t) (after_mode p i false) n x.1 in
      arrives_by (at_mode p i) mk.Out t (mk.StdLogic ∷ []) (after_group (no_idents p) (group_with p i false)) n y.0 y.1 (closed_group p i false) (after_modes p i false g))
]

more_groups : (p : Ports) (g : Group) → p.idents ≡ [] → (front (after_group p g) ++ (mark mk.Semicolon ∷ [])) ++ [] ≡ front_port (with_group p g)
more_groups p g none =
    let e : flat_map ended_group (p.groups ++ (g ∷ [])) ≡ flat_map ended_group p.groups ++ (ended_group g ++ []) = flat_map-append ended_group p.groups (g ∷ []) in
    let O = opening p.context p.entity in
    let G = flat_map ended_group p.groups in
    let S = spelled_group g in
    append-nil (((O ++ G) ++ S) ++ (mark mk.Semicolon ∷ []))
    ∙ (two O G S (mark mk.Semicolon ∷ [])
    ∙ (ap (λ (k : List Symbol). O ++ (G ++ k)) (sym (append-nil (S ++ (mark mk.Semicolon ∷ []))))
    ∙ (ap (λ (k : List Symbol). O ++ k) (sym e)
    ∙ (sym (append-nil (O ++ flat_map ended_group (p.groups ++ (g ∷ []))))
    ∙ ap (λ (k : List Ident). (O ++ flat_map ended_group (p.groups ++ (g ∷ []))) ++ flat_map ended_ident k) (sym none)))))

last_group : (p : Ports) (g : Group) → (front (after_group p g) ++ (mark mk.Close ∷ [])) ++ map mark (mk.Semicolon ∷ mk.End ∷ mk.Semicolon ∷ mk.Architecture ∷ []) ≡ front_architecture (with_group p g)
last_group p g =
    let e : joined mk.Semicolon spelled_group (p.groups ++ (g ∷ [])) ≡ flat_map ended_group p.groups ++ spelled_group g = joined-snoc mk.Semicolon spelled_group p.groups g in
    let O = opening p.context p.entity in
    let G = flat_map ended_group p.groups in
    let S = spelled_group g in
    let end = map mark (mk.Semicolon ∷ mk.End ∷ mk.Semicolon ∷ mk.Architecture ∷ []) in
    three O G S (mark mk.Close ∷ []) end
    ∙ (ap (λ (k : List Symbol). O ++ k) (sym (pair G S ((mark mk.Close ∷ []) ++ end)))
    ∙ (sym (pair O (G ++ S) ((mark mk.Close ∷ []) ++ end))
    ∙ ap (λ (k : List Symbol). (O ++ k) ++ ((mark mk.Close ∷ []) ++ end)) (sym e)))

with_groups : (p : Ports) (g : Group) → ArePorts p → 0 < length g.idents → ArePorts (with_group p g)
with_groups p g h some = record { context = h.context; groups = All-push (λ (g : Group). 0 < length g.idents) p.groups g h.groups some }

from_after_group : (p : Ports) (g : Group) (t : Symbol) (n : State) → choose (after_group p g) t ≡ Some n → Good (after_group p g) → Reached (front (after_group p g) ++ (t ∷ [])) n
from_after_group p g t n e h = elim (chosen (is_mark mk.Semicolon t) (wait [] (at_port (with_group p g))) (when (is_mark mk.Close t) (wait (mk.Semicolon ∷ mk.End ∷ mk.Semicolon ∷ mk.Architecture ∷ []) (at_architecture (with_group p g)))) n e) [
  | inl x ↦ arrives_by (after_group p g) mk.Semicolon t [] (at_port (with_group p g)) n x.0 x.1 (more_groups p g h.1) (with_groups p g h.0 h.2)
  | inr x ↦ (let y = held (is_mark mk.Close t) (wait (mk.Semicolon ∷ mk.End ∷ mk.Semicolon ∷ mk.Architecture ∷ []) (at_architecture (with_group p g))) n x.1 in
      arrives_by (after_group p g) mk.Close t (mk.Semicolon ∷ mk.End ∷ mk.Semicolon ∷ mk.Architecture ∷ []) (at_architecture (with_group p g)) n y.0 y.1 (last_group p g)
      (with_groups p g h.0 h.2, omega (arith, length-append p.groups (g ∷ []))))
]

from_architecture : (p : Ports) (t : Symbol) (n : State) → choose (at_architecture p) t ≡ Some n → Good (at_architecture p) → Reached (front (at_architecture p) ++ (t ∷ [])) n
from_architecture p t n e g =
    let x = named _ t n e in
    arrives_named (at_architecture p) x.0 t (mk.Of ∷ []) (at_of p x.0) n x.1 x.2 (append_assoc (front_architecture p) (name x.0 ∷ []) (mark mk.Of ∷ [])) g

of_text : (x : List Symbol) (a o : Ident)
    → (((x ++ map mark (mk.Close ∷ mk.Semicolon ∷ mk.End ∷ mk.Semicolon ∷ mk.Architecture ∷ [])) ++ (name a ∷ mark mk.Of ∷ [])) ++ (name o ∷ [])) ++ map mark (mk.Is ∷ mk.Begin ∷ []) ≡ (x ++ spelled_architecture a o) ++ []
of_text x a o =
    three x (map mark (mk.Close ∷ mk.Semicolon ∷ mk.End ∷ mk.Semicolon ∷ mk.Architecture ∷ [])) (name a ∷ mark mk.Of ∷ []) (name o ∷ []) (map mark (mk.Is ∷ mk.Begin ∷ []))
    ∙ sym (append-nil (x ++ spelled_architecture a o))

from_of : (p : Ports) (a : Ident) (t : Symbol) (n : State) → choose (at_of p a) t ≡ Some n → Good (at_of p a) → Reached (front (at_of p a) ++ (t ∷ [])) n
from_of p a t n e g =
    let x = named _ t n e in
    arrives_named (at_of p a) x.0 t (mk.Is ∷ mk.Begin ∷ []) (at_statement (no_assignments p a x.0)) n x.1 x.2
    (of_text (opening p.context p.entity ++ joined mk.Semicolon spelled_group p.groups) a x.0)
    (record { logic = g.0.context.logic; numeric = g.0.context.numeric; some = g.1; groups = g.0.groups; assignments = All-nil IsWholeAssignment })

from_statement : (f : GateFile) (t : Symbol) (n : State) → choose (at_statement f) t ≡ Some n → IsWhole f → Reached (front (at_statement f) ++ (t ∷ [])) n
from_statement f t n e g = elim (chosen (is_mark mk.End t) (wait (mk.Semicolon ∷ []) (at_finish f)) (on_name (λ i. wait (mk.Arrow ∷ []) (at_term (no_terms f i))) t) n e) [
  | inl x ↦ arrives_by (at_statement f) mk.End t (mk.Semicolon ∷ []) (at_finish f) n x.0 x.1 (pair (front_statement f) (mark mk.End ∷ []) (mark mk.Semicolon ∷ [])) g
  | inr x ↦ (let y = named (λ i. wait (mk.Arrow ∷ []) (at_term (no_terms f i))) t n x.1 in
      arrives_named (at_statement f) y.0 t (mk.Arrow ∷ []) (at_term (no_terms f y.0)) n y.1 y.2
      (pair (front_statement f) (name y.0 ∷ []) (mark mk.Arrow ∷ []) ∙ sym (append-nil (front_statement f ++ (name y.0 ∷ mark mk.Arrow ∷ []))))
      (record { file = g; none = λ _. refl; some = λ _. refl; most = omega arith }))
]

-- an operand behind these symbols
operand_text : (x : List Symbol) (c : Chain) (b : Bool) (t : Symbol) (n : State) → operand_from c b t ≡ Some n → IsChain c
    → ((o : Operand) → x ++ (spelled_operand o ∷ []) ≡ front_term c ++ spelled_term (record { negated = b; operand = o }))
    → Reached (x ++ (t ∷ [])) n
operand_text x c b t n e g text =
    let last : (o : Operand) → (x ++ (spelled_operand o ∷ [])) ++ [] ≡ front (after_term c (record { negated = b; operand = o })) = λ o. append-nil (x ++ (spelled_operand o ∷ [])) ∙ text o in
    let on_port : Ident → Option State = λ i. wait [] (after_term c (record { negated = b; operand = port i })) in
    elim (chosen (is_mark mk.Zero t) (wait [] (after_term c (record { negated = b; operand = low }))) (if is_mark mk.One t then wait [] (after_term c (record { negated = b; operand = high })) else on_name on_port t) n e) [
      | inl y ↦ subst (λ (s : Symbol). Reached (x ++ (s ∷ [])) n) (sym (mark_is mk.Zero t y.0)) (arrives (x ++ (mark mk.Zero ∷ [])) [] (after_term c (record { negated = b; operand = low })) n y.1 (last low) g)
      | inr y ↦ elim (chosen (is_mark mk.One t) (wait [] (after_term c (record { negated = b; operand = high }))) (on_name on_port t) n y.1) [
        | inl z ↦ subst (λ (s : Symbol). Reached (x ++ (s ∷ [])) n) (sym (mark_is mk.One t z.0)) (arrives (x ++ (mark mk.One ∷ [])) [] (after_term c (record { negated = b; operand = high })) n z.1 (last high) g)
        | inr z ↦ (let i = named on_port t n z.1 in
            subst (λ (s : Symbol). Reached (x ++ (s ∷ [])) n) (sym i.1) (arrives (x ++ (name i.0 ∷ [])) [] (after_term c (record { negated = b; operand = port i.0 })) n i.2 (last (port i.0)) g))
      ]
    ]

from_term : (c : Chain) (t : Symbol) (n : State) → choose (at_term c) t ≡ Some n → IsChain c → Reached (front (at_term c) ++ (t ∷ [])) n
from_term c t n e g = elim (chosen (is_mark mk.Not t) (wait [] (at_operand c)) (operand_from c false t) n e) [
  | inl x ↦ arrives_by (at_term c) mk.Not t [] (at_operand c) n x.0 x.1 (append-nil (front_term c ++ (mark mk.Not ∷ []))) g
  | inr x ↦ operand_text (front_term c) c false t n x.1 g (λ o. refl)
]

from_operand : (c : Chain) (t : Symbol) (n : State) → choose (at_operand c) t ≡ Some n → IsChain c → Reached (front (at_operand c) ++ (t ∷ [])) n
from_operand c t n e g = operand_text (front_term c ++ (mark mk.Not ∷ [])) c true t n e g (λ o. pair (front_term c) (mark mk.Not ∷ []) (spelled_operand o ∷ []))

same : (o p : Operator) → same_operator o p ≡ true → o ≡ p
same operator.And operator.And h = refl
same operator.And operator.Or h = let z : false ≡ true = h in cc
same operator.And operator.Xor h = let z : false ≡ true = h in cc
same operator.Or operator.And h = let z : false ≡ true = h in cc
same operator.Or operator.Or h = refl
same operator.Or operator.Xor h = let z : false ≡ true = h in cc
same operator.Xor operator.And h = let z : false ≡ true = h in cc
same operator.Xor operator.Or h = let z : false ≡ true = h in cc
same operator.Xor operator.Xor h = refl

-- the terms before are spelled with the operator that follows
one_operator : (k : Option Operator) (terms : List Term) (o : Operator) → (k ≡ None → terms ≡ []) → may_follow k o ≡ true → flat_map (ended_term (operator_or_and k)) terms ≡ flat_map (ended_term o) terms
one_operator None terms o none h = ap (flat_map (ended_term operator.And)) (none refl) ∙ sym (ap (flat_map (ended_term o)) (none refl))
one_operator (Some p) terms o none h = ap (λ (o : Operator). flat_map (ended_term o) terms) (same p o h)

picked : (b : Bool) (x y : Option Operator) (o : Operator) → (if b then x else y) ≡ Some o → ((b ≡ true) × (x ≡ Some o)) ⊎ ((b ≡ false) × (y ≡ Some o))
picked true x y o e = inl (refl, e)
picked false x y o e = inr (refl, e)

same_some : (a b : Operator) → Some a ≡ Some b → a ≡ b
same_some a b e = cc

-- which operator a mark is
operator_is : (t : Symbol) (o : Operator) → operator_of t ≡ Some o → t ≡ mark (operator_mark o)
operator_is t o e = elim (picked (is_mark mk.And t) (Some operator.And) (if is_mark mk.Or t then Some operator.Or else if is_mark mk.Xor t then Some operator.Xor else None) o e) [
  | inl x ↦ mark_is mk.And t x.0 ∙ ap (λ (o : Operator). mark (operator_mark o)) (same_some operator.And o x.1)
  | inr x ↦ elim (picked (is_mark mk.Or t) (Some operator.Or) (if is_mark mk.Xor t then Some operator.Xor else None) o x.1) [
    | inl y ↦ mark_is mk.Or t y.0 ∙ ap (λ (o : Operator). mark (operator_mark o)) (same_some operator.Or o y.1)
    | inr y ↦ elim (picked (is_mark mk.Xor t) (Some operator.Xor) None o y.1) [
      | inl z ↦ mark_is mk.Xor t z.0 ∙ ap (λ (o : Operator). mark (operator_mark o)) (same_some operator.Xor o z.1)
      | inr z ↦ (let q : None ≡ Some o = z.1 in cc)
    ]
  ]
]

ended_text : (x : List Symbol) (i : Ident) (o : Operator) (ts : List Term) (t : Term)
    → ((((x ++ (name i ∷ mark mk.Arrow ∷ [])) ++ flat_map (ended_term o) ts) ++ spelled_term t) ++ (mark mk.Semicolon ∷ []))
    ≡ x ++ spelled_assignment (record { target = i; operator = o; terms = ts ++ (t ∷ []) })
ended_text x i o ts t =
    let J = flat_map (ended_term o) ts in
    let head : List Symbol = name i ∷ mark mk.Arrow ∷ [] in
    three x head J (spelled_term t) (mark mk.Semicolon ∷ [])
    ∙ ap (λ (k : List Symbol). x ++ (head ++ k))
    (sym (pair J (spelled_term t) (mark mk.Semicolon ∷ []))
    ∙ ap (λ (k : List Symbol). k ++ (mark mk.Semicolon ∷ [])) (sym (joined-snoc (operator_mark o) spelled_term ts t)))

last_assignment : (f : GateFile) (a : Assignment) → (front_statement f ++ spelled_assignment a) ++ [] ≡ front_statement (with_assignment f a)
last_assignment f a =
    let e : flat_map spelled_assignment (f.assignments ++ (a ∷ [])) ≡ flat_map spelled_assignment f.assignments ++ (spelled_assignment a ++ []) = flat_map-append spelled_assignment f.assignments (a ∷ []) in
    pair (front_statement f) (spelled_assignment a) []
    ∙ (pair (heading f) (flat_map spelled_assignment f.assignments) (spelled_assignment a ++ [])
    ∙ ap (λ (k : List Symbol). heading f ++ k) (sym e))

-- a chain of one has no operator
alone : (k : Option Operator) (terms : List Term) (t : Term) → (terms ≡ [] → k ≡ None) → length (terms ++ (t ∷ [])) ≡ 1 → operator_or_and k ≡ operator.And
alone k [] t none h = ap operator_or_and (none refl)
alone k (u ∷ terms) t none h = absurd (omega (arith, length-append terms (t ∷ [])))

whole_chain : (c : Chain) (t : Term) → IsChain c → IsWholeAssignment (assignment_with c t)
whole_chain c t g = record {
  some = omega (arith, length-append c.terms (t ∷ []));
  most = (let most = g.most in omega (arith, length-append c.terms (t ∷ [])));
  alone = λ h. alone c.operator c.terms t g.some h;
}

with_chain : (c : Chain) (t : Term) → IsChain c → IsWhole (with_assignment c.file (assignment_with c t))
with_chain c t g = record {
  logic = g.file.logic;
  numeric = g.file.numeric;
  some = g.file.some;
  groups = g.file.groups;
  assignments = All-push IsWholeAssignment c.file.assignments (assignment_with c t) g.file.assignments (whole_chain c t g);
}

term_text : (c : Chain) (o : Operator) (t : Term) → IsChain c → may_follow c.operator o ≡ true
    → ((front_term c ++ spelled_term t) ++ (mark (operator_mark o) ∷ [])) ++ [] ≡ front_term (with_term c o t)
term_text c o t g h =
    let X = front_statement c.file ++ (name c.target ∷ mark mk.Arrow ∷ []) in
    let e : flat_map (ended_term o) (c.terms ++ (t ∷ [])) ≡ flat_map (ended_term o) c.terms ++ (ended_term o t ++ []) = flat_map-append (ended_term o) c.terms (t ∷ []) in
    append-nil (((X ++ flat_map (ended_term (operator_or_and c.operator)) c.terms) ++ spelled_term t) ++ (mark (operator_mark o) ∷ []))
    ∙ (two X (flat_map (ended_term (operator_or_and c.operator)) c.terms) (spelled_term t) (mark (operator_mark o) ∷ [])
    ∙ (ap (λ (k : List Symbol). X ++ (k ++ ended_term o t)) (one_operator c.operator c.terms o g.none h)
    ∙ (ap (λ (k : List Symbol). X ++ (flat_map (ended_term o) c.terms ++ k)) (sym (append-nil (ended_term o t)))
    ∙ ap (λ (k : List Symbol). X ++ k) (sym e))))

not_none : (xs : List Term) (t : Term) → xs ++ (t ∷ []) ≡ [] → ⊥
not_none xs t e = omega (arith, ap length e, length-append xs (t ∷ []))

some_not_none : (o : Operator) → Some o ≡ None → ⊥
some_not_none o e = cc

both : (a b : Bool) → (a && b) ≡ true → (a ≡ true) × (b ≡ true)
both true b h = (refl, h)
both false b h = let z : false ≡ true = h in cc

from_more : (c : Chain) (t : Term) (s : Symbol) (o : Option Operator) (n : State) → operator_of s ≡ o → more_terms c t o ≡ Some n → IsChain c → Reached ((front_term c ++ spelled_term t) ++ (s ∷ [])) n
from_more c t s None n is e g = let z : None ≡ Some n = e in cc
from_more c t s (Some o) n is e g =
    let x = held (may_follow c.operator o && nat_lt (length c.terms) 63) (wait [] (at_term (with_term c o t))) n e in
    let y = both (may_follow c.operator o) (nat_lt (length c.terms) 63) x.0 in
    let few : length c.terms < 63 = ltb-true (length c.terms) 63 y.1 in
    subst (λ (s : Symbol). Reached ((front_term c ++ spelled_term t) ++ (s ∷ [])) n) (sym (operator_is s o is))
    (arrives ((front_term c ++ spelled_term t) ++ (mark (operator_mark o) ∷ [])) [] (at_term (with_term c o t)) n x.1 (term_text c o t g y.0)
    (record { file = g.file; none = λ h. absurd (some_not_none o h); some = λ h. absurd (not_none c.terms t h); most = omega (arith, few, length-append c.terms (t ∷ [])) }))

from_after_term : (c : Chain) (t : Term) (s : Symbol) (n : State) → choose (after_term c t) s ≡ Some n → IsChain c → Reached (front (after_term c t) ++ (s ∷ [])) n
from_after_term c t s n e g = elim (chosen (is_mark mk.Semicolon s) (wait [] (at_statement (with_assignment c.file (assignment_with c t)))) (more_terms c t (operator_of s)) n e) [
  | inl x ↦ arrives_by (after_term c t) mk.Semicolon s [] (at_statement (with_assignment c.file (assignment_with c t))) n x.0 x.1
      (append-nil ((front_term c ++ spelled_term t) ++ (mark mk.Semicolon ∷ []))
      ∙ (ended_text (front_statement c.file) c.target (operator_or_and c.operator) c.terms t
      ∙ (sym (append-nil (front_statement c.file ++ spelled_assignment (assignment_with c t))) ∙ last_assignment c.file (assignment_with c t))))
      (with_chain c t g)
  | inr x ↦ from_more c t s (operator_of s) n refl x.1 g
]

from_finish : (f : GateFile) (t : Symbol) (n : State) → choose (at_finish f) t ≡ Some n → IsWhole f → Reached (front (at_finish f) ++ (t ∷ [])) n
from_finish f finish n e g = arrives (front (at_finish f) ++ (finish ∷ [])) [] (done f) n e
    (append-nil ((front_statement f ++ (mark mk.End ∷ mark mk.Semicolon ∷ [])) ++ (finish ∷ [])) ∙ pair (front_statement f) (mark mk.End ∷ mark mk.Semicolon ∷ []) (finish ∷ [])) g
from_finish f (name i) n e g = let z : None ≡ Some n = e in cc
from_finish f (mark m) n e g = let z : None ≡ Some n = e in cc
from_finish f (other b) n e g = let z : None ≡ Some n = e in cc

advance : (p : Place) (t : Symbol) (n : State) → choose p t ≡ Some n → Good p → Reached (front p ++ (t ∷ [])) n
advance at_logic t n e g = from_logic t n e
advance (after_logic l) t n e g = from_after_logic l t n e g
advance (at_numeric l) t n e g = from_numeric l t n e g
advance (at_entity c) t n e g = from_entity c t n e g
advance (at_port p) t n e g = from_port p t n e g
advance (after_port p i) t n e g = from_after_port p i t n e g
advance (at_mode p i) t n e g = from_mode p i t n e g
advance (after_group p h) t n e g = from_after_group p h t n e g
advance (at_architecture p) t n e g = from_architecture p t n e g
advance (at_of p a) t n e g = from_of p a t n e g
advance (at_statement f) t n e g = from_statement f t n e g
advance (at_term c) t n e g = from_term c t n e g
advance (at_operand c) t n e g = from_operand c t n e g
advance (after_term c u) t n e g = from_after_term c u t n e g
advance (at_finish f) t n e g = from_finish f t n e g
advance (done f) t n e g = let z : None ≡ Some n = e in cc

next_at : (read : List Symbol) (ms : List Mark) (p : Place) (t : Symbol) (n : State) → step_at ms p t ≡ Some n → Reached read (record { expected = ms; place = p }) → Reached (read ++ (t ∷ [])) n
next_at read [] p t n e r = subst (λ (x : List Symbol). Reached (x ++ (t ∷ [])) n) (sym r.text ∙ append-nil read) (advance p t n e r.good)
next_at read (m ∷ ms) p t n e r =
    let x = held (is_mark m t) (wait ms p) n e in
    subst (λ (s : Symbol). Reached (read ++ (s ∷ [])) n) (sym (mark_is m t x.0))
    (arrives (read ++ (mark m ∷ [])) ms p n x.1 (pair read (mark m ∷ []) (map mark ms) ∙ r.text) r.good)

-- one symbol more
pub next : (read : List Symbol) (s : State) (t : Symbol) (n : State) → step s t ≡ Some n → Reached read s → Reached (read ++ (t ∷ [])) n
next read s t n e r = next_at read s.expected s.place t n e r

known : (o : Option State) → ((n : State) × (o ≡ Some n)) ⊎ (o ≡ None)
known None = inr refl
known (Some n) = inl (n, refl)

after-none : (ts : List Symbol) → after None ts ≡ None
after-none ts = refl

-- several symbols more
pub over : (ts read : List Symbol) (s n : State) → run s ts ≡ Some n → Reached read s → Reached (read ++ ts) n
over [] read s n e r = subst (λ (x : List Symbol). Reached x n) (sym (append-nil read)) (subst (Reached read) (same_state s n e) r)
over (t ∷ ts) read s n e r = elim (known (step s t)) [
  | inl k ↦ subst (λ (x : List Symbol). Reached x n) (pair read (t ∷ []) ts) (over ts (read ++ (t ∷ [])) k.0 n (ap (λ (o : Option State). after o ts) (sym k.1) ∙ e) (next read s t k.0 k.1 r))
  | inr k ↦ (let z : None ≡ Some n = ap (λ (o : Option State). after o ts) (sym k) ∙ e in cc)
]
