-- The first of the broken places is the least at which a condition is broken.
use Rattle.std.proofs.Common.{◌≡◌, ◌≢◌, ℕ, ◌≤◌, Bool, true, false, not, ◌&&◌, List, [], ◌∷◌, ◌++◌, map, Option, Some, None, refl, sym, ◌∙◌, ap, subst, ◌⊎◌, inl, inr, Contains, MatchOption, IfOk, Result, Ok, Err, arith}
use Rattle.std.specs.Str.{bytes_eq}
use Rattle.std.proofs.lemmas.Bool.{both_ways, not-true, not-false, and_cases, or_cases, or_left, false_from_ne_true}
use Rattle.std.proofs.lemmas.Slice.Eq.{bytes_eq-Decides}
use Rattle.std.proofs.lemmas.List.Elements.{Contains-append_right}
use Rattle.vv_gate.specs.Tree.{Port, Assignment, GateFile, ports_of}
use Rattle.vv_gate.specs.Whole.{IsPlaced, idents_of}
use Rattle.vv_gate.specs.Conditions.{name_of, IsPort, Broken, repeated_port, other_entity, no_output, no_input, other_top, assigned_again, IsFirstBroken, IsSound}
use Rattle.vv_gate_check.specs.Places.{first, place_if, is_among, inputs_of, outputs_of, repeated_ports, broken_assignments, broken_places}
use Rattle.vv_gate_check.specs.Names.{without_targets}
use Rattle.vv_gate_check.proofs.Declares.{add_names}
use Rattle.vv_gate_check.proofs.Found.{In, in_cases, in_place, in_from_Contains, Contains-from_in, kept_found, Contains-from_among, among_added, among_targets, Repeat, repeat_found, BadTarget, BadOperand, assignment_found}
use Rattle.vv_gate_check.proofs.Listed.{in_left, in_right, place_in, kept_listed, among_from_Contains, repeat_listed, target_listed, operand_in}
use Rattle.vv_gate_check.proofs.Order.{first_least, within_in, within_file}

among_inputs : (f : GateFile) (q : List ℕ) → IsPort true f q → is_among q (inputs_of (ports_of f)) ≡ true
among_inputs f q h = kept_listed (λ p. p.input) (ports_of f) h.0 q (in_from_Contains (ports_of f) h.0 h.1) h.2 h.3

among_outputs : (f : GateFile) (q : List ℕ) → IsPort false f q → is_among q (outputs_of (ports_of f)) ≡ true
among_outputs f q h = kept_listed (λ p. not p.input) (ports_of f) h.0 q (in_from_Contains (ports_of f) h.0 h.1) (ap not h.2) h.3

is_input : (f : GateFile) (q : List ℕ) → is_among q (inputs_of (ports_of f)) ≡ true → IsPort true f q
is_input f q e = let w = kept_found (λ p. p.input) (ports_of f) q e in (w.0, Contains-from_in (ports_of f) w.0 w.1, w.2, w.3)

is_output : (f : GateFile) (q : List ℕ) → is_among q (outputs_of (ports_of f)) ≡ true → IsPort false f q
is_output f q e = let w = kept_found (λ p. not p.input) (ports_of f) q e in (w.0, Contains-from_in (ports_of f) w.0 w.1, not-true w.0.input w.2, w.3)

in_the_middle : {A : Type 0} (before after : List A) (x : A) → Contains (before ++ (x ∷ after)) x
in_the_middle before after x = Contains-append_right before (x ∷ after) x (Contains-from_in (x ∷ after) x (inl refl))

repeat_breaks : (top : List ℕ) (f : GateFile) (q : ℕ) → Repeat [] (ports_of f) q → Broken top f q
repeat_breaks top f q w =
    let text = w.p.ident.text in
    let e : is_among text (map name_of w.before) ≡ true =
    elim (or_cases (is_among text (map name_of w.before)) false (sym (among_added text w.before []) ∙ w.stood)) [ inl a ↦ a | inr b ↦ cc ] in
    repeated_port w.before w.after w.p w.split (Contains-from_among text (map name_of w.before) e) (sym w.here)

target_breaks : (top : List ℕ) (f : GateFile) (q : ℕ) → BadTarget (outputs_of (ports_of f)) f.assignments q → Broken top f q
target_breaks top f q w =
    let text = w.a.target.text in
    let targets = map (λ b. b.target.text) w.before in
    let outputs = outputs_of (ports_of f) in
    let P : List Assignment → Type 0 = λ l. Contains l w.a in
    elim (and_cases (not (is_among text targets)) (is_among text outputs) (sym (among_targets text w.before outputs) ∙ w.gone)) [
      | inl x ↦ assigned_again w.before w.after w.a w.split (Contains-from_among text targets (not-false (is_among text targets) x)) (sym w.here)
      | inr y ↦ no_output w.a (subst P (sym w.split) (in_the_middle w.before w.after w.a)) (λ h. both_ways (is_among text outputs) y (among_outputs f text h)) (sym w.here)
    ]

operand_breaks : (top : List ℕ) (f : GateFile) (q : ℕ) → BadOperand (inputs_of (ports_of f)) f.assignments q → Broken top f q
operand_breaks top f q w =
    no_input w.a w.t w.i (Contains-from_in f.assignments w.a w.inside) (Contains-from_in w.a.terms w.t w.within) w.is
    (λ h. both_ways (is_among w.i.text (inputs_of (ports_of f))) w.absent (among_inputs f w.i.text h)) (sym w.here)

differ : (a b : List ℕ) → not (bytes_eq a b) ≡ true → a ≢ b
differ a b e = λ s. both_ways (bytes_eq a b) (not-true (bytes_eq a b) e) ((bytes_eq-Decides a b).1 s)

differs : (a b : List ℕ) → a ≢ b → not (bytes_eq a b) ≡ true
differs a b h = ap not (false_from_ne_true (bytes_eq a b) (λ e. h ((bytes_eq-Decides a b).0 e)))

-- a listed place is a broken one
pub listed_breaks : (top : List ℕ) (f : GateFile) (q : ℕ) → In (broken_places top f) q → Broken top f q
listed_breaks top f q h =
    let ports = ports_of f in
    let repeated = repeated_ports [] ports in
    let entity = place_if (not (bytes_eq f.of.text f.entity.text)) f.of.at in
    let broken = broken_assignments (inputs_of ports) (outputs_of ports) f.assignments in
    elim (in_cases (place_if (not (bytes_eq top f.entity.text)) 0) (repeated ++ (entity ++ broken)) q h) [
      | inl x ↦ (let w = in_place (not (bytes_eq top f.entity.text)) 0 q x in other_top (differ top f.entity.text w.0) (sym w.1))
      | inr x ↦ (elim (in_cases repeated (entity ++ broken) q x) [
        | inl y ↦ repeat_breaks top f q (repeat_found [] ports q y)
        | inr y ↦ (elim (in_cases entity broken q y) [
          | inl z ↦ (let w = in_place (not (bytes_eq f.of.text f.entity.text)) f.of.at q z in other_entity (differ f.of.text f.entity.text w.0) (sym w.1))
          | inr z ↦ (elim (assignment_found (inputs_of ports) (outputs_of ports) f.assignments q z) [
            | inl w ↦ target_breaks top f q w
            | inr w ↦ operand_breaks top f q w
          ])
        ])
      ])
    ]

in_repeated : (top : List ℕ) (f : GateFile) (q : ℕ) → In (repeated_ports [] (ports_of f)) q → In (broken_places top f) q
in_repeated top f q h =
    let ports = ports_of f in
    let entity = place_if (not (bytes_eq f.of.text f.entity.text)) f.of.at in
    let broken = broken_assignments (inputs_of ports) (outputs_of ports) f.assignments in
    in_right (place_if (not (bytes_eq top f.entity.text)) 0) (repeated_ports [] ports ++ (entity ++ broken)) q (in_left (repeated_ports [] ports) (entity ++ broken) q h)

in_entity : (top : List ℕ) (f : GateFile) (q : ℕ) → In (place_if (not (bytes_eq f.of.text f.entity.text)) f.of.at) q → In (broken_places top f) q
in_entity top f q h =
    let ports = ports_of f in
    let entity = place_if (not (bytes_eq f.of.text f.entity.text)) f.of.at in
    let broken = broken_assignments (inputs_of ports) (outputs_of ports) f.assignments in
    in_right (place_if (not (bytes_eq top f.entity.text)) 0) (repeated_ports [] ports ++ (entity ++ broken)) q
    (in_right (repeated_ports [] ports) (entity ++ broken) q (in_left entity broken q h))

in_assignments : (top : List ℕ) (f : GateFile) (q : ℕ) → In (broken_assignments (inputs_of (ports_of f)) (outputs_of (ports_of f)) f.assignments) q → In (broken_places top f) q
in_assignments top f q h =
    let ports = ports_of f in
    let entity = place_if (not (bytes_eq f.of.text f.entity.text)) f.of.at in
    let broken = broken_assignments (inputs_of ports) (outputs_of ports) f.assignments in
    in_right (place_if (not (bytes_eq top f.entity.text)) 0) (repeated_ports [] ports ++ (entity ++ broken)) q
    (in_right (repeated_ports [] ports) (entity ++ broken) q (in_right entity broken q h))

gone_from : (text : List ℕ) (before : List Assignment) (outputs : List (List ℕ)) → not (is_among text (map (λ b. b.target.text) before)) ≡ false →
    is_among text (without_targets before outputs) ≡ false
gone_from text before outputs e = among_targets text before outputs ∙ ap (λ b. b && is_among text outputs) e

no_more : (b : Bool) → (b && false) ≡ false
no_more true = refl
no_more false = refl

-- a target at its place among the assignments
record Split (all : List Assignment) (a : Assignment) : Type 0 where
  before : List Assignment
  after : List Assignment
  is : all ≡ before ++ (a ∷ after)

split_at : (all : List Assignment) (a : Assignment) → In all a → Split all a
split_at [] a h = absurd h
split_at (b ∷ more) a (inl e) = record { before = []; after = more; is = ap (λ x. x ∷ more) e }
split_at (b ∷ more) a (inr r) = let w = split_at more a r in record { before = b ∷ w.before; after = w.after; is = ap (λ l. b ∷ l) w.is }

target_in : (top : List ℕ) (f : GateFile) (before after : List Assignment) (a : Assignment) → f.assignments ≡ before ++ (a ∷ after) →
    is_among a.target.text (without_targets before (outputs_of (ports_of f))) ≡ false → In (broken_places top f) a.target.at
target_in top f before after a split e =
    let inputs = inputs_of (ports_of f) in
    let outputs = outputs_of (ports_of f) in
    let P : List Assignment → Type 0 = λ l. In (broken_assignments inputs outputs l) a.target.at in
    in_assignments top f a.target.at (subst P (sym split) (target_listed inputs outputs before after a e))

-- a broken place is listed
pub broken_listed : (top : List ℕ) (f : GateFile) (q : ℕ) → Broken top f q → In (broken_places top f) q
broken_listed top f q (repeated_port before after p split stood here) =
    let P : ℕ → Type 0 = λ z. In (broken_places top f) z in
    let Q : List Port → Type 0 = λ l. In (repeated_ports [] l) p.ident.at in
    let e : is_among p.ident.text (add_names before []) ≡ true =
    among_added p.ident.text before [] ∙ or_left (is_among p.ident.text (map name_of before)) false (among_from_Contains p.ident.text (map name_of before) stood) in
    subst P (sym here) (in_repeated top f p.ident.at (subst Q (sym split) (repeat_listed [] before after p e)))
broken_listed top f q (other_entity apart here) =
    let P : ℕ → Type 0 = λ z. In (broken_places top f) z in
    subst P (sym here) (in_entity top f f.of.at (place_in (not (bytes_eq f.of.text f.entity.text)) f.of.at (differs f.of.text f.entity.text apart)))
broken_listed top f q (no_output a inside fails here) =
    let P : ℕ → Type 0 = λ z. In (broken_places top f) z in
    let s = split_at f.assignments a (in_from_Contains f.assignments a inside) in
    let outputs = outputs_of (ports_of f) in
    let e : is_among a.target.text outputs ≡ false = false_from_ne_true (is_among a.target.text outputs) (λ t. fails (is_output f a.target.text t)) in
    let before = not (is_among a.target.text (map (λ b. b.target.text) s.before)) in
    subst P (sym here) (target_in top f s.before s.after a s.is (among_targets a.target.text s.before outputs ∙ ap (λ b. before && b) e ∙ no_more before))
broken_listed top f q (no_input a t i inside within is fails here) =
    let P : ℕ → Type 0 = λ z. In (broken_places top f) z in
    let inputs = inputs_of (ports_of f) in
    subst P (sym here) (in_assignments top f i.at
    (operand_in inputs (outputs_of (ports_of f)) f.assignments a t i (in_from_Contains f.assignments a inside) (in_from_Contains a.terms t within) is
    (false_from_ne_true (is_among i.text inputs) (λ e. fails (is_input f i.text e)))))
broken_listed top f q (other_top apart here) =
    let P : ℕ → Type 0 = λ z. In (broken_places top f) z in
    let ports = ports_of f in
    let entity = place_if (not (bytes_eq f.of.text f.entity.text)) f.of.at in
    let broken = broken_assignments (inputs_of ports) (outputs_of ports) f.assignments in
    subst P (sym here) (in_left (place_if (not (bytes_eq top f.entity.text)) 0) (repeated_ports [] ports ++ (entity ++ broken)) 0
    (place_in (not (bytes_eq top f.entity.text)) 0 (differs top f.entity.text apart)))
broken_listed top f q (assigned_again before after a split stood here) =
    let P : ℕ → Type 0 = λ z. In (broken_places top f) z in
    let targets = map (λ b. b.target.text) before in
    subst P (sym here) (target_in top f before after a split
    (gone_from a.target.text before (outputs_of (ports_of f)) (ap not (among_from_Contains a.target.text targets stood))))

-- the first listed place is at most any other
least_listed : (top : List ℕ) (f : GateFile) → IsPlaced f → (same : Bool) → bytes_eq top f.entity.text ≡ same → (x q : ℕ) (rest : List ℕ) →
    broken_places top f ≡ x ∷ rest → In (broken_places top f) q → x ≤ q
least_listed top f h true e x q rest is k =
    let ports = ports_of f in
    let other = not (bytes_eq f.of.text f.entity.text) in
    let later = repeated_ports [] ports ++ (place_if other f.of.at ++ broken_assignments (inputs_of ports) (outputs_of ports) f.assignments) in
    let all : broken_places top f ≡ later = ap (λ b. place_if (not b) 0 ++ later) e in
    let P : List ℕ → Type 0 = λ l. In l q in
    first_least later (map (λ i. i.at) (idents_of f)) rest x q h.order (within_file f other (inputs_of ports) (outputs_of ports)) (sym all ∙ is) (subst P all k)
least_listed top f h false e x q rest is k =
    let ports = ports_of f in
    let later = repeated_ports [] ports ++ (place_if (not (bytes_eq f.of.text f.entity.text)) f.of.at ++ broken_assignments (inputs_of ports) (outputs_of ports) f.assignments) in
    let all : 0 ∷ later ≡ x ∷ rest = sym (ap (λ b. place_if (not b) 0 ++ later) e) ∙ is in
    let zero_first : 0 ≡ x = cc in
    omega arith

law_at : (top : List ℕ) (f : GateFile) → IsPlaced f → (l : List ℕ) → broken_places top f ≡ l → MatchOption (first l) (IsSound top f) (IsFirstBroken top f)
law_at top f h [] e =
    let P : ℕ → List ℕ → Type 0 = λ q l. In l q in
    λ q b. subst (P q) e (broken_listed top f q b)
law_at top f h (x ∷ rest) e =
    let P : List ℕ → Type 0 = λ l. In l x in
    record {
      here = listed_breaks top f x (subst P (sym e) (inl refl));
      least = λ q b. least_listed top f h (bytes_eq top f.entity.text) refl x q rest e (broken_listed top f q b);
    }

pub first_is_least : (top : List ℕ) (f : GateFile) (place : Option ℕ) → IsPlaced f → place ≡ first (broken_places top f) →
    MatchOption place (IsSound top f) (IsFirstBroken top f)
first_is_least top f place h e =
    let P : Option ℕ → Type 0 = λ o. MatchOption o (IsSound top f) (IsFirstBroken top f) in
    subst P (sym e) (law_at top f h (broken_places top f) refl)

pub first_if_ok : {E : Type 0} (top : List ℕ) (f : GateFile) (r : Result (Option ℕ) E) → IsPlaced f → IfOk r (λ place. place ≡ first (broken_places top f)) →
    IfOk r (λ place. MatchOption place (IsSound top f) (IsFirstBroken top f))
first_if_ok top f (Ok place) h e = first_is_least top f place h e
first_if_ok top f (Err x) h e = tt

first_in : (xs : List ℕ) (x : ℕ) → first xs ≡ Some x → In xs x
first_in [] x e = let z : None ≡ Some x = e in cc
first_in (y ∷ more) x e = let z : Some y ≡ Some x = e in inl cc

-- the first place is that of the top or of an identifier
pub first_among : (top : List ℕ) (f : GateFile) (at : ℕ) → first (broken_places top f) ≡ Some at → (at ≡ 0) ⊎ Contains (map (λ i. i.at) (idents_of f)) at
first_among top f at e =
    let ports = ports_of f in
    let other = not (bytes_eq f.of.text f.entity.text) in
    let rest = repeated_ports [] ports ++ (place_if other f.of.at ++ broken_assignments (inputs_of ports) (outputs_of ports) f.assignments) in
    elim (in_cases (place_if (not (bytes_eq top f.entity.text)) 0) rest at (first_in (broken_places top f) at e)) [
      | inl x ↦ (let w = in_place (not (bytes_eq top f.entity.text)) 0 at x in inl (sym w.1))
      | inr x ↦ inr (Contains-from_in (map (λ i. i.at) (idents_of f)) at (within_in rest (map (λ i. i.at) (idents_of f)) at (within_file f other (inputs_of ports) (outputs_of ports)) x))
    ]
