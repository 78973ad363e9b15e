-- The broken places ascend, as the identifiers do.
use Rattle.std.proofs.Common.{◌≡◌, ℕ, ◌<◌, ◌≤◌, Bool, true, false, not, List, [], ◌∷◌, ◌++◌, map, flat_map, refl, sym, ◌∙◌, ap, subst, ◌⊎◌, inl, inr, arith}
use Rattle.std.proofs.lemmas.List.{map-append}
use Rattle.std.proofs.lemmas.List.Elements.{All-contains}
use Rattle.vv_gate.specs.Tree.{Ident, Group, Port, Operand, low, high, port, Term, Assignment, GateFile, ports_of_group, ports_of}
use Rattle.vv_gate.specs.Whole.{Ascends, idents_of, idents_of_option, idents_of_operand, idents_of_term, idents_of_assignment}
use Rattle.vv_gate_check.specs.Places.{place_if, is_among, repeated_ports, unknown_operand, unknown_term, without, broken_assignments}
use Rattle.vv_gate_check.proofs.Found.{In, Contains-from_in}

-- xs is what is left of ys where some are taken out
abbrev pub Within : List ℕ → List ℕ → Type 0
Within xs [] = xs ≡ []
Within xs (y ∷ ys) = Within xs ys ⊎ ((rest : List ℕ) × (xs ≡ y ∷ rest) × Within rest ys)

nothing : (ys : List ℕ) → Within [] ys
nothing [] = refl
nothing (y ∷ ys) = inl (nothing ys)

within_append : (xs ys vs ws : List ℕ) → Within xs ys → Within vs ws → Within (xs ++ vs) (ys ++ ws)
within_append xs [] vs ws h k = let P : List ℕ → Type 0 = λ l. Within (l ++ vs) ws in subst P (sym h) k
within_append xs (y ∷ ys) vs ws (inl a) k = inl (within_append xs ys vs ws a k)
within_append xs (y ∷ ys) vs ws (inr w) k = inr (w.0 ++ vs, ap (λ l. l ++ vs) w.1, within_append w.0 ys vs ws w.2 k)

pub within_in : (xs ys : List ℕ) (q : ℕ) → Within xs ys → In xs q → In ys q
within_in xs [] q h k = let P : List ℕ → Type 0 = λ l. In l q in subst P h k
within_in xs (y ∷ ys) q (inl a) k = inr (within_in xs ys q a k)
within_in xs (y ∷ ys) q (inr w) k =
    let P : List ℕ → Type 0 = λ l. In l q in
    let h : In (y ∷ w.0) q = subst P w.1 k in
    elim h [ inl e ↦ inl e | inr r ↦ inr (within_in w.0 ys q w.2 r) ]

head_of : (x y : ℕ) (xs ys : List ℕ) → x ∷ xs ≡ y ∷ ys → x ≡ y
head_of x y xs ys e = cc

pub first_least : (xs ys rest : List ℕ) (x q : ℕ) → Ascends ys → Within xs ys → xs ≡ x ∷ rest → In xs q → x ≤ q
first_least xs [] rest x q a h e k = let z : x ∷ rest ≡ [] = sym e ∙ h in cc
first_least xs (y ∷ ys) rest x q a (inl h) e k = first_least xs ys rest x q a.1 h e k
first_least xs (y ∷ ys) rest x q a (inr w) e k =
    let P : List ℕ → Type 0 = λ l. In l q in
    let i : In (y ∷ w.0) q = subst P w.1 k in
    let same : x ≡ y = head_of x y rest w.0 (sym e ∙ w.1) in
    elim i [
      | inl s ↦ (omega (arith, s))
      | inr r ↦ (let lt : y < q = All-contains (λ b. y < b) ys q a.0 (Contains-from_in ys q (within_in w.0 ys q w.2 r)) in omega arith)
    ]

within_one : (b : Bool) (at : ℕ) → Within (place_if b at) (at ∷ [])
within_one true at = inr ([], refl, refl)
within_one false at = inl refl

within_ports : (names : List (List ℕ)) (ps : List Port) → Within (repeated_ports names ps) (map (λ p. p.ident.at) ps)
within_ports names [] = refl
within_ports names (p ∷ more) =
    within_append (place_if (is_among p.ident.text names) p.ident.at) (p.ident.at ∷ []) (repeated_ports (p.ident.text ∷ names) more) (map (λ r. r.ident.at) more)
    (within_one (is_among p.ident.text names) p.ident.at) (within_ports (p.ident.text ∷ names) more)

abbrev at_of : Ident → ℕ
at_of i = i.at

abbrev port_at : Port → ℕ
port_at p = p.ident.at

places_of_idents : (input : Bool) (is : List Ident) → map port_at (ports_of_group (record { idents = is; input = input })) ≡ map at_of is
places_of_idents input [] = refl
places_of_idents input (i ∷ more) = ap (λ l. i.at ∷ l) (places_of_idents input more)

places_of_ports : (gs : List Group) → map port_at (flat_map ports_of_group gs) ≡ map at_of (flat_map (λ g. g.idents) gs)
places_of_ports [] = refl
places_of_ports (g ∷ more) =
    map-append port_at (ports_of_group g) (flat_map ports_of_group more)
    ∙ ap (λ l. l ++ map port_at (flat_map ports_of_group more)) (places_of_idents g.input g.idents)
    ∙ ap (λ l. map at_of g.idents ++ l) (places_of_ports more)
    ∙ sym (map-append at_of g.idents (flat_map (λ r. r.idents) more))

within_operand : (inputs : List (List ℕ)) (o : Operand) → Within (unknown_operand inputs o) (map at_of (idents_of_operand o))
within_operand inputs low = refl
within_operand inputs high = refl
within_operand inputs (port i) = within_one (not (is_among i.text inputs)) i.at

within_terms : (inputs : List (List ℕ)) (terms : List Term) → Within (flat_map (unknown_term inputs) terms) (map at_of (flat_map idents_of_term terms))
within_terms inputs [] = refl
within_terms inputs (t ∷ more) =
    let P : List ℕ → Type 0 = λ l. Within (flat_map (unknown_term inputs) (t ∷ more)) l in
    subst P (sym (map-append at_of (idents_of_term t) (flat_map idents_of_term more)))
    (within_append (unknown_term inputs t) (map at_of (idents_of_term t)) (flat_map (unknown_term inputs) more) (map at_of (flat_map idents_of_term more))
    (within_operand inputs t.operand) (within_terms inputs more))

within_assignments : (inputs outputs : List (List ℕ)) (all : List Assignment) → Within (broken_assignments inputs outputs all) (map at_of (flat_map idents_of_assignment all))
within_assignments inputs outputs [] = refl
within_assignments inputs outputs (a ∷ more) =
    let here = place_if (not (is_among a.target.text outputs)) a.target.at in
    let terms = flat_map (unknown_term inputs) a.terms in
    let left = without a.target.text outputs in
    let rest = broken_assignments inputs left more in
    let later = flat_map idents_of_assignment more in
    let P : List ℕ → Type 0 = λ l. Within (here ++ (terms ++ rest)) (a.target.at ∷ l) in
    subst P (sym (map-append at_of (flat_map idents_of_term a.terms) later))
    (within_append here (a.target.at ∷ []) (terms ++ rest) (map at_of (flat_map idents_of_term a.terms) ++ map at_of later)
    (within_one (not (is_among a.target.text outputs)) a.target.at)
    (within_append terms (map at_of (flat_map idents_of_term a.terms)) rest (map at_of later) (within_terms inputs a.terms) (within_assignments inputs left more)))

-- the places after the top's
pub within_file : (f : GateFile) (other : Bool) (inputs outputs : List (List ℕ)) →
    Within (repeated_ports [] (ports_of f) ++ (place_if other f.of.at ++ broken_assignments inputs outputs f.assignments)) (map at_of (idents_of f))
within_file f other inputs outputs =
    let head = f.logic ∷ idents_of_option f.numeric in
    let ports = flat_map (λ g. g.idents) f.groups in
    let body = flat_map idents_of_assignment f.assignments in
    let repeated = repeated_ports [] (ports_of f) in
    let broken = broken_assignments inputs outputs f.assignments in
    let P : List ℕ → Type 0 = λ l. Within (repeated ++ (place_if other f.of.at ++ broken)) l in
    let Q : List ℕ → Type 0 = λ l. Within repeated l in
    let R : List ℕ → Type 0 = λ l. Within repeated l in
    let in_ports : Within repeated (map at_of ports) = subst Q (places_of_ports f.groups) (within_ports [] (ports_of f)) in
    let in_head : Within repeated (map at_of (head ++ (f.entity ∷ ports))) =
    subst R (sym (map-append at_of head (f.entity ∷ ports)))
    (within_append [] (map at_of head) repeated (f.entity.at ∷ map at_of ports) (nothing (map at_of head)) (inl in_ports)) in
    subst P (sym (map-append at_of (head ++ (f.entity ∷ ports)) (f.architecture ∷ f.of ∷ body)))
    (within_append repeated (map at_of (head ++ (f.entity ∷ ports))) (place_if other f.of.at ++ broken) (f.architecture.at ∷ f.of.at ∷ map at_of body) in_head
    (inl (within_append (place_if other f.of.at) (f.of.at ∷ []) broken (map at_of body) (within_one other f.of.at) (within_assignments inputs outputs f.assignments))))
