-- What a broken place comes from.
use Rattle.std.proofs.Common.{◌≡◌, ℕ, ◌<◌, Bool, true, false, not, ◌&&◌, ◌||◌, List, [], ◌∷◌, ◌++◌, map, filter, flat_map, refl, sym, ◌∙◌, ap, subst, ◌⊎◌, inl, inr, Contains, arith}
use Rattle.std.specs.Str.{bytes_eq}
use Rattle.std.proofs.lemmas.Bool.{not-true, and_parts, or_cases}
use Rattle.std.proofs.lemmas.List.Elements.{Contains-append_left, Contains-append_right, Contains-append_cases, Contains-push, Contains-push_cases}
use Rattle.std.proofs.lemmas.Map.Views.{Contains-from_any}
use Rattle.std.proofs.lemmas.Slice.Eq.{bytes_eq-Decides}
use Rattle.vv_gate.specs.Tree.{Ident, Port, Operand, low, high, port, Term, Assignment}
use Rattle.vv_gate.specs.Conditions.{name_of}
use Rattle.vv_gate_check.specs.Places.{place_if, is_among, repeated_ports, unknown_operand, unknown_term, without, broken_assignments}
use Rattle.vv_gate_check.specs.Names.{without_targets}
use Rattle.vv_gate_check.proofs.Among.{among_kept, among_without, name_sym}
use Rattle.vv_gate_check.proofs.Declares.{add_names}

-- x stands in the list
abbrev pub In : {A : Type 0} → List A → A → Type 0
In [] x = ⊥
In (y ∷ more) x = (y ≡ x) ⊎ In more x

pub in_cases : {A : Type 0} (xs ys : List A) (x : A) → In (xs ++ ys) x → In xs x ⊎ In ys x
in_cases [] ys x h = inr h
in_cases (y ∷ more) ys x (inl e) = inl (inl e)
in_cases (y ∷ more) ys x (inr r) = elim (in_cases more ys x r) [ inl a ↦ inl (inr a) | inr b ↦ inr b ]

pub Contains-from_in : {A : Type 0} (xs : List A) (x : A) → In xs x → Contains xs x
Contains-from_in [] x h = absurd h
Contains-from_in {A} (y ∷ more) x (inl e) =
    let P : A → Type 0 = λ z. Contains (y ∷ []) z in
    Contains-append_left (y ∷ []) more x (subst P e (Contains-push [] y))
Contains-from_in (y ∷ more) x (inr r) = Contains-append_right (y ∷ []) more x (Contains-from_in more x r)

none_in : {A : Type 0} (x : A) → Contains [] x → ⊥
none_in x h = let lt : h.0 < 0 = h.1 in omega arith

pub in_from_Contains : {A : Type 0} (xs : List A) (x : A) → Contains xs x → In xs x
in_from_Contains [] x h = none_in x h
in_from_Contains (y ∷ more) x h =
    elim (Contains-append_cases (y ∷ []) more x h) [
      | inl a ↦ elim (Contains-push_cases [] y x a) [ inl b ↦ absurd (none_in x b) | inr e ↦ inl e ]
      | inr b ↦ inr (in_from_Contains more x b)
    ]

pub in_place : (b : Bool) (at q : ℕ) → In (place_if b at) q → (b ≡ true) × (at ≡ q)
in_place true at q (inl e) = (refl, e)
in_place true at q (inr r) = absurd r
in_place false at q h = absurd h

pub in_flat_map : {A B : Type 0} (f : A → List B) (xs : List A) (y : B) → In (flat_map f xs) y → (x : A) × In xs x × In (f x) y
in_flat_map f [] y h = absurd h
in_flat_map f (x ∷ more) y h =
    elim (in_cases (f x) (flat_map f more) y h) [
      | inl a ↦ (x, inl refl, a)
      | inr b ↦ (let w = in_flat_map f more y b in (w.0, inr w.1, w.2))
    ]

-- a name that some kept port has
pub kept_found : (keep : Port → Bool) (ps : List Port) (q : List ℕ) → is_among q (map name_of (filter keep ps)) ≡ true →
    (p : Port) × In ps p × (keep p ≡ true) × (p.ident.text ≡ q)
kept_found keep [] q e = cc
kept_found keep (p ∷ more) q e =
    elim (or_cases (keep p && bytes_eq q p.ident.text) (is_among q (map name_of (filter keep more))) (sym (among_kept q (keep p) p (filter keep more)) ∙ e)) [
      | inl a ↦ (let w = and_parts (keep p) (bytes_eq q p.ident.text) a in (p, inl refl, w.0, sym ((bytes_eq-Decides q p.ident.text).0 w.1)))
      | inr b ↦ (let w = kept_found keep more q b in (w.0, inr w.1, w.2, w.3))
    ]

pub Contains-from_among : (q : List ℕ) (names : List (List ℕ)) → is_among q names ≡ true → Contains names q
Contains-from_among q names e = Contains-from_any {eq = bytes_eq} (λ x y. (bytes_eq-Decides x y).0) q names e

or_shift : (m t n : Bool) → (m || (t || n)) ≡ ((t || m) || n)
or_shift true true n = refl
or_shift true false n = refl
or_shift false true n = refl
or_shift false false n = refl

pub among_added : (q : List ℕ) (ps : List Port) (names : List (List ℕ)) → is_among q (add_names ps names) ≡ (is_among q (map name_of ps) || is_among q names)
among_added q [] names = refl
among_added q (p ∷ more) names =
    among_added q more (p.ident.text ∷ names) ∙ or_shift (is_among q (map name_of more)) (bytes_eq q p.ident.text) (is_among q names)

and_shift : (m t n : Bool) → (not m && (not t && n)) ≡ (not (t || m) && n)
and_shift true true n = refl
and_shift true false n = refl
and_shift false true n = refl
and_shift false false n = refl

pub among_targets : (q : List ℕ) (all : List Assignment) (names : List (List ℕ)) →
    is_among q (without_targets all names) ≡ (not (is_among q (map (λ b. b.target.text) all)) && is_among q names)
among_targets q [] names = refl
among_targets q (a ∷ more) names =
    among_targets q more (without a.target.text names)
    ∙ ap (λ x. not (is_among q (map (λ b. b.target.text) more)) && x) (among_without q a.target.text names ∙ ap (λ t. not t && is_among q names) (name_sym a.target.text q))
    ∙ and_shift (is_among q (map (λ b. b.target.text) more)) (bytes_eq q a.target.text) (is_among q names)

-- a port whose name stood before, at q
pub record Repeat (names : List (List ℕ)) (ps : List Port) (q : ℕ) : Type 0 where
  pub before : List Port
  pub after : List Port
  pub p : Port
  pub split : ps ≡ before ++ (p ∷ after)
  pub stood : is_among p.ident.text (add_names before names) ≡ true
  pub here : p.ident.at ≡ q

pub repeat_found : (names : List (List ℕ)) (ps : List Port) (q : ℕ) → In (repeated_ports names ps) q → Repeat names ps q
repeat_found names [] q h = absurd h
repeat_found names (p ∷ more) q h =
    elim (in_cases (place_if (is_among p.ident.text names) p.ident.at) (repeated_ports (p.ident.text ∷ names) more) q h) [
      | inl a ↦ (let w = in_place (is_among p.ident.text names) p.ident.at q a in
          record { before = []; after = more; p = p; split = refl; stood = w.0; here = w.1 })
      | inr b ↦ (let w = repeat_found (p.ident.text ∷ names) more q b in
          record { before = p ∷ w.before; after = w.after; p = w.p; split = ap (λ l. p ∷ l) w.split; stood = w.stood; here = w.here })
    ]

pub operand_found : (inputs : List (List ℕ)) (o : Operand) (q : ℕ) → In (unknown_operand inputs o) q →
    (i : Ident) × (o ≡ port i) × (is_among i.text inputs ≡ false) × (i.at ≡ q)
operand_found inputs low q h = absurd h
operand_found inputs high q h = absurd h
operand_found inputs (port i) q h =
    let w = in_place (not (is_among i.text inputs)) i.at q h in
    (i, refl, not-true (is_among i.text inputs) w.0, w.1)

-- a target that isn't one of the outputs that are left, at q
pub record BadTarget (outputs : List (List ℕ)) (all : List Assignment) (q : ℕ) : Type 0 where
  pub before : List Assignment
  pub after : List Assignment
  pub a : Assignment
  pub split : all ≡ before ++ (a ∷ after)
  pub gone : is_among a.target.text (without_targets before outputs) ≡ false
  pub here : a.target.at ≡ q

-- an operand that isn't one of the inputs, at q
pub record BadOperand (inputs : List (List ℕ)) (all : List Assignment) (q : ℕ) : Type 0 where
  pub a : Assignment
  pub inside : In all a
  pub t : Term
  pub within : In a.terms t
  pub i : Ident
  pub is : t.operand ≡ port i
  pub absent : is_among i.text inputs ≡ false
  pub here : i.at ≡ q

operands_found : (inputs : List (List ℕ)) (a : Assignment) (more : List Assignment) (q : ℕ) → In (flat_map (unknown_term inputs) a.terms) q → BadOperand inputs (a ∷ more) q
operands_found inputs a more q h =
    let w = in_flat_map (unknown_term inputs) a.terms q h in
    let o = operand_found inputs w.0.operand q w.2 in
    record { a = a; inside = inl refl; t = w.0; within = w.1; i = o.0; is = o.1; absent = o.2; here = o.3 }

pub assignment_found : (inputs outputs : List (List ℕ)) (all : List Assignment) (q : ℕ) → In (broken_assignments inputs outputs all) q →
    BadTarget outputs all q ⊎ BadOperand inputs all q
assignment_found inputs outputs [] q h = absurd h
assignment_found inputs outputs (a ∷ more) q h =
    let here = place_if (not (is_among a.target.text outputs)) a.target.at in
    let terms = flat_map (unknown_term inputs) a.terms in
    let rest = broken_assignments inputs (without a.target.text outputs) more in
    elim (in_cases here (terms ++ rest) q h) [
      | inl x ↦ (let w = in_place (not (is_among a.target.text outputs)) a.target.at q x in
          inl (record { before = []; after = more; a = a; split = refl; gone = not-true (is_among a.target.text outputs) w.0; here = w.1 }))
      | inr y ↦ (elim (in_cases terms rest q y) [
        | inl x ↦ inr (operands_found inputs a more q x)
        | inr z ↦ (elim (assignment_found inputs (without a.target.text outputs) more q z) [
          | inl w ↦ inl (record { before = a ∷ w.before; after = w.after; a = w.a; split = ap (λ l. a ∷ l) w.split; gone = w.gone; here = w.here })
          | inr w ↦ inr (record { a = w.a; inside = inr w.inside; t = w.t; within = w.within; i = w.i; is = w.is; absent = w.absent; here = w.here })
        ])
      ])
    ]
