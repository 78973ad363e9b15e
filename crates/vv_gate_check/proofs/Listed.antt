-- What breaks a condition is among the broken places.
use Rattle.std.proofs.Common.{◌≡◌, ℕ, Bool, true, false, not, ◌&&◌, List, [], ◌∷◌, ◌++◌, map, filter, flat_map, refl, sym, ◌∙◌, ap, subst, inl, inr, Contains}
use Rattle.std.specs.Str.{bytes_eq}
use Rattle.std.proofs.lemmas.Bool.{and_from, or_left, or_right}
use Rattle.std.proofs.lemmas.Cmp.{nat_list_eq_equiv}
use Rattle.std.proofs.lemmas.Map.Views.{list_any-from_Contains}
use Rattle.std.proofs.lemmas.Slice.Eq.{bytes_eq-Decides}
use Rattle.vv_gate.specs.Tree.{Ident, Port, Operand, port, Term, Assignment}
use Rattle.vv_gate.specs.Conditions.{name_of}
use Rattle.vv_gate_check.specs.Places.{place_if, is_among, repeated_ports, unknown_operand, unknown_term, without, broken_assignments}
use Rattle.vv_gate_check.specs.Names.{without_targets}
use Rattle.vv_gate_check.proofs.Among.{among_kept}
use Rattle.vv_gate_check.proofs.Declares.{add_names}
use Rattle.vv_gate_check.proofs.Found.{In}

pub in_left : {A : Type 0} (xs ys : List A) (x : A) → In xs x → In (xs ++ ys) x
in_left [] ys x h = absurd h
in_left (y ∷ more) ys x (inl e) = inl e
in_left (y ∷ more) ys x (inr r) = inr (in_left more ys x r)

pub in_right : {A : Type 0} (xs ys : List A) (x : A) → In ys x → In (xs ++ ys) x
in_right [] ys x h = h
in_right (y ∷ more) ys x h = inr (in_right more ys x h)

pub place_in : (b : Bool) (at : ℕ) → b ≡ true → In (place_if b at) at
place_in true at e = inl refl
place_in false at e = cc

flat_map_in : {A B : Type 0} (f : A → List B) (xs : List A) (x : A) (y : B) → In xs x → In (f x) y → In (flat_map f xs) y
flat_map_in f [] x y h k = absurd h
flat_map_in {A} {B} f (z ∷ more) x y (inl e) k =
    let P : A → Type 0 = λ w. In (f w) y in
    in_left (f z) (flat_map f more) y (subst P (sym e) k)
flat_map_in f (z ∷ more) x y (inr r) k = in_right (f z) (flat_map f more) y (flat_map_in f more x y r k)

pub kept_listed : (keep : Port → Bool) (ps : List Port) (p : Port) (q : List ℕ) → In ps p → keep p ≡ true → p.ident.text ≡ q →
    is_among q (map name_of (filter keep ps)) ≡ true
kept_listed keep [] p q h k e = absurd h
kept_listed keep (r ∷ more) p q (inl i) k e =
    among_kept q (keep r) r (filter keep more)
    ∙ or_left (keep r && bytes_eq q r.ident.text) (is_among q (map name_of (filter keep more)))
    (and_from (keep r) (bytes_eq q r.ident.text) (ap keep i ∙ k) ((bytes_eq-Decides q r.ident.text).1 (sym (ap (λ x. x.ident.text) i ∙ e))))
kept_listed keep (r ∷ more) p q (inr i) k e =
    among_kept q (keep r) r (filter keep more)
    ∙ or_right (keep r && bytes_eq q r.ident.text) (is_among q (map name_of (filter keep more))) (kept_listed keep more p q i k e)

pub among_from_Contains : (q : List ℕ) (names : List (List ℕ)) → Contains names q → is_among q names ≡ true
among_from_Contains q names h = list_any-from_Contains nat_list_eq_equiv q names h

pub repeat_listed : (names : List (List ℕ)) (before after : List Port) (p : Port) → is_among p.ident.text (add_names before names) ≡ true →
    In (repeated_ports names (before ++ (p ∷ after))) p.ident.at
repeat_listed names [] after p e =
    in_left (place_if (is_among p.ident.text names) p.ident.at) (repeated_ports (p.ident.text ∷ names) after) p.ident.at (place_in (is_among p.ident.text names) p.ident.at e)
repeat_listed names (r ∷ before) after p e =
    in_right (place_if (is_among r.ident.text names) r.ident.at) (repeated_ports (r.ident.text ∷ names) (before ++ (p ∷ after))) p.ident.at (repeat_listed (r.ident.text ∷ names) before after p e)

pub target_listed : (inputs outputs : List (List ℕ)) (before after : List Assignment) (a : Assignment) → is_among a.target.text (without_targets before outputs) ≡ false →
    In (broken_assignments inputs outputs (before ++ (a ∷ after))) a.target.at
target_listed inputs outputs [] after a e =
    in_left (place_if (not (is_among a.target.text outputs)) a.target.at) (flat_map (unknown_term inputs) a.terms ++ broken_assignments inputs (without a.target.text outputs) after) a.target.at
    (place_in (not (is_among a.target.text outputs)) a.target.at (ap not e))
target_listed inputs outputs (b ∷ before) after a e =
    let rest = broken_assignments inputs (without b.target.text outputs) (before ++ (a ∷ after)) in
    in_right (place_if (not (is_among b.target.text outputs)) b.target.at) (flat_map (unknown_term inputs) b.terms ++ rest) a.target.at
    (in_right (flat_map (unknown_term inputs) b.terms) rest a.target.at (target_listed inputs (without b.target.text outputs) before after a e))

operand_listed : (inputs : List (List ℕ)) (o : Operand) (i : Ident) → o ≡ port i → is_among i.text inputs ≡ false → In (unknown_operand inputs o) i.at
operand_listed inputs o i is e =
    let P : Operand → Type 0 = λ x. In (unknown_operand inputs x) i.at in
    subst P (sym is) (place_in (not (is_among i.text inputs)) i.at (ap not e))

pub operand_in : (inputs outputs : List (List ℕ)) (all : List Assignment) (a : Assignment) (t : Term) (i : Ident) → In all a → In a.terms t → t.operand ≡ port i →
    is_among i.text inputs ≡ false → In (broken_assignments inputs outputs all) i.at
operand_in inputs outputs [] a t i h k is e = absurd h
operand_in inputs outputs (b ∷ more) a t i (inl same) k is e =
    let rest = broken_assignments inputs (without b.target.text outputs) more in
    let P : Assignment → Type 0 = λ x. In (flat_map (unknown_term inputs) x.terms) i.at in
    in_right (place_if (not (is_among b.target.text outputs)) b.target.at) (flat_map (unknown_term inputs) b.terms ++ rest) i.at
    (in_left (flat_map (unknown_term inputs) b.terms) rest i.at
    (subst P (sym same) (flat_map_in (unknown_term inputs) a.terms t i.at k (operand_listed inputs t.operand i is e))))
operand_in inputs outputs (b ∷ more) a t i (inr r) k is e =
    let rest = broken_assignments inputs (without b.target.text outputs) more in
    in_right (place_if (not (is_among b.target.text outputs)) b.target.at) (flat_map (unknown_term inputs) b.terms ++ rest) i.at
    (in_right (flat_map (unknown_term inputs) b.terms) rest i.at (operand_in inputs (without b.target.text outputs) more a t i r k is e))
