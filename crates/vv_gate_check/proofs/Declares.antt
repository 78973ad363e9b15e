-- Ports that come to the names, in steps.
use Rattle.std.proofs.Common.{◌≡◌, ℕ, ◌+◌, ◌<◌, ◌≤◌, Bool, true, false, not, ◌&&◌, ◌||◌, List, [], ◌∷◌, ◌++◌, map, flat_map, filter, length, take, drop, get_or, Option, None, Some, refl, sym, ◌∙◌, ap, subst, append_assoc}
use Rattle.std.specs.Str.{bytes_eq}
use Rattle.std.specs.Option.{is_some}
use Rattle.vv_gate.specs.Tree.{Ident, Port, ports_of_group}
use Rattle.vv_gate.specs.View.{ident_of}
use Rattle.vv_gate.specs.declared.tree.Ident as program
use Rattle.std.proofs.lemmas.List.{get_or_default}
use Rattle.vv_gate_check.specs.declared.names.Names.{Names}
use Rattle.vv_gate_check.specs.Places.{first, place_if, port_of, is_among, inputs_of, outputs_of, repeated_ports}
use Rattle.vv_gate_check.specs.Names.{inputs_in, outputs_in, AreSame, Adds, Declares}
use Rattle.vv_gate_check.proofs.Among.{among_append, among_kept, same_more, inputs_of-append, outputs_of-append}
use Rattle.vv_gate_check.proofs.Steps.{first_none, first_some, flat_map_more, flat_map_rest, flat_map_all}

-- the names of the ports before the names
abbrev pub add_names : List Port → List (List ℕ) → List (List ℕ)
add_names [] names = names
add_names (p ∷ more) names = add_names more (p.ident.text ∷ names)

pub repeated_same : (x y : List (List ℕ)) → AreSame x y → (ps : List Port) → repeated_ports x ps ≡ repeated_ports y ps
repeated_same x y h [] = refl
repeated_same x y h (p ∷ more) =
    ap (λ b. place_if b p.ident.at ++ repeated_ports (p.ident.text ∷ x) more) (h p.ident.text)
    ∙ ap (λ r. place_if (is_among p.ident.text y) p.ident.at ++ r) (repeated_same (p.ident.text ∷ x) (p.ident.text ∷ y) (λ q. ap (λ b. bytes_eq q p.ident.text || b) (h q)) more)

pub repeated_append : (names : List (List ℕ)) (a b : List Port) → repeated_ports names (a ++ b) ≡ repeated_ports names a ++ repeated_ports (add_names a names) b
repeated_append names [] b = refl
repeated_append names (p ∷ a) b =
    ap (λ r. place_if (is_among p.ident.text names) p.ident.at ++ r) (repeated_append (p.ident.text ∷ names) a b)
    ∙ sym (append_assoc (place_if (is_among p.ident.text names) p.ident.at) (repeated_ports (p.ident.text ∷ names) a) (repeated_ports (add_names a (p.ident.text ∷ names)) b))

or_spread : (i t a b x : Bool) → ((a || b) || (t || x)) ≡ ((((i && t) || a) || ((not i && t) || b)) || x)
or_spread true true true b x = refl
or_spread true true false true x = refl
or_spread true true false false x = refl
or_spread true false a b x = refl
or_spread false true true b x = refl
or_spread false true false true x = refl
or_spread false true false false x = refl
or_spread false false a b x = refl

or_four : (a b i o : Bool) → ((a || b) || (i || o)) ≡ ((a || i) || (b || o))
or_four true b i o = refl
or_four false true true o = refl
or_four false true false o = refl
or_four false false i o = refl

pub among_add : (q : List ℕ) (ps : List Port) (names : List (List ℕ)) →
    is_among q (add_names ps names) ≡ ((is_among q (inputs_of ps) || is_among q (outputs_of ps)) || is_among q names)
among_add q [] names = refl
among_add q (p ∷ more) names =
    among_add q more (p.ident.text ∷ names)
    ∙ or_spread p.input (bytes_eq q p.ident.text) (is_among q (inputs_of more)) (is_among q (outputs_of more)) (is_among q names)
    ∙ ap (λ x. (x || ((not p.input && bytes_eq q p.ident.text) || is_among q (outputs_of more))) || is_among q names) (sym (among_kept q p.input p (filter (λ r. r.input) more)))
    ∙ ap (λ x. (is_among q (inputs_of (p ∷ more)) || x) || is_among q names) (sym (among_kept q (not p.input) p (filter (λ r. not r.input) more)))

add_same : (ps : List Port) (i0 o0 i1 o1 : List (List ℕ)) → AreSame i1 (inputs_of ps ++ i0) → AreSame o1 (outputs_of ps ++ o0) → AreSame (add_names ps (i0 ++ o0)) (i1 ++ o1)
add_same ps i0 o0 i1 o1 hi ho = λ q.
    among_add q ps (i0 ++ o0)
    ∙ ap (λ x. (is_among q (inputs_of ps) || is_among q (outputs_of ps)) || x) (among_append q i0 o0)
    ∙ or_four (is_among q (inputs_of ps)) (is_among q (outputs_of ps)) (is_among q i0) (is_among q o0)
    ∙ ap (λ x. x || (is_among q (outputs_of ps) || is_among q o0)) (sym (hi q ∙ among_append q (inputs_of ps) i0))
    ∙ ap (λ x. is_among q i1 || x) (sym (ho q ∙ among_append q (outputs_of ps) o0))
    ∙ sym (among_append q i1 o1)

-- a name that was there
pub adds_again : (i : Ident) (others old new : List (List ℕ)) → (is_among i.text others || is_among i.text old) ≡ true → Adds i others old new (Some i.at)
adds_again i others old new h = record { place_is = sym (ap (λ b. first (place_if b i.at)) h); same = λ e. cc }

-- a new name
pub adds_new : (i : Ident) (others old new : List (List ℕ)) → is_among i.text others ≡ false → is_among i.text old ≡ false → AreSame new (i.text ∷ old) → Adds i others old new None
adds_new i others old new h k same = record { place_is = sym (ap (λ b. first (place_if (b || is_among i.text old) i.at)) h ∙ ap (λ b. first (place_if b i.at)) k); same = λ e. same }

pub declares_more : (a b : List Port) (n0 n1 n2 : Names) (place : Option ℕ) → Declares a n0 n1 None → Declares b n1 n2 place → Declares (a ++ b) n0 n2 place
declares_more a b n0 n1 n2 place h1 h2 =
    let names = inputs_in n0 ++ outputs_in n0 in
    record {
      place_is =
          h2.place_is
          ∙ ap first (repeated_same (inputs_in n1 ++ outputs_in n1) (add_names a names) (λ q. sym (add_same a (inputs_in n0) (outputs_in n0) (inputs_in n1) (outputs_in n1) (h1.inputs refl) (h1.outputs refl) q)) b)
          ∙ ap (λ l. first (l ++ repeated_ports (add_names a names) b)) (sym (first_none (repeated_ports names a) h1.place_is))
          ∙ ap first (sym (repeated_append names a b));
      inputs = λ e.
          let P : List (List ℕ) → Type 0 = λ l. AreSame (inputs_in n2) (l ++ inputs_in n0) in
          subst P (sym (inputs_of-append a b)) (same_more (inputs_in n0) (inputs_in n1) (inputs_in n2) (inputs_of a) (inputs_of b) (h1.inputs refl) (h2.inputs e));
      outputs = λ e.
          let P : List (List ℕ) → Type 0 = λ l. AreSame (outputs_in n2) (l ++ outputs_in n0) in
          subst P (sym (outputs_of-append a b)) (same_more (outputs_in n0) (outputs_in n1) (outputs_in n2) (outputs_of a) (outputs_of b) (h1.outputs refl) (h2.outputs e));
    }

pub declares_stop : (a b : List Port) (old new : Names) (at : ℕ) → Declares a old new (Some at) → Declares (a ++ b) old new (Some at)
declares_stop a b old new at h =
    let names = inputs_in old ++ outputs_in old in
    record {
      place_is = first_some (repeated_ports names a) (repeated_ports (add_names a names) b) at h.place_is ∙ ap first (sym (repeated_append names a b));
      inputs = λ e. cc;
      outputs = λ e. cc;
    }

-- one more element of a list, each of whose elements stands for some ports
pub declares_next : {A : Type 0} (f : A → List Port) (xs : List A) (i : ℕ) (x : A) (n0 n1 n2 : Names) (place : Option ℕ) → i < length xs → x ≡ get_or xs i x → is_some place ≡ false →
    Declares (flat_map f (take i xs)) n0 n1 None → Declares (f x) n1 n2 place → Declares (flat_map f (take (i + 1) xs)) n0 n2 None
declares_next f xs i x n0 n1 n2 (Some at) h is e h1 h2 = cc
declares_next f xs i x n0 n1 n2 None h is e h1 h2 =
    let P : List Port → Type 0 = λ l. Declares l n0 n2 None in
    subst P (flat_map_more f xs i x h is) (declares_more (flat_map f (take i xs)) (f x) n0 n1 n2 None h1 h2)

-- the element at which a place was found
pub declares_last : {A : Type 0} (f : A → List Port) (xs : List A) (i : ℕ) (x : A) (n0 n1 n2 : Names) (place : Option ℕ) → i < length xs → x ≡ get_or xs i x → is_some place ≡ true →
    Declares (flat_map f (take i xs)) n0 n1 None → Declares (f x) n1 n2 place → Declares (flat_map f xs) n0 n2 place
declares_last f xs i x n0 n1 n2 None h is e h1 h2 = cc
declares_last f xs i x n0 n1 n2 (Some at) h is e h1 h2 =
    let P : List Port → Type 0 = λ l. Declares l n0 n2 (Some at) in
    subst P (flat_map_rest f xs i x h is)
    (declares_stop (flat_map f (take i xs) ++ f x) (flat_map f (drop (i + 1) xs)) n0 n2 at
    (declares_more (flat_map f (take i xs)) (f x) n0 n1 n2 (Some at) h1 h2))

-- the same, where the element is a read
pub declares_next_read : {A : Type 0} (f : A → List Port) (xs : List A) (i : ℕ) (d : A) (n0 n1 n2 : Names) (place : Option ℕ) → i < length xs → is_some place ≡ false →
    Declares (flat_map f (take i xs)) n0 n1 None → Declares (f (get_or xs i d)) n1 n2 place → Declares (flat_map f (take (i + 1) xs)) n0 n2 None
declares_next_read f xs i d n0 n1 n2 place h = declares_next f xs i (get_or xs i d) n0 n1 n2 place h (get_or_default xs i d (get_or xs i d) h)

pub declares_last_read : {A : Type 0} (f : A → List Port) (xs : List A) (i : ℕ) (d : A) (n0 n1 n2 : Names) (place : Option ℕ) → i < length xs → is_some place ≡ true →
    Declares (flat_map f (take i xs)) n0 n1 None → Declares (f (get_or xs i d)) n1 n2 place → Declares (flat_map f xs) n0 n2 place
declares_last_read f xs i d n0 n1 n2 place h = declares_last f xs i (get_or xs i d) n0 n1 n2 place h (get_or_default xs i d (get_or xs i d) h)

pub declares_whole : {A : Type 0} (f : A → List Port) (xs : List A) (i : ℕ) (old new : Names) → length xs ≤ i → Declares (flat_map f (take i xs)) old new None → Declares (flat_map f xs) old new None
declares_whole f xs i old new e h =
    let P : List Port → Type 0 = λ l. Declares l old new None in
    subst P (flat_map_all f xs i e) h

pub ports_of_idents : (input : Bool) (is : List program.Ident) → flat_map (λ i. port_of input (ident_of i) ∷ []) is ≡ ports_of_group (record { idents = map ident_of is; input = input })
ports_of_idents input [] = refl
ports_of_idents input (i ∷ more) = ap (λ l. port_of input (ident_of i) ∷ l) (ports_of_idents input more)
