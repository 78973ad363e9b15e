-- Targets that go from the names, in steps.
use Rattle.std.proofs.Common.{◌≡◌, ℕ, ◌+◌, ◌<◌, ◌≤◌, true, false, not, List, [], ◌∷◌, ◌++◌, flat_map, length, take, drop, get_or, Option, None, Some, refl, sym, ◌∙◌, ap, subst, append_assoc}
use Rattle.std.specs.Option.{is_some}
use Rattle.std.proofs.lemmas.List.{append-nil}
use Rattle.vv_gate.specs.Tree.{Operand, low, high, port, Term, Assignment}
use Rattle.vv_gate_check.specs.declared.names.Names.{Names}
use Rattle.vv_gate_check.specs.Places.{first, place_if, is_among, without, unknown_operand, unknown_term, broken_assignments}
use Rattle.vv_gate_check.specs.Names.{inputs_in, outputs_in, AreSame, without_targets, Assigns}
use Rattle.vv_gate_check.proofs.Among.{without_same}
use Rattle.vv_gate_check.proofs.Steps.{first_none, first_some, flat_map_more, flat_map_rest, flat_map_all}

pub broken_same : (inputs x y : List (List ℕ)) → AreSame x y → (all : List Assignment) → broken_assignments inputs x all ≡ broken_assignments inputs y all
broken_same inputs x y h [] = refl
broken_same inputs x y h (a ∷ more) =
    ap (λ b. place_if (not b) a.target.at ++ (flat_map (unknown_term inputs) a.terms ++ broken_assignments inputs (without a.target.text x) more)) (h a.target.text)
    ∙ ap (λ r. place_if (not (is_among a.target.text y)) a.target.at ++ (flat_map (unknown_term inputs) a.terms ++ r))
    (broken_same inputs (without a.target.text x) (without a.target.text y) (without_same a.target.text x y h) more)

unknown_same : (x y : List (List ℕ)) → AreSame x y → (o : Operand) → unknown_operand x o ≡ unknown_operand y o
unknown_same x y h low = refl
unknown_same x y h high = refl
unknown_same x y h (port i) = ap (λ b. place_if (not b) i.at) (h i.text)

terms_same : (x y : List (List ℕ)) → AreSame x y → (terms : List Term) → flat_map (unknown_term x) terms ≡ flat_map (unknown_term y) terms
terms_same x y h [] = refl
terms_same x y h (t ∷ more) =
    ap (λ l. l ++ flat_map (unknown_term x) more) (unknown_same x y h t.operand) ∙ ap (λ l. unknown_term y t ++ l) (terms_same x y h more)

pub broken_same_inputs : (x y outputs : List (List ℕ)) → AreSame x y → (all : List Assignment) → broken_assignments x outputs all ≡ broken_assignments y outputs all
broken_same_inputs x y outputs h [] = refl
broken_same_inputs x y outputs h (a ∷ more) =
    let here = place_if (not (is_among a.target.text outputs)) a.target.at in
    ap (λ l. here ++ (l ++ broken_assignments x (without a.target.text outputs) more)) (terms_same x y h a.terms)
    ∙ ap (λ l. here ++ (flat_map (unknown_term y) a.terms ++ l)) (broken_same_inputs x y (without a.target.text outputs) h more)

pub broken_append : (inputs names : List (List ℕ)) (a b : List Assignment) →
    broken_assignments inputs names (a ++ b) ≡ broken_assignments inputs names a ++ broken_assignments inputs (without_targets a names) b
broken_append inputs names [] b = refl
broken_append inputs names (a ∷ more) b =
    let here = place_if (not (is_among a.target.text names)) a.target.at in
    let terms = flat_map (unknown_term inputs) a.terms in
    let left = without a.target.text names in
    let r = broken_assignments inputs left more in
    let s = broken_assignments inputs (without_targets more left) b in
    ap (λ l. here ++ (terms ++ l)) (broken_append inputs left more b)
    ∙ sym (append_assoc here (terms ++ r) s ∙ ap (λ l. here ++ l) (append_assoc terms r s))

pub targets_same : (x y : List (List ℕ)) → AreSame x y → (all : List Assignment) → AreSame (without_targets all x) (without_targets all y)
targets_same x y h [] = h
targets_same x y h (a ∷ more) = targets_same (without a.target.text x) (without a.target.text y) (without_same a.target.text x y h) more

targets_append : (names : List (List ℕ)) (a b : List Assignment) → without_targets (a ++ b) names ≡ without_targets b (without_targets a names)
targets_append names [] b = refl
targets_append names (a ∷ more) b = targets_append (without a.target.text names) more b

-- an assignment whose target isn't there
pub assigns_missing : (a : Assignment) (old new : Names) → is_among a.target.text (outputs_in old) ≡ false → inputs_in new ≡ inputs_in old → Assigns (a ∷ []) old new (Some a.target.at)
assigns_missing a old new h ins = record {
  place_is = ap (λ b. first (place_if (not b) a.target.at ++ (flat_map (unknown_term (inputs_in old)) a.terms ++ []))) (sym h);
  inputs = ins;
  outputs = λ e. cc;
}

-- an assignment whose target is taken out
pub assigns_taken : (a : Assignment) (old new : Names) (place : Option ℕ) → is_among a.target.text (outputs_in old) ≡ true → inputs_in new ≡ inputs_in old →
    AreSame (outputs_in new) (without a.target.text (outputs_in old)) → place ≡ first (flat_map (unknown_term (inputs_in old)) a.terms) → Assigns (a ∷ []) old new place
assigns_taken a old new place h ins outs e = record {
  place_is =
      e ∙ ap first (sym (append-nil (flat_map (unknown_term (inputs_in old)) a.terms)))
      ∙ ap (λ b. first (place_if (not b) a.target.at ++ (flat_map (unknown_term (inputs_in old)) a.terms ++ []))) (sym h);
  inputs = ins;
  outputs = λ r. outs;
}

pub assigns_more : (a b : List Assignment) (n0 n1 n2 : Names) (place : Option ℕ) → Assigns a n0 n1 None → Assigns b n1 n2 place → Assigns (a ++ b) n0 n2 place
assigns_more a b n0 n1 n2 place h1 h2 =
    let left = without_targets a (outputs_in n0) in
    record {
      place_is =
          h2.place_is
          ∙ ap (λ i. first (broken_assignments i (outputs_in n1) b)) h1.inputs
          ∙ ap first (broken_same (inputs_in n0) (outputs_in n1) left (h1.outputs refl) b)
          ∙ ap (λ l. first (l ++ broken_assignments (inputs_in n0) left b)) (sym (first_none (broken_assignments (inputs_in n0) (outputs_in n0) a) h1.place_is))
          ∙ ap first (sym (broken_append (inputs_in n0) (outputs_in n0) a b));
      inputs = h2.inputs ∙ h1.inputs;
      outputs = λ e q. h2.outputs e q ∙ targets_same (outputs_in n1) left (h1.outputs refl) b q ∙ ap (is_among q) (sym (targets_append (outputs_in n0) a b));
    }

pub assigns_stop : (a b : List Assignment) (old new : Names) (at : ℕ) → Assigns a old new (Some at) → Assigns (a ++ b) old new (Some at)
assigns_stop a b old new at h =
    record {
      place_is =
          first_some (broken_assignments (inputs_in old) (outputs_in old) a) (broken_assignments (inputs_in old) (without_targets a (outputs_in old)) b) at h.place_is
          ∙ ap first (sym (broken_append (inputs_in old) (outputs_in old) a b));
      inputs = h.inputs;
      outputs = λ e. cc;
    }

-- one more assignment of a list
pub assigns_next : {A : Type 0} (f : A → List Assignment) (xs : List A) (i : ℕ) (x : A) (n0 n1 n2 : Names) (place : Option ℕ) → i < length xs → x ≡ get_or xs i x → is_some place ≡ false →
    Assigns (flat_map f (take i xs)) n0 n1 None → Assigns (f x) n1 n2 place → Assigns (flat_map f (take (i + 1) xs)) n0 n2 None
assigns_next f xs i x n0 n1 n2 (Some at) h is e h1 h2 = cc
assigns_next f xs i x n0 n1 n2 None h is e h1 h2 =
    let P : List Assignment → Type 0 = λ l. Assigns l n0 n2 None in
    subst P (flat_map_more f xs i x h is) (assigns_more (flat_map f (take i xs)) (f x) n0 n1 n2 None h1 h2)

-- the assignment at which a place was found
pub assigns_last : {A : Type 0} (f : A → List Assignment) (xs : List A) (i : ℕ) (x : A) (n0 n1 n2 : Names) (place : Option ℕ) → i < length xs → x ≡ get_or xs i x → is_some place ≡ true →
    Assigns (flat_map f (take i xs)) n0 n1 None → Assigns (f x) n1 n2 place → Assigns (flat_map f xs) n0 n2 place
assigns_last f xs i x n0 n1 n2 None h is e h1 h2 = cc
assigns_last f xs i x n0 n1 n2 (Some at) h is e h1 h2 =
    let P : List Assignment → Type 0 = λ l. Assigns l n0 n2 (Some at) in
    subst P (flat_map_rest f xs i x h is)
    (assigns_stop (flat_map f (take i xs) ++ f x) (flat_map f (drop (i + 1) xs)) n0 n2 at
    (assigns_more (flat_map f (take i xs)) (f x) n0 n1 n2 (Some at) h1 h2))

pub assigns_whole : {A : Type 0} (f : A → List Assignment) (xs : List A) (i : ℕ) (old new : Names) → length xs ≤ i → Assigns (flat_map f (take i xs)) old new None → Assigns (flat_map f xs) old new None
assigns_whole f xs i old new e h =
    let P : List Assignment → Type 0 = λ l. Assigns l old new None in
    subst P (flat_map_all f xs i e) h
