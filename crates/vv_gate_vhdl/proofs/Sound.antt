-- A file in which no condition is broken has a design that settles.
use Rattle.std.proofs.Common.{◌≡◌, ℕ, zero, suc, ◌<◌, nat_eq, Bool, true, false, not, cond, List, [], ◌∷◌, ◌++◌, map, length, take, drop, Contains, Some, slice_get, ⊎_elim, refl, sym, ap, ◌∙◌, arith, true≢false, eqb-true}
use Rattle.std.specs.Str.{bytes_eq}
use Rattle.std.proofs.lemmas.Bool.{cases_Bool, or_cases, false_from_ne_true}
use Rattle.std.proofs.lemmas.Slice.Eq.{bytes_eq-Decides}
use Rattle.std.proofs.lemmas.Option.{slice_get-get_or}
use Rattle.vv_gate.specs.Tree.{Operand, low, high, port, Term, Assignment, GateFile, Port, ports_of}
use Rattle.vv_gate.specs.Conditions.{name_of, IsPort, repeated_port, no_output, no_input, assigned_again, IsSound}
use Rattle.vv_cycle.proofs.Bound.{some_eq, none_eq}
use Rattle.vv_gate_vhdl.specs.Design.{net_of, is_port, target_net, is_assigned, HasInput, AllInputs, AllPlaced, OnceAssigned, IsSoundGate}

-- ---- names that stand once

abbrev Single : {A : Type 0} → (A → List ℕ) → List A → Type 0
Single {A} name xs = (before after : List A) (a : A) → xs ≡ before ++ (a ∷ after) → Contains (map name before) (name a) → ⊥

single_tail : {A : Type 0} (name : A → List ℕ) (x : A) (xs : List A) → Single name (x ∷ xs) → Single name xs
single_tail {A} name x xs h before after a e c = h (x ∷ before) after a (ap (λ (ys : List A). x ∷ ys) e) (suc c.0, (let l : c.0 < length (map name before) = c.1 in omega arith), c.2)

split : {A : Type 0} (xs : List A) (j : ℕ) (a : A) → slice_get xs j ≡ Some a → xs ≡ take j xs ++ (a ∷ drop (suc j) xs)
split [] j a h = absurd (none_eq a h)
split {A} (x ∷ xs) zero a h = ap (λ (y : A). y ∷ xs) (some_eq x a h)
split {A} (x ∷ xs) (suc j) a h = ap (λ (ys : List A). x ∷ ys) (split xs j a h)

single_head : {A : Type 0} (name : A → List ℕ) (x : A) (xs : List A) → Single name (x ∷ xs) → (j : ℕ) (a : A) → slice_get xs j ≡ Some a → name x ≡ name a → ⊥
single_head {A} name x xs h j a g e = h (x ∷ take j xs) (drop (suc j) xs) a (ap (λ (ys : List A). x ∷ ys) (split xs j a g)) (0, omega arith, e)

-- ---- ports by name

way : (ports : List Port) (k : ℕ) (p : Port) (b : Bool) → slice_get ports k ≡ Some p → p.input ≡ b → is_port b ports k ≡ true
way [] k p b h e = absurd (none_eq p h)
way (q ∷ ports) zero p true h e = ap (λ (o : Port). o.input) (some_eq q p h) ∙ e
way (q ∷ ports) zero p false h e = ap not (ap (λ (o : Port). o.input) (some_eq q p h) ∙ e)
way (q ∷ ports) (suc k) p true h e = way ports k p true h e
way (q ∷ ports) (suc k) p false h e = way ports k p false h e

net_at : (ports : List Port) (k : ℕ) (p : Port) → Single name_of ports → slice_get ports k ≡ Some p → net_of ports p.ident.text ≡ k
net_at [] k p once h = absurd (none_eq p h)
net_at (q ∷ ports) zero p once h = ap (λ b. cond b 0 (suc (net_of ports p.ident.text))) ((bytes_eq-Decides q.ident.text p.ident.text).1 (ap (λ (o : Port). o.ident.text) (some_eq q p h)))
net_at (q ∷ ports) (suc k) p once h =
    ap (λ b. cond b 0 (suc (net_of ports p.ident.text))) (false_from_ne_true (bytes_eq q.ident.text p.ident.text) (λ e. single_head name_of q ports once k p h ((bytes_eq-Decides q.ident.text p.ident.text).0 e)))
    ∙ ap suc (net_at ports k p (single_tail name_of q ports once) h)

-- a port with the name gives the direction of the name's net
named_way : (f : GateFile) (text : List ℕ) (b : Bool) → Single name_of (ports_of f) → IsPort b f text → is_port b (ports_of f) (net_of (ports_of f) text) ≡ true
named_way f text b once h =
    let p : Port = h.0 in
    let c = h.1 in
    let at : slice_get (ports_of f) c.0 ≡ Some p = slice_get-get_or (ports_of f) c.0 p c.1 ∙ ap Some c.2 in
    ap (λ t. is_port b (ports_of f) (net_of (ports_of f) t)) (sym h.3)
    ∙ (ap (is_port b (ports_of f)) (net_at (ports_of f) c.0 p once at) ∙ way (ports_of f) c.0 p b at h.2)

-- the port of a name's net has that name
record Named (ports : List Port) (k : ℕ) (text : List ℕ) : Type 0 where
  p : Port
  at : slice_get ports k ≡ Some p
  is : p.ident.text ≡ text

named : (ports : List Port) (text : List ℕ) → is_port false ports (net_of ports text) ≡ true → Named ports (net_of ports text) text
named [] text h = absurd (true≢false (sym h))
named (q ∷ ports) text h =
    ⊎_elim
    (λ t. record { p = q; at = ap (λ b. slice_get (q ∷ ports) (cond b 0 (suc (net_of ports text)))) t; is = (bytes_eq-Decides q.ident.text text).0 t })
    (λ n. let e : net_of (q ∷ ports) text ≡ suc (net_of ports text) = ap (λ b. cond b 0 (suc (net_of ports text))) n in
    let r = named ports text (sym (ap (is_port false (q ∷ ports)) e) ∙ h) in
    record { p = r.p; at = ap (slice_get (q ∷ ports)) e ∙ r.at; is = r.is })
    (cases_Bool (bytes_eq q.ident.text text))

same_net : (ports : List Port) (s t : List ℕ) → is_port false ports (net_of ports s) ≡ true → net_of ports t ≡ net_of ports s → t ≡ s
same_net ports s t h e =
    let a = named ports s h in
    let b = named ports t (ap (is_port false ports) e ∙ h) in
    sym b.is ∙ (ap (λ (o : Port). o.ident.text) (some_eq b.p a.p (sym b.at ∙ (ap (slice_get ports) e ∙ a.at))) ∙ a.is)

-- ---- assignments

contains_head : {A : Type 0} (x : A) (xs : List A) → Contains (x ∷ xs) x
contains_head x xs = (0, omega arith, refl)

contains_tail : {A : Type 0} (x : A) (xs : List A) (a : A) → Contains xs a → Contains (x ∷ xs) a
contains_tail x xs a c = (suc c.0, (let l : c.0 < length xs = c.1 in omega arith), c.2)

record Found (ports : List Port) (gs : List Assignment) (k : ℕ) : Type 0 where
  j : ℕ
  a : Assignment
  at : slice_get gs j ≡ Some a
  is : target_net ports a ≡ k

found : (ports : List Port) (gs : List Assignment) (k : ℕ) → is_assigned ports gs k ≡ true → Found ports gs k
found ports [] k h = absurd (true≢false (sym h))
found ports (a ∷ gs) k h =
    ⊎_elim (λ t. record { j = 0; a = a; at = refl; is = eqb-true (target_net ports a) k t })
    (λ m. let r = found ports gs k m in record { j = suc r.j; a = r.a; at = r.at; is = r.is })
    (or_cases (nat_eq (target_net ports a) k) (is_assigned ports gs k) h)

abbrev target_text : Assignment → List ℕ
target_text a = a.target.text

once_from : (ports : List Port) (gs : List Assignment) → AllPlaced ports gs → Single target_text gs → OnceAssigned ports gs
once_from ports [] placed once = tt
once_from ports (a ∷ gs) placed once =
    (false_from_ne_true (is_assigned ports gs (target_net ports a)) (λ t. let r = found ports gs (target_net ports a) t in single_head target_text a gs once r.j r.a r.at (sym (same_net ports a.target.text r.a.target.text placed.0 r.is))), once_from ports gs placed.1.1 (single_tail target_text a gs once))

settled_by : (b : Bool) → (b ≡ false → ⊥) → b ≡ true
settled_by true h = refl
settled_by false h = absurd (h refl)

inputs_from_sound : (top : List ℕ) (f : GateFile) → IsSound top f → Single name_of (ports_of f) → (a : Assignment) → Contains f.assignments a → (terms : List Term) → ((t : Term) → Contains terms t → Contains a.terms t) → AllInputs (ports_of f) terms
inputs_from_sound top f sound once a ca [] up = tt
inputs_from_sound top f sound once a ca (t ∷ terms) up = (one t.operand refl, inputs_from_sound top f sound once a ca terms (λ x c. up x (contains_tail t terms x c)))
  where
    one : (o : Operand) → t.operand ≡ o → HasInput (ports_of f) o
    one low e = tt
    one high e = tt
    one (port i) e = settled_by (is_port true (ports_of f) (net_of (ports_of f) i.text)) (λ n. sound i.at (no_input a t i ca (up t (contains_head t terms)) e (λ h. true≢false (sym (named_way f i.text true once h) ∙ n)) refl))

placed_from : (top : List ℕ) (f : GateFile) → IsSound top f → Single name_of (ports_of f) → (gs : List Assignment) → ((a : Assignment) → Contains gs a → Contains f.assignments a) → AllPlaced (ports_of f) gs
placed_from top f sound once [] up = tt
placed_from top f sound once (a ∷ gs) up = (
  settled_by (is_port false (ports_of f) (target_net (ports_of f) a)) (λ n. sound a.target.at (no_output a (up a (contains_head a gs)) (λ h. true≢false (sym (named_way f a.target.text false once h) ∙ n)) refl)),
  (inputs_from_sound top f sound once a (up a (contains_head a gs)) a.terms (λ t c. c), placed_from top f sound once gs (λ x c. up x (contains_tail a gs x c))),
)

pub sound_gate : (top : List ℕ) (f : GateFile) → IsSound top f → IsSoundGate f
sound_gate top f sound =
    let ports : Single name_of (ports_of f) = λ before after p e c. sound p.ident.at (repeated_port before after p e c refl) in
    let placed = placed_from top f sound ports f.assignments (λ a c. c) in
    record { placed = placed; once = once_from (ports_of f) f.assignments placed (λ before after a e c. sound a.target.at (assigned_again before after a e c refl)) }
