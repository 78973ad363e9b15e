-- The items of a sound file's module read inputs and drive outputs, and no two ports have one name.
use Rattle.std.proofs.Common.{◌≡◌, ℕ, ◌<◌, ◌+◌, Bool, true, false, cond, List, [], ◌∷◌, ◌++◌, map, length, get_or, take, drop, refl, sym, ap, ◌∙◌, arith}
use Rattle.std.proofs.Math.ListN.{get_or-map}
use Rattle.std.proofs.lemmas.List.{length-map, length-take-le, get_or-take, take-append-drop, drop_more}
use Rattle.std.proofs.lemmas.List.Elements.{All-from_recursion}
use Rattle.std.proofs.lemmas.List.Folds.{Any-from_list_any, list_any-from_Any}
use Rattle.std.proofs.lemmas.Slice.Eq.{bytes_eq-Decides}
use Rattle.std.specs.List.{list_any, AllByRecursion}
use Rattle.std.specs.Prelude.{Contains, filter, not, ◌&&◌}
use Rattle.std.specs.Str.{bytes_eq}
use Rattle.vv_gate.specs.Conditions.{name_of, IsPort, repeated_port, no_output, no_input, IsSound}
use Rattle.vv_gate.specs.Tree.{Ident, Port, Operand, low, high, port, Term, Assignment, GateFile, ports_of}
use Rattle.vv_gate.specs.Whole.{IsName, IsPlaced, idents_of_operand, idents_of_term}
use Rattle.vv_gate_text.proofs.Elements.{each_both, each_of_map, each_of_flat_map, each_contained}
use Rattle.vv_gate_text.proofs.Flattened.{get_or_of_map, port_names, Has, Fits, flat_design}
use Rattle.vv_gate_text.proofs.Legal.{NamedPort, ports_named}
use Rattle.vv_gate_text.proofs.Mangling.{mangled_injective}
use Rattle.vv_gate_text.proofs.ReadNames.{OfIdent, reads_terms}
use Rattle.vv_gate_text.specs.Made.{binary_of, made_assignment, made_idle, made_port, direction_of, is_idle, module_of}
use Rattle.vv_gate_text.specs.Names.{mangled}
use Rattle.vv_vast.specs.Flat.{Flat, IsDistinct, FlatDesign}
use Rattle.vv_vast.specs.Tree as tree

no_true : false ≡ true → ⊥
no_true e = cc

-- whether a port has this direction and name
same_way : Bool → Bool → Bool
same_way true b = b
same_way false b = not b

same_way_is : (a b : Bool) → same_way a b ≡ true → b ≡ a
unfolding same_way
same_way_is true b e = e
same_way_is false true e = absurd (no_true e)
same_way_is false false e = refl

is_same_way : (a b : Bool) → b ≡ a → same_way a b ≡ true
unfolding same_way
is_same_way true b e = e
is_same_way false true e = absurd (no_true (sym e))
is_same_way false false e = refl

is_port : Bool → List ℕ → Port → Bool
is_port way text p = same_way way p.input && bytes_eq p.ident.text text

both-left : (a b : Bool) → (a && b) ≡ true → a ≡ true
both-left true b e = refl
both-left false b e = absurd (no_true e)

both-right : (a b : Bool) → (a && b) ≡ true → b ≡ true
both-right true b e = e
both-right false b e = absurd (no_true e)

-- a port that isn't lacking is there
present : (way : Bool) (f : GateFile) (text : List ℕ) → ((IsPort way f text → ⊥) → ⊥) → IsPort way f text
unfolding is_port
present way f text h = by_test (list_any (is_port way text) (ports_of f)) refl
  where
    by_test : (b : Bool) → list_any (is_port way text) (ports_of f) ≡ b → IsPort way f text
    by_test true e =
        let a = Any-from_list_any (is_port way text) (ports_of f) e in (
          a.1,
          (a.0, a.2, a.3),
          same_way_is way a.1.input (both-left (same_way way a.1.input) (bytes_eq a.1.ident.text text) a.4),
          (bytes_eq-Decides a.1.ident.text text).0 (both-right (same_way way a.1.input) (bytes_eq a.1.ident.text text) a.4),
        )
    by_test false e =
        absurd (h (λ q. no_true (sym e ∙ list_any-from_Any (is_port way text) (ports_of f) (
          q.1.0,
          q.0,
          q.1.1,
          q.1.2,
          ap (λ b. b && bytes_eq q.0.ident.text text) (is_same_way way q.0.input q.2) ∙ (bytes_eq-Decides q.0.ident.text text).1 q.3,
        ))))

contains_map : {X Y : Type 0} (g : X → Y) (xs : List X) (x : X) → Contains xs x → Contains (map g xs) (g x)
contains_map g xs x h = (h.0, rw length-map h.1, get_or-map g xs h.0 x ∙ ap g h.2)

each_kept : {X : Type 0} (P : X → Type 0) (p : X → Bool) (xs : List X) → AllByRecursion (λ x. p x ≡ true → P x) xs → AllByRecursion P (filter p xs)
each_kept P p [] h = tt
each_kept P p (x ∷ xs) h = kept P (p x) x (filter p xs) h.0 (each_kept P p xs h.1)
  where
    kept : {X : Type 0} (P : X → Type 0) (b : Bool) (x : X) (xs : List X) → (b ≡ true → P x) → AllByRecursion P xs → AllByRecursion P (cond b (x ∷ xs) xs)
    kept P true x xs h k = (h refl, k)
    kept P false x xs h k = k

module _ (top : List ℕ) (f : GateFile) (placed : IsPlaced f) (sound : IsSound top f) where
  has : (way : Bool) (text : List ℕ) → IsPort way f text → Has (direction_of way) (map made_port (ports_of f)) (mangled text)
  has way text h = (made_port h.0, contains_map made_port (ports_of f) h.0 h.1, ap direction_of h.2, ap mangled h.3)

  is_output : (a : Assignment) → Contains f.assignments a → IsPort false f a.target.text
  is_output a h = present false f a.target.text (λ n. sound a.target.at (no_output a h n refl))

  is_input : (a : Assignment) (t : Term) (i : Ident) → Contains f.assignments a → Contains a.terms t → t.operand ≡ port i → IsPort true f i.text
  is_input a t i h k e = present true f i.text (λ n. sound i.at (no_input a t i h k e n refl))

  abbrev Reading : List ℕ → Type 0
  Reading = Has tree.input (map made_port (ports_of f))

  operand_reads : (a : Assignment) (t : Term) (x : Operand) → Contains f.assignments a → Contains a.terms t → t.operand ≡ x → AllByRecursion (OfIdent Reading) (idents_of_operand x)
  operand_reads a t low h k e = tt
  operand_reads a t high h k e = tt
  operand_reads a t (port i) h k e = (has true i.text (is_input a t i h k e), tt)

  assignment_fits : (a : Assignment) → Contains f.assignments a → Fits (map made_port (ports_of f)) (made_assignment a)
  assignment_fits a h = (
    has false a.target.text (is_output a h),
    reads_terms Reading (binary_of a.operator) a.terms
        (each_of_flat_map (OfIdent Reading) idents_of_term a.terms
        (each_contained (λ t. AllByRecursion (OfIdent Reading) (idents_of_term t)) a.terms (λ t k. operand_reads a t t.operand h k refl))),
  )

  idle_fits : (p : Port) → Contains (ports_of f) p → is_idle f p ≡ true → Fits (map made_port (ports_of f)) (made_idle p)
  idle_fits p h e = (has false p.ident.text (p, h, not_input p.input (both-left (not p.input) _ e), refl), tt)
    where
      not_input : (b : Bool) → not b ≡ true → b ≡ false
      not_input true e = absurd (no_true e)
      not_input false e = refl

  all_fit : AllByRecursion (Fits (map made_port (ports_of f))) (module_of f).items
  all_fit =
      each_both (Fits (map made_port (ports_of f))) (map made_assignment f.assignments) (map made_idle (filter (is_idle f) (ports_of f)))
      (each_of_map (Fits (map made_port (ports_of f))) made_assignment f.assignments
      (each_contained (λ a. Fits (map made_port (ports_of f)) (made_assignment a)) f.assignments assignment_fits))
      (each_of_map (Fits (map made_port (ports_of f))) made_idle (filter (is_idle f) (ports_of f))
      (each_kept (λ p. Fits (map made_port (ports_of f)) (made_idle p)) (is_idle f) (ports_of f)
      (each_contained (λ p. is_idle f p ≡ true → Fits (map made_port (ports_of f)) (made_idle p)) (ports_of f) idle_fits)))

  abbrev no_port : Port
  no_port = record { ident = record { text = []; at = 0 }; input = false }

  port_named : (k : ℕ) → k < length (ports_of f) → IsName (get_or (ports_of f) k no_port).ident.text
  port_named k h = All-from_recursion NamedPort (ports_of f) (ports_named f placed) k no_port h

  name_is : (k : ℕ) (d : List ℕ) → k < length (ports_of f) → get_or (port_names (map made_port (ports_of f))) k d ≡ mangled (get_or (ports_of f) k no_port).ident.text
  name_is k d h =
      get_or_of_map (λ (p : tree.Port). p.name) (map made_port (ports_of f)) k (made_port no_port) d (rw length-map h)
      ∙ ap (λ (p : tree.Port). p.name) (get_or_of_map made_port (ports_of f) k no_port (made_port no_port) h)

  not_again : (i j : ℕ) → i < j → j < length (ports_of f) → (get_or (ports_of f) i no_port).ident.text ≡ (get_or (ports_of f) j no_port).ident.text → ⊥
  not_again i j l m e =
      let ports = ports_of f in
      let p = get_or (ports_of f) j no_port in
      let split : ports_of f ≡ take j (ports_of f) ++ (p ∷ drop (j + 1) (ports_of f)) =
      sym (take-append-drop j (ports_of f)) ∙ ap (λ r. take j (ports_of f) ++ r) (drop_more (ports_of f) j no_port m) in
      let some : i < length (take j (ports_of f)) = omega (arith, length-take-le j (ports_of f) (omega arith)) in
      let earlier : Contains (map name_of (take j (ports_of f))) p.ident.text =
      (i, rw length-map some, get_or_of_map name_of (take j (ports_of f)) i no_port p.ident.text some ∙ (ap name_of (get_or-take j (ports_of f) i no_port l) ∙ e)) in
      sound p.ident.at (repeated_port (take j (ports_of f)) (drop (j + 1) (ports_of f)) p split earlier refl)

  distinct : IsDistinct (port_names (map made_port (ports_of f)))
  distinct = λ i j d l m e.
      let within : j < length (ports_of f) = simp length-map at m in
      let first : i < length (ports_of f) = omega arith in
      not_again i j l within (mangled_injective _ _ (port_named i first) (port_named j within) (sym (name_is i d first) ∙ (e ∙ name_is j d within)))

  pub sound_flat : (flat : Flat) × FlatDesign (module_of f ∷ []) (mangled f.entity.text) flat
  sound_flat = flat_design (module_of f) distinct all_fit
