-- The steps through a file, put together.
use Rattle.std.proofs.Common.{◌≡◌, ℕ, true, false, not, List, [], ◌++◌, map, Option, Some, None, refl, sym, ◌∙◌, ap, subst}
use Rattle.std.specs.Option.{is_some}
use Rattle.std.specs.Str.{bytes_eq}
use Rattle.std.proofs.lemmas.List.{append-nil}
use Rattle.vv_gate.specs.Tree.{GateFile, ports_of}
use Rattle.vv_gate_check.specs.declared.names.Names.{Names}
use Rattle.vv_gate_check.specs.Places.{first, place_if, inputs_of, outputs_of, repeated_ports, broken_assignments, broken_places}
use Rattle.vv_gate_check.specs.Names.{inputs_in, outputs_in, IsEmpty, AreSame, Declares, Assigns}
use Rattle.vv_gate_check.proofs.Steps.{first_none}
use Rattle.vv_gate_check.proofs.Assigns.{broken_same, broken_same_inputs}

-- the places after the top's and after the ports'
abbrev pub entity_on : GateFile → List ℕ
entity_on f = place_if (not (bytes_eq f.of.text f.entity.text)) f.of.at ++ broken_assignments (inputs_of (ports_of f)) (outputs_of (ports_of f)) f.assignments

top_holds : (top : List ℕ) (f : GateFile) → bytes_eq top f.entity.text ≡ true → broken_places top f ≡ repeated_ports [] (ports_of f) ++ entity_on f
top_holds top f e = ap (λ b. place_if (not b) 0 ++ (repeated_ports [] (ports_of f) ++ entity_on f)) e

none_before : (f : GateFile) (n m : Names) (place : Option ℕ) → IsEmpty n → Declares (ports_of f) n m place → place ≡ first (repeated_ports [] (ports_of f))
none_before f n m place h d =
    d.place_is ∙ ap (λ l. first (repeated_ports (map (λ k. k.now) l ++ outputs_in n) (ports_of f))) h.0 ∙ ap (λ l. first (repeated_ports (map (λ k. k.now) l) (ports_of f))) h.1

-- a place after the ports
pub found_later : (top : List ℕ) (f : GateFile) (n m : Names) (declared place : Option ℕ) → bytes_eq top f.entity.text ≡ true → IsEmpty n → Declares (ports_of f) n m declared →
    is_some declared ≡ false → place ≡ first (entity_on f) → place ≡ first (broken_places top f)
found_later top f n m (Some at) place e h d s k = cc
found_later top f n m None place e h d s k =
    k ∙ ap (λ l. first (l ++ entity_on f)) (sym (first_none (repeated_ports [] (ports_of f)) (none_before f n m None h d))) ∙ ap first (sym (top_holds top f e))

-- the first place of the assignments
pub found_in_assignments : (f : GateFile) (n m r : Names) (declared place : Option ℕ) → IsEmpty n → Declares (ports_of f) n m declared → is_some declared ≡ false →
    bytes_eq f.of.text f.entity.text ≡ true → Assigns f.assignments m r place → place ≡ first (entity_on f)
found_in_assignments f n m r (Some at) place h d s e a = cc
found_in_assignments f n m r None place h d s e a =
    let inputs = inputs_of (ports_of f) in
    let outputs = outputs_of (ports_of f) in
    let P : List (List ℕ) → Type 0 = λ l. AreSame (inputs_in m) l in
    let Q : List (List ℕ) → Type 0 = λ l. AreSame (outputs_in m) l in
    let no_inputs : inputs ++ inputs_in n ≡ inputs = ap (λ l. inputs ++ map (λ k. k.now) l) h.0 ∙ append-nil inputs in
    let no_outputs : outputs ++ outputs_in n ≡ outputs = ap (λ l. outputs ++ map (λ k. k.now) l) h.1 ∙ append-nil outputs in
    a.place_is
    ∙ ap first (broken_same_inputs (inputs_in m) inputs (outputs_in m) (subst P no_inputs (d.inputs refl)) f.assignments)
    ∙ ap first (broken_same inputs (outputs_in m) outputs (subst Q no_outputs (d.outputs refl)) f.assignments)
    ∙ ap (λ b. first (place_if (not b) f.of.at ++ broken_assignments inputs outputs f.assignments)) (sym e)
