-- The laws in the form of their contracts.
use Rattle.std.proofs.Common.{◌≡◌, ℕ, ◌<◌, zero, suc, nat_eq, Bool, true, false, not, ◌||◌, cond, List, [], ◌∷◌, map, get_or, Contains, Some, slice_get, ⊎_elim, refl, sym, ap, subst, ◌∙◌, arith, true≢false, eqb-true, eq-eqb}
use Rattle.std.proofs.lemmas.Bool.{cases_Bool}
use Rattle.std.proofs.lemmas.Option.{slice_get-get_or}
use Rattle.std.specs.List.{HoldsAt}
use Rattle.vv_bits.specs.declared.nine.S9.{S9}
use Rattle.vv_bits.specs.declared.four.V4.{V4}
use Rattle.vv_bits.specs.Four.{abs_rule}
use Rattle.vv_vast.specs.Flat.{Flat, IsFlat, FlatDesign}
use Rattle.vv_vast.specs.Tree as vast
use Rattle.vv_gate.specs.Tree.{Assignment, GateFile, Port, ports_of}
use Rattle.vv_gate.specs.Conditions.{IsSound}
use Rattle.vv_cycle.proofs.Bound.{some_eq, none_eq}
use Rattle.vv_cycle.specs.Turns.{after_turns}
use Rattle.vv_cycle.specs.Rows.{Entry, LawfulRows, VhdlRun, end_of, power_on}
use Rattle.vv_gate_vhdl.specs.Design.{net_of, is_port, target_net, gate_design, is_assigned, assigned_value, output_among, OnceAssigned, IsSoundGate}
use Rattle.vv_gate_vhdl.proofs.Ranks.{placed_at, gate_run_ends}
use Rattle.vv_gate_vhdl.proofs.Sound.{sound_gate}
use Rattle.vv_gate_verilog.specs.Events.{start_of, after, bit_value, expressions_for, IsOutput}
use Rattle.vv_gate_text.specs.Made.{made_port, direction_of, module_of}
use Rattle.vv_gate_agree.specs.Agreement.{InputsAgree}
use Rattle.vv_gate_agree.specs.Runs.{rows4, VerilogRun, verilog_end, AgreeIn, AgreeAfter}
use Rattle.vv_gate_agree.proofs.Driven.{driver}
use Rattle.vv_gate_agree.proofs.Rows.{runs_agree, verilog_runs}

-- ---- numbers

pub same_objects : (f : GateFile) (flat : Flat) → IsFlat (module_of f) flat → flat.objects ≡ map made_port (ports_of f)
same_objects f flat stands = stands.objects

holds_output : (ports : List Port) (k : ℕ) → is_port false ports k ≡ true → HoldsAt (λ p. p.direction ≡ vast.output) (map made_port ports) k
holds_output [] k h = absurd (true≢false (sym h))
holds_output (p ∷ ports) zero h = λ d. out p.input h
  where
    out : (b : Bool) → not b ≡ true → direction_of b ≡ vast.output
    out true e = absurd (true≢false (sym e))
    out false e = refl
holds_output (p ∷ ports) (suc k) h = holds_output ports k h

pub is_output : (f : GateFile) (flat : Flat) → IsFlat (module_of f) flat → (k : ℕ) → is_port false (ports_of f) k ≡ true → IsOutput flat k
is_output f flat stands k h = subst (λ os. HoldsAt (λ p. p.direction ≡ vast.output) os k) (sym stands.objects) (holds_output (ports_of f) k h)

-- ---- items

pub one_item : (f : GateFile) (flat : Flat) → IsSoundGate f → IsFlat (module_of f) flat → (k : ℕ) → is_port false (ports_of f) k ≡ true → (e : vast.Expr ℕ) × (expressions_for flat.items k ≡ e ∷ []) × ((values : List S9) (bits : List V4) → InputsAgree f values bits → bit_value e bits ≡ abs_rule (output_among (ports_of f) f.assignments values k))
one_item f flat sound stands k h = let g = driver f flat sound stands k h in (g.e, g.alone, g.value)

assigned_at : (ports : List Port) (gs : List Assignment) (i : ℕ) (a : Assignment) → slice_get gs i ≡ Some a → is_assigned ports gs (target_net ports a) ≡ true
assigned_at ports [] i a h = absurd (none_eq a h)
assigned_at ports (b ∷ gs) zero a h = ap (λ c. c || is_assigned ports gs (target_net ports a)) (eq-eqb (target_net ports b) (target_net ports a) (ap (target_net ports) (some_eq b a h)))
assigned_at ports (b ∷ gs) (suc i) a h = either (nat_eq (target_net ports b) (target_net ports a)) (is_assigned ports gs (target_net ports a)) (assigned_at ports gs i a h)
  where
    either : (x y : Bool) → y ≡ true → (x || y) ≡ true
    either true y e = refl
    either false y e = e

output_of : (ports : List Port) (gs : List Assignment) (values : List S9) (i : ℕ) (a : Assignment) → OnceAssigned ports gs → slice_get gs i ≡ Some a → output_among ports gs values (target_net ports a) ≡ assigned_value ports a values
output_of ports [] values i a once h = absurd (none_eq a h)
output_of ports (b ∷ gs) values zero a once h =
    ap (λ c. cond c (assigned_value ports b values) (output_among ports gs values (target_net ports a))) (eq-eqb (target_net ports b) (target_net ports a) (ap (target_net ports) (some_eq b a h)))
    ∙ ap (λ (x : Assignment). assigned_value ports x values) (some_eq b a h)
output_of ports (b ∷ gs) values (suc i) a once h =
    ⊎_elim
    (λ y. absurd (true≢false (sym (ap (is_assigned ports gs) (eqb-true (target_net ports b) (target_net ports a) y) ∙ assigned_at ports gs i a h) ∙ once.0)))
    (λ n. ap (λ c. cond c (assigned_value ports b values) (output_among ports gs values (target_net ports a))) n ∙ output_of ports gs values i a once.1 h)
    (cases_Bool (nat_eq (target_net ports b) (target_net ports a)))

pub assigned_item : (f : GateFile) (flat : Flat) → IsSoundGate f → IsFlat (module_of f) flat → (a : Assignment) → Contains f.assignments a → (e : vast.Expr ℕ) × (expressions_for flat.items (net_of (ports_of f) a.target.text) ≡ e ∷ []) × ((values : List S9) (bits : List V4) → InputsAgree f values bits → bit_value e bits ≡ abs_rule (assigned_value (ports_of f) a values))
assigned_item f flat sound stands a c =
    let here : slice_get f.assignments c.0 ≡ Some a = slice_get-get_or f.assignments c.0 a c.1 ∙ ap Some c.2 in
    let g = driver f flat sound stands (target_net (ports_of f) a) (placed_at (ports_of f) f.assignments c.0 a sound.placed here).0 in
    (g.e, g.alone, λ values bits agree. g.value values bits agree ∙ ap abs_rule (output_of (ports_of f) f.assignments values c.0 a sound.once here))

-- ---- the text's design

among_one : (m found : vast.Module) → Contains (m ∷ []) found → m ≡ found
among_one m found c = go c.0 c.1 c.2
  where
    go : (k : ℕ) → k < 1 → get_or (m ∷ []) k found ≡ found → m ≡ found
    go zero l e = e
    go (suc k) l e = absurd (omega arith)

pub text_stands : (name : List ℕ) (f : GateFile) (flat : Flat) → FlatDesign (module_of f ∷ []) name flat → IsFlat (module_of f) flat
text_stands name f flat design = subst (λ m. IsFlat m flat) (sym (among_one (module_of f) design.found design.among)) design.stands

pub text_agrees : (top name : List ℕ) (f : GateFile) (flat : Flat) → IsSound top f → FlatDesign (module_of f ∷ []) name flat → (rows : List (List Entry)) (run : VhdlRun (gate_design f) rows) (verilog : VerilogRun flat (rows4 f rows)) → LawfulRows (gate_design f) rows → AgreeIn f (after_turns (gate_design f) (Some (power_on (gate_design f))) run.first) (after flat (start_of flat) verilog.first) × (AgreeAfter f flat (after_turns (gate_design f) (Some (power_on (gate_design f))) run.first) (after flat (start_of flat) verilog.first) rows run.later verilog.later × AgreeIn f (end_of (gate_design f) rows run) (verilog_end flat (rows4 f rows) verilog))
text_agrees top name f flat sound design rows run verilog lawful = runs_agree f flat (sound_gate top f sound) (text_stands name f flat design) design.acyclic rows run verilog lawful

pub text_runs : (top name : List ℕ) (f : GateFile) (flat : Flat) → IsSound top f → FlatDesign (module_of f ∷ []) name flat → (rows : List (List Entry)) → LawfulRows (gate_design f) rows → VhdlRun (gate_design f) rows × VerilogRun flat (rows4 f rows)
text_runs top name f flat sound design rows lawful =
    ((gate_run_ends f rows (sound_gate top f sound) lawful).run, verilog_runs f flat (sound_gate top f sound) (text_stands name f flat design) design.acyclic rows)
