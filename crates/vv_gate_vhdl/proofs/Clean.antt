-- No run meets a range error or a clash where no body does.
use Rattle.std.proofs.Common.{◌≡◌, ℕ, zero, suc, Bool, false, ◌||◌, List, [], ◌∷◌, Option, Some, None, slice_get, slice_set, refl, sym, ap, subst, ◌∙◌}
use Rattle.std.proofs.lemmas.Bool.{or_parts, or_from}
use Rattle.vv_bits.specs.declared.nine.S9.{S9}
use Rattle.vv_gate.specs.Tree.{GateFile, ports_of}
use Rattle.vv_cycle.specs.Processes.{Nets, Value, Ran, Process, Design, Part}
use Rattle.vv_cycle.specs.Turns.{VState, part_after, with_part, resume_at, update, new_values, changes, readied, any_clash, Turn, Resume, Update, turn, after_turns, IsClean}
use Rattle.vv_cycle.specs.Rows.{first_parts, power_on, Entry, entered, row, after_rows, VhdlRun, end_of}
use Rattle.vv_cycle.proofs.Bound.{some_eq, none_eq}
use Rattle.vv_gate_vhdl.specs.Design.{gate_design, assigned_value}
use Rattle.vv_gate_vhdl.proofs.Ranks.{gate_at}

clean_set : (parts : List Part) (i : ℕ) (q : Part) → any_clash parts ≡ false → q.clash ≡ false → any_clash (slice_set parts i q) ≡ false
clean_set [] i q h c = refl
clean_set (x ∷ parts) zero q h c = or_from q.clash (any_clash parts) c (or_parts x.clash (any_clash parts) h).1
clean_set (x ∷ parts) (suc i) q h c = or_from x.clash (any_clash (slice_set parts i q)) (or_parts x.clash (any_clash parts) h).0 (clean_set parts i q (or_parts x.clash (any_clash parts) h).1 c)

clean_get : (parts : List Part) (i : ℕ) (q : Part) → any_clash parts ≡ false → slice_get parts i ≡ Some q → q.clash ≡ false
clean_get [] i q h e = absurd (none_eq q e)
clean_get (x ∷ parts) zero q h e = ap (λ (o : Part). o.clash) (sym (some_eq x q e)) ∙ (or_parts x.clash (any_clash parts) h).0
clean_get (x ∷ parts) (suc i) q h e = clean_get parts i q (or_parts x.clash (any_clash parts) h).1 e

pub clean_readied : (ps : List Process) (events : List Bool) (parts : List Part) → any_clash (readied ps events parts) ≡ any_clash parts
clean_readied [] events parts = refl
clean_readied (p ∷ ps) events [] = refl
clean_readied (p ∷ ps) events (x ∷ parts) = ap (λ b. x.clash || b) (clean_readied ps events parts)

pub clean_first : (ps : List Process) → any_clash (first_parts ps) ≡ false
clean_first [] = refl
clean_first (p ∷ ps) = clean_first ps

-- each run of a body leaves something, without a clash
pub record Ends (o : Option Ran) : Type 0 where
  pub r : Ran
  pub is : o ≡ Some r
  pub clean : r.clash ≡ false

abbrev pub Quiet : Design → Type 0
Quiet d = (i : ℕ) (p : Process) → slice_get d.processes i ≡ Some p → (nets : Nets) (drivers : List S9) (variables : List Value) → Ends (p.body nets drivers variables)

record Next (o : Option VState) : Type 0 where
  t : VState
  is : o ≡ Some t
  clean : any_clash t.parts ≡ false

resume_clean : (d : Design) → Quiet d → (s : VState) (i : ℕ) (op : Option Process) (oq : Option Part) → slice_get d.processes i ≡ op → slice_get s.parts i ≡ oq → any_clash s.parts ≡ false → Next (resume_at s i op oq)
resume_clean d quiet s i None oq hp hq h = record { t = s; is = refl; clean = h }
resume_clean d quiet s i (Some p) None hp hq h = record { t = s; is = refl; clean = h }
resume_clean d quiet s i (Some p) (Some q) hp hq h =
    let r = quiet i p hp s.nets q.drivers q.variables in
    record { t = _; is = ap (λ o. with_part s i (part_after q o)) r.is; clean = clean_set s.parts i _ h (or_from q.clash r.r.clash (clean_get s.parts i q h hq) r.clean) }

turn_clean : (d : Design) → Quiet d → (s : VState) (u : Turn) → any_clash s.parts ≡ false → Next (turn d s u)
turn_clean d quiet s (Resume i) h = resume_clean d quiet s i (slice_get d.processes i) (slice_get s.parts i) refl refl h
turn_clean d quiet s Update h = record { t = update d s; is = refl; clean = clean_readied d.processes (changes s.nets.values (new_values d s)) s.parts ∙ h }

pub turns_clean : (d : Design) → Quiet d → (s : VState) (ts : List Turn) → any_clash s.parts ≡ false → IsClean (after_turns d (Some s) ts)
turns_clean d quiet s [] h = h
turns_clean d quiet s (u ∷ ts) h = let n = turn_clean d quiet s u h in subst (λ o. IsClean (after_turns d o ts)) (sym n.is) (turns_clean d quiet n.t ts n.clean)

rows_clean : (d : Design) → Quiet d → (o : Option VState) (rows : List (List Entry)) (orders : List (List Turn)) → IsClean o → IsClean (after_rows d o rows orders)
rows_clean d quiet None rows orders h = absurd h
rows_clean d quiet (Some s) [] orders h = h
rows_clean d quiet (Some s) (es ∷ rows) [] h = h
rows_clean d quiet (Some s) (es ∷ rows) (ts ∷ orders) h =
    rows_clean d quiet (after_turns d (Some (row d s es)) ts) rows orders (turns_clean d quiet (row d s es) ts (clean_readied d.processes (changes s.nets.values (entered d es s.nets.values)) s.parts ∙ h))

pub gate_quiet : (f : GateFile) → Quiet (gate_design f)
gate_quiet f i p hp nets drivers variables =
    let g = gate_at (ports_of f) f.assignments i p hp in
    record { r = record { drivers = assigned_value (ports_of f) g.a nets.values ∷ []; variables = []; clash = false }; is = ap (λ (o : Process). o.body nets drivers variables) g.is; clean = refl }

pub gate_never_stops : (f : GateFile) (rows : List (List Entry)) (run : VhdlRun (gate_design f) rows) → IsClean (end_of (gate_design f) rows run)
gate_never_stops f rows run =
    rows_clean (gate_design f) (gate_quiet f) (after_turns (gate_design f) (Some (power_on (gate_design f))) run.first) rows run.later (turns_clean (gate_design f) (gate_quiet f) (power_on (gate_design f)) run.first (clean_first (gate_design f).processes))
