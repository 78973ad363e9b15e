-- What the nets of a sound file hold in settled states.
use Rattle.std.proofs.Common.{◌≡◌, ℕ, zero, suc, ◌<◌, Bool, true, false, not, cond, List, [], ◌∷◌, ◌++◌, map, length, Option, Some, None, slice_get, slice_set, refl, sym, ap, subst, ◌∙◌, arith, true≢false, length-set}
use Rattle.std.proofs.lemmas.Bool.{or_parts}
use Rattle.vv_bits.specs.declared.nine.S9.{S9}
use Rattle.vv_bits.specs.declared.nine.S9.TheVariants.{U}
use Rattle.vv_bits.specs.Nine.{same}
use Rattle.vv_bits.specs.Resolution.{resolve_rule}
use Rattle.vv_bits.proofs.Finite.{same_law}
use Rattle.vv_gate.specs.Tree.{Assignment, GateFile, Port, ports_of}
use Rattle.vv_cycle.specs.Processes.{Process, Input, Part, Design, at, pick, constants_of, sources_of}
use Rattle.vv_cycle.specs.Turns.{VState, part_after, with_part, resume_at, new_values, changes, any_true, IsSettled, Turn, Resume, Update, CanTurns, turn, after_turns}
use Rattle.vv_cycle.specs.Ranks.{SameInputs}
use Rattle.vv_cycle.specs.Rows.{power_on, Entry, put, put_input, entered, InRun, Turned}
use Rattle.vv_cycle.proofs.Bound.{some_eq, none_eq, ready_none, new_at, resolutions_length, update_inputs}
use Rattle.vv_cycle.proofs.Runs.{Fine, power_fine, order_fine, row_fine, run_kept, in_run}
use Rattle.vv_gate_vhdl.specs.Design.{is_port, target_net, output_value, gate_process, gate_design, is_assigned, undriven, IsSoundGate, gate_rank, none_held, give_of, gate_give}
use Rattle.vv_gate_vhdl.proofs.Ranks.{gate_ranked}
use Rattle.vv_gate_vhdl.proofs.Sources.{drivers_are, one_source, has_one, has_none}

-- ---- what holds in a run

pub fine_run : (f : GateFile) → IsSoundGate f → (s : VState) → InRun (gate_design f) s → Fine (gate_design f) (InRun (gate_design f)) none_held (gate_give f) s
fine_run f sound s r =
    in_run (gate_design f) (Fine (gate_design f) (InRun (gate_design f)) none_held (gate_give f)) (power_fine (gate_design f) none_held (gate_give f))
    (λ a b u h can to. order_fine (gate_design f) (InRun (gate_design f)) (gate_rank f) 2 none_held (gate_give f) a (u ∷ []) (gate_ranked f sound) (run_kept (gate_design f)) h (can, tt) b (ap (λ o. after_turns (gate_design f) o []) to))
    (λ a es h end lawful. row_fine (gate_design f) (gate_rank f) 2 none_held (gate_give f) a es (gate_ranked f sound) h end lawful)
    s r

-- a turn keeps the number of nets
turn_length : (d : Design) (s t : VState) (u : Turn) → turn d s u ≡ Some t → length t.nets.values ≡ length s.nets.values
turn_length d s t (Resume i) to = go (slice_get d.processes i) (slice_get s.parts i) to
  where
    ran : (o : Option Part) → with_part s i o ≡ Some t → length t.nets.values ≡ length s.nets.values
    ran None e = absurd (none_eq t e)
    ran (Some q) e = ap (λ (x : VState). length x.nets.values) (sym (some_eq _ t e))

    go : (op : Option Process) (oq : Option Part) → resume_at s i op oq ≡ Some t → length t.nets.values ≡ length s.nets.values
    go None oq e = ap (λ (x : VState). length x.nets.values) (sym (some_eq s t e))
    go (Some p) None e = ap (λ (x : VState). length x.nets.values) (sym (some_eq s t e))
    go (Some p) (Some q) e = ran (part_after q (p.body s.nets q.drivers q.variables)) e
turn_length d s t Update to = ap (λ (x : VState). length x.nets.values) (sym (some_eq _ t to)) ∙ resolutions_length d s.parts 0 s.nets.values

put_length : (ns : List ℕ) (bits values : List S9) → length (put ns bits values) ≡ length values
put_length [] bits values = refl
put_length (n ∷ ns) [] values = refl
put_length (n ∷ ns) (b ∷ bits) values = put_length ns bits (slice_set values n b) ∙ length-set values n b

pub put_input_length : (o : Option Input) (bits values : List S9) → length (put_input o bits values) ≡ length values
put_input_length None bits values = refl
put_input_length (Some i) bits values = put_length i.nets bits values

entered_length : (d : Design) (es : List Entry) (values : List S9) → length (entered d es values) ≡ length values
entered_length d [] values = refl
entered_length d (e ∷ es) values = entered_length d es (put_input (slice_get d.inputs e.input) e.bits values) ∙ put_input_length (slice_get d.inputs e.input) e.bits values

pub run_length : (d : Design) (s : VState) → InRun d s → length s.nets.values ≡ length d.initial
run_length d s r =
    in_run d (λ x. length x.nets.values ≡ length d.initial) (resolutions_length d (power_on d).parts 0 d.initial)
    (λ a b u h can to. turn_length d a b u to ∙ h)
    (λ a es h end lawful. entered_length d es a.nets.values ∙ h)
    s r

-- ---- the out ports

no_change : (vs ws : List S9) → length vs ≡ length ws → any_true (changes vs ws) ≡ false → vs ≡ ws
no_change [] [] len h = refl
no_change [] (w ∷ ws) len h = absurd (omega arith)
no_change (v ∷ vs) [] len h = absurd (omega arith)
no_change (v ∷ vs) (w ∷ ws) len h =
    let p = or_parts (not (same v w)) (any_true (changes vs ws)) h in
    ap (λ (x : S9). x ∷ vs) (same_law v w (yes (same v w) p.0)) ∙ ap (λ (xs : List S9). w ∷ xs) (no_change vs ws (omega arith) p.1)
  where
    yes : (b : Bool) → not b ≡ false → b ≡ true
    yes true e = refl
    yes false e = absurd (true≢false e)

pub within : (b : Bool) (ports : List Port) (k : ℕ) → is_port b ports k ≡ true → k < length ports
within b [] k h = absurd (true≢false (sym h))
within b (p ∷ ports) zero h = omega arith
within b (p ∷ ports) (suc k) h = let l : k < length ports = within b ports k h in omega arith

pub initial_length : (ports : List Port) → length (map {B = S9} (λ p. U) ports) ≡ length ports
initial_length [] = refl
initial_length (p ∷ ports) = ap suc (initial_length ports)

count : (ports : List Port) (gs : List Assignment) → length (map (gate_process ports) gs) ≡ length gs
count ports [] = refl
count ports (a ∷ gs) = ap suc (count ports gs)

get_process : (ports : List Port) (gs : List Assignment) (i : ℕ) (a : Assignment) → slice_get gs i ≡ Some a → slice_get (map (gate_process ports) gs) i ≡ Some (gate_process ports a)
get_process ports [] i a h = absurd (none_eq a h)
get_process ports (x ∷ gs) zero a h = ap (λ (y : Assignment). Some (gate_process ports y)) (some_eq x a h)
get_process ports (x ∷ gs) (suc i) a h = get_process ports gs i a h

-- an out port holds its assignment's value in each settled state
pub out_holds : (f : GateFile) (t : VState) → IsSoundGate f → InRun (gate_design f) t → IsSettled (gate_design f) t → (k : ℕ) → is_port false (ports_of f) k ≡ true → at t.nets.values k ≡ output_value f t.nets.values k
out_holds f t sound r end k h =
    ap (λ (vs : List S9). at vs k) same_values
    ∙ (new_at (gate_design f) t k inside
    ∙ (ap (λ b. cond b (resolve_rule (sources_of (gate_design f) t.parts k)) (at t.nets.values k)) (has_one (ports_of f) f.assignments k h)
    ∙ ap resolve_rule sources))
  where
    fine : Fine (gate_design f) (InRun (gate_design f)) none_held (gate_give f) t
    fine = fine_run f sound t r

    same_values : t.nets.values ≡ new_values (gate_design f) t
    same_values = no_change t.nets.values (new_values (gate_design f) t) (sym (resolutions_length (gate_design f) t.parts 0 t.nets.values)) end.1

    inside : k < length t.nets.values
    inside = subst (λ n. k < n) (sym (run_length (gate_design f) t r ∙ initial_length (ports_of f))) (within false (ports_of f) k h)

    each : (i : ℕ) (a : Assignment) (q : Part) → slice_get f.assignments i ≡ Some a → slice_get t.parts i ≡ Some q → pick (target_net (ports_of f) a ∷ []) q.drivers k ≡ give_of (ports_of f) (Some a) k t.nets.values
    each i a q ha hq = fine.rested.each i (gate_process (ports_of f) a) q k refl (get_process (ports_of f) f.assignments i a ha) hq (ready_none t.parts i q end.0 hq) ∙ ap (λ o. give_of (ports_of f) o k t.nets.values) ha

    sources : sources_of (gate_design f) t.parts k ≡ output_value f t.nets.values k ∷ []
    sources =
        ap (λ (vs : List S9). vs ++ constants_of (undriven (is_assigned (ports_of f) f.assignments) (ports_of f) 0) k) (drivers_are (ports_of f) f.assignments t.parts t.nets.values k (fine.parts ∙ count (ports_of f) f.assignments) each)
        ∙ one_source (ports_of f) f.assignments t.nets.values k sound.once h

-- ---- the in ports

-- turns change no net without a source
turn_inputs : (d : Design) (s t : VState) (u : Turn) → turn d s u ≡ Some t → SameInputs d s.nets.values t.nets.values
turn_inputs d s t (Resume i) to k non = go (slice_get d.processes i) (slice_get s.parts i) to
  where
    ran : (o : Option Part) → with_part s i o ≡ Some t → at s.nets.values k ≡ at t.nets.values k
    ran None e = absurd (none_eq t e)
    ran (Some q) e = ap (λ (x : VState). at x.nets.values k) (some_eq _ t e)

    go : (op : Option Process) (oq : Option Part) → resume_at s i op oq ≡ Some t → at s.nets.values k ≡ at t.nets.values k
    go None oq e = ap (λ (x : VState). at x.nets.values k) (some_eq s t e)
    go (Some p) None e = ap (λ (x : VState). at x.nets.values k) (some_eq s t e)
    go (Some p) (Some q) e = ran (part_after q (p.body s.nets q.drivers q.variables)) e
turn_inputs d s t Update to k non = update_inputs d s k non ∙ ap (λ (x : VState). at x.nets.values k) (some_eq _ t to)

-- what turns from a state of a run end in
pub record Later (d : Design) (s t : VState) : Type 0 where
  pub run : InRun d t
  pub inputs : SameInputs d s.nets.values t.nets.values

pub later : (d : Design) (s : VState) (ts : List Turn) (t : VState) → InRun d s → CanTurns d (Some s) ts → after_turns d (Some s) ts ≡ Some t → Later d s t
later d s [] t r can to = record { run = subst (InRun d) (some_eq s t to) r; inputs = λ k non. ap (λ (x : VState). at x.nets.values k) (some_eq s t to) }
later d s (u ∷ ts) t r can to = go (λ v e c k. later d v ts t (Turned s v u r can.0 e) c k) (turn d s u) refl can.1 to
  where
    go : ((v : VState) → turn d s u ≡ Some v → CanTurns d (Some v) ts → after_turns d (Some v) ts ≡ Some t → Later d v t) → (o : Option VState) → turn d s u ≡ o → CanTurns d o ts → after_turns d o ts ≡ Some t → Later d s t
    go more None e c k = absurd (none_eq t k)
    go more (Some v) e c k = let w = more v e c k in record { run = w.run; inputs = λ n non. turn_inputs d s v u e n non ∙ w.inputs n non }

pub gate_settles : (f : GateFile) (start : VState) (ts : List Turn) (t : VState) → IsSoundGate f → InRun (gate_design f) start → CanTurns (gate_design f) (Some start) ts → after_turns (gate_design f) (Some start) ts ≡ Some t → IsSettled (gate_design f) t → (k : ℕ) → (is_port true (ports_of f) k ≡ true → at t.nets.values k ≡ at start.nets.values k) × (is_port false (ports_of f) k ≡ true → at t.nets.values k ≡ output_value f t.nets.values k)
gate_settles f start ts t sound r can to end k =
    let w = later (gate_design f) start ts t r can to in
    (λ h. sym (w.inputs k (has_none (ports_of f) f.assignments k sound.placed h)), λ h. out_holds f t sound w.run end k h)

-- ---- power-on

initial_at : (ports : List Port) (k : ℕ) → at (map (λ p. U) ports) k ≡ U
initial_at [] k = refl
initial_at (p ∷ ports) zero = refl
initial_at (p ∷ ports) (suc k) = initial_at ports k

pub gate_starts : (f : GateFile) → IsSoundGate f → (k : ℕ) → is_port true (ports_of f) k ≡ true → at (power_on (gate_design f)).nets.values k ≡ U
gate_starts f sound k h =
    sym (update_inputs (gate_design f) before k (has_none (ports_of f) f.assignments k sound.placed h)) ∙ initial_at (ports_of f) k
  where
    before : VState
    before = record { nets = record { values = (gate_design f).initial; before = (gate_design f).initial; events = [] }; parts = (power_on (gate_design f)).parts }
