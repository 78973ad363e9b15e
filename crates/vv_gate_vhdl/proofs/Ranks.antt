-- The ranks of a sound file's design: its in ports lie below its out ports.
use Rattle.std.proofs.Common.{◌≡◌, ℕ, zero, suc, ◌+◌, ◌*◌, ◌<◌, ◌≤◌, nat_eq, Bool, true, false, not, cond, List, [], ◌∷◌, map, length, Some, slice_get, ⊎_elim, refl, sym, ap, subst, ◌∙◌, arith, true≢false, eqb-true, eq-eqb}
use Rattle.std.proofs.lemmas.Bool.{cases_Bool, or_right, or_left}
use Rattle.vv_bits.specs.declared.nine.S9.{S9}
use Rattle.vv_bits.specs.Nine.{not_rule}
use Rattle.vv_gate.specs.Tree.{Operand, low, high, port, Term, Assignment, GateFile, Port, ports_of}
use Rattle.vv_gate.specs.declared.tree.Operator.{Operator}
use Rattle.vv_cycle.specs.Processes.{Ran, Process, Part, at, has, pick}
use Rattle.vv_cycle.specs.Turns.{VState}
use Rattle.vv_cycle.specs.Ranks.{Runs, Ranked, SameInputs, SameSensed}
use Rattle.vv_cycle.specs.Rows.{InRun, Entry, LawfulRows, VhdlRun, OrderedRun, AllShort}
use Rattle.vv_cycle.proofs.Bound.{some_eq, none_eq}
use Rattle.vv_cycle.proofs.Runs.{few_run}
use Rattle.vv_cycle.proofs.Complete.{ordered_run}
use Rattle.vv_gate_vhdl.specs.Design.{is_port, net_of, target_net, operand_nets, term_nets, operand_value, term_value, combine, chain_from, chain_value, assigned_value, gate_process, gate_design, HasInput, AllInputs, AllPlaced, IsSoundGate, gate_rank, none_held, give_of, gate_give}

-- a net isn't both an in port and an out port
pub one_way : (ports : List Port) (k : ℕ) → is_port false ports k ≡ true → is_port true ports k ≡ false
one_way [] k h = refl
one_way (p ∷ ports) zero h = flip p.input h
  where
    flip : (b : Bool) → not b ≡ true → b ≡ false
    flip true e = sym e
    flip false e = refl
one_way (p ∷ ports) (suc k) h = one_way ports k h

-- process number i is that of an assignment
pub record Gate (ports : List Port) (gs : List Assignment) (i : ℕ) (p : Process) : Type 0 where
  pub a : Assignment
  pub from : slice_get gs i ≡ Some a
  pub is : p ≡ gate_process ports a

pub gate_at : (ports : List Port) (gs : List Assignment) (i : ℕ) (p : Process) → slice_get (map (gate_process ports) gs) i ≡ Some p → Gate ports gs i p
gate_at ports [] i p h = absurd (none_eq p h)
gate_at ports (a ∷ gs) zero p h = record { a = a; from = refl; is = sym (some_eq (gate_process ports a) p h) }
gate_at ports (a ∷ gs) (suc i) p h = let r = gate_at ports gs i p h in record { a = r.a; from = r.from; is = r.is }

-- ---- values that agree on the operands

abbrev pub AllAgree : List Port → List S9 → List S9 → List Term → Type 0
AllAgree ports vs ws [] = Unit {0}
AllAgree ports vs ws (t ∷ terms) = (operand_value ports vs t.operand ≡ operand_value ports ws t.operand) × AllAgree ports vs ws terms

term_same : (ports : List Port) (vs ws : List S9) (t : Term) → operand_value ports vs t.operand ≡ operand_value ports ws t.operand → term_value ports vs t ≡ term_value ports ws t
term_same ports vs ws t e = ap (λ (v : S9). cond t.negated (not_rule v) v) e

from_same : (ports : List Port) (o : Operator) (vs ws : List S9) (v w : S9) (terms : List Term) → v ≡ w → AllAgree ports vs ws terms → chain_from ports o v terms vs ≡ chain_from ports o w terms ws
from_same ports o vs ws v w [] e h = e
from_same ports o vs ws v w (t ∷ terms) e h =
    from_same ports o vs ws (combine o v (term_value ports vs t)) (combine o w (term_value ports ws t)) terms (ap (λ (x : S9). combine o x (term_value ports vs t)) e ∙ ap (λ (x : S9). combine o w x) (term_same ports vs ws t h.0)) h.1

chain_same : (ports : List Port) (o : Operator) (vs ws : List S9) (terms : List Term) → AllAgree ports vs ws terms → chain_value ports o terms vs ≡ chain_value ports o terms ws
chain_same ports o vs ws [] h = refl
chain_same ports o vs ws (t ∷ terms) h = from_same ports o vs ws (term_value ports vs t) (term_value ports ws t) terms (term_same ports vs ws t h.0) h.1

agree_inputs : (ports : List Port) (vs ws : List S9) (terms : List Term) → ((k : ℕ) → is_port true ports k ≡ true → at vs k ≡ at ws k) → AllInputs ports terms → AllAgree ports vs ws terms
agree_inputs ports vs ws [] e h = tt
agree_inputs ports vs ws (t ∷ terms) e h = (one t.operand h.0, agree_inputs ports vs ws terms e h.1)
  where
    one : (o : Operand) → HasInput ports o → operand_value ports vs o ≡ operand_value ports ws o
    one low i = refl
    one high i = refl
    one (port n) i = e (net_of ports n.text) i

agree_sensed : (ports : List Port) (vs ws : List S9) (terms : List Term) → ((k : ℕ) → has (term_nets ports terms) k ≡ true → at vs k ≡ at ws k) → AllAgree ports vs ws terms
agree_sensed ports vs ws [] e = tt
agree_sensed ports vs ws (t ∷ terms) e = let w = one t.operand (term_nets ports terms) e in (w.0, agree_sensed ports vs ws terms w.1)
  where
    one : (o : Operand) (more : List ℕ) → ((k : ℕ) → has (operand_nets ports o more) k ≡ true → at vs k ≡ at ws k) → (operand_value ports vs o ≡ operand_value ports ws o) × ((k : ℕ) → has more k ≡ true → at vs k ≡ at ws k)
    one low more h = (refl, h)
    one high more h = (refl, h)
    one (port n) more h = (h (net_of ports n.text) (or_left (nat_eq (net_of ports n.text) (net_of ports n.text)) (has more (net_of ports n.text)) (eq-eqb (net_of ports n.text) (net_of ports n.text) refl)), λ k g. h k (or_right (nat_eq (net_of ports n.text) k) (has more k) g))

pub placed_at : (ports : List Port) (gs : List Assignment) (i : ℕ) (a : Assignment) → AllPlaced ports gs → slice_get gs i ≡ Some a → (is_port false ports (target_net ports a) ≡ true) × AllInputs ports a.terms
placed_at ports [] i a h e = absurd (none_eq a e)
placed_at ports (x ∷ gs) zero a h e = subst (λ (b : Assignment). (is_port false ports (target_net ports b) ≡ true) × AllInputs ports b.terms) (some_eq x a e) (h.0, h.1.0)
placed_at ports (x ∷ gs) (suc i) a h e = placed_at ports gs i a h.1.1 e

-- ---- the ranks

below : (a b : ℕ) → a ≡ 0 → b ≡ 1 → a < b
below a b e g = omega arith

pub gate_ranks : (f : GateFile) (Holds : VState → Type 0) → IsSoundGate f → Ranked (gate_design f) Holds (gate_rank f) 2 none_held (gate_give f)
gate_ranks f Holds sound =
    record {
      gives = gives;
      keeps = λ s i p q r k on. absurd (true≢false (sym on));
      lower = lower;
      senses = senses;
      by_inputs = λ i vs ws e. refl;
      by_sensed = λ i p vs ws hp e. refl;
      bound = λ x. bound (is_port true (ports_of f) x);
    }
  where
    bound : (b : Bool) → cond b 0 1 < 2
    bound true = omega arith
    bound false = omega arith

    gives : (s : VState) (i : ℕ) (p : Process) (q : Part) (r : Ran) → Holds s → none_held s.nets.values i ≡ false → Runs (gate_design f) s i p q r → (x : ℕ) → pick p.targets r.drivers x ≡ gate_give f i x s.nets.values
    gives s i p q r known off runs x =
        let g = gate_at (ports_of f) f.assignments i p runs.process in
        let k : (gate_process (ports_of f) g.a).body s.nets q.drivers q.variables ≡ Some r = ap (λ (o : Process). o.body s.nets q.drivers q.variables) (sym g.is) ∙ runs.ran in
        ap (λ (o : Process). pick o.targets r.drivers x) g.is ∙ (ap (λ (o : Ran). pick (target_net (ports_of f) g.a ∷ []) o.drivers x) (sym (some_eq _ r k)) ∙ ap (λ o. give_of (ports_of f) o x s.nets.values) (sym g.from))

    given : (i : ℕ) (a : Assignment) (vs ws : List S9) (x : ℕ) → slice_get f.assignments i ≡ Some a → pick (target_net (ports_of f) a ∷ []) (assigned_value (ports_of f) a vs ∷ []) x ≡ pick (target_net (ports_of f) a ∷ []) (assigned_value (ports_of f) a ws ∷ []) x → gate_give f i x vs ≡ gate_give f i x ws
    given i a vs ws x h e = ap (λ o. give_of (ports_of f) o x vs) h ∙ (e ∙ ap (λ o. give_of (ports_of f) o x ws) (sym h))

    lower : (i : ℕ) (p : Process) (vs ws : List S9) → none_held vs i ≡ false → slice_get (gate_design f).processes i ≡ Some p → (x : ℕ) → SameInputs (gate_design f) vs ws → ((y : ℕ) → gate_rank f y < gate_rank f x → at vs y ≡ at ws y) → gate_give f i x vs ≡ gate_give f i x ws
    lower i p vs ws off hp x same less =
        let g = gate_at (ports_of f) f.assignments i p hp in
        let w = placed_at (ports_of f) f.assignments i g.a sound.placed g.from in
        given i g.a vs ws x g.from
        (⊎_elim
        (λ t. let out : gate_rank f x ≡ 1 = ap (λ n. gate_rank f n) (sym (eqb-true (target_net (ports_of f) g.a) x t)) ∙ ap (λ b. cond {A = ℕ} b 0 1) (one_way (ports_of f) (target_net (ports_of f) g.a) w.0) in
        ap (λ (v : S9). pick (target_net (ports_of f) g.a ∷ []) (v ∷ []) x) (chain_same (ports_of f) g.a.operator vs ws g.a.terms (agree_inputs (ports_of f) vs ws g.a.terms (λ k h. less k (below (gate_rank f k) (gate_rank f x) (ap (λ b. cond {A = ℕ} b 0 1) h) out)) w.1)))
        (λ n. ap (λ b. cond b (assigned_value (ports_of f) g.a vs ∷ []) []) n ∙ sym (ap (λ b. cond b (assigned_value (ports_of f) g.a ws ∷ []) []) n))
        (cases_Bool (nat_eq (target_net (ports_of f) g.a) x)))

    senses : (i : ℕ) (p : Process) (vs ws : List S9) → none_held vs i ≡ false → slice_get (gate_design f).processes i ≡ Some p → (x : ℕ) → SameSensed p vs ws → gate_give f i x vs ≡ gate_give f i x ws
    senses i p vs ws off hp x sensed =
        let g = gate_at (ports_of f) f.assignments i p hp in
        given i g.a vs ws x g.from
        (ap (λ (v : S9). pick (target_net (ports_of f) g.a ∷ []) (v ∷ []) x) (chain_same (ports_of f) g.a.operator vs ws g.a.terms (agree_sensed (ports_of f) vs ws g.a.terms (λ k h. sensed k (ap (λ (o : Process). has o.sensitive k) g.is ∙ h)))))

pub gate_ranked : (f : GateFile) → IsSoundGate f → Ranked (gate_design f) (InRun (gate_design f)) (gate_rank f) 2 none_held (gate_give f)
gate_ranked f sound = gate_ranks f (InRun (gate_design f)) sound

pub gate_run_ends : (f : GateFile) (rows : List (List Entry)) → IsSoundGate f → LawfulRows (gate_design f) rows → OrderedRun (gate_design f) rows
gate_run_ends f rows sound lawful = ordered_run (gate_design f) (gate_rank f) 2 none_held (gate_give f) rows (gate_ranked f sound) lawful

pub process_count : (ports : List Port) (gs : List Assignment) → length (map (gate_process ports) gs) ≡ length gs
process_count ports [] = refl
process_count ports (a ∷ gs) = ap suc (process_count ports gs)

pub gate_run_short : (f : GateFile) (rows : List (List Entry)) (run : VhdlRun (gate_design f) rows) → IsSoundGate f → LawfulRows (gate_design f) rows → (length run.first ≤ (length f.assignments + 1) * 3) × AllShort ((length f.assignments + 1) * 3) run.later
gate_run_short f rows run sound lawful =
    subst (λ n. (length run.first ≤ (n + 1) * 3) × AllShort ((n + 1) * 3) run.later) (process_count (ports_of f) f.assignments) (few_run (gate_design f) (gate_rank f) 2 none_held (gate_give f) rows run (gate_ranked f sound) lawful)
