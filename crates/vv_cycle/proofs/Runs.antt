-- Whole runs: every order ends alike, and where nets have ranks each row is short.
use Rattle.std.proofs.Common.{◌≡◌, ℕ, zero, suc, ◌+◌, ◌*◌, ◌≤◌, Bool, true, List, [], ◌∷◌, length, Option, Some, None, slice_get, slice_set, refl, sym, ap, subst, ◌∙◌, true≢false, length-set}
use Rattle.vv_bits.specs.declared.nine.S9.{S9}
use Rattle.vv_cycle.specs.Processes.{Process, Input, Design, Part}
use Rattle.vv_cycle.specs.Turns.{IsClean, VState, resume, update, moved, changes, new_values, Turn, Resume, Update, CanTurns, after_turns, IsEnd, IsSettled}
use Rattle.vv_cycle.specs.Ranks.{Reached, First, Then, Ranked, Rested}
use Rattle.vv_cycle.specs.Rows.{first_parts, power_on, Entry, put, put_input, entered, row, after_rows, CanRows, InRun, Powered, Turned, Entered, LawfulRow, LawfulRows, VhdlRun, end_of, AllShort}
use Rattle.vv_cycle.proofs.Orders.{same_end}
use Rattle.vv_cycle.proofs.Bound.{some_eq, none_eq, start_calm, option_calm, moved_rested, resolutions_length, resume_count, readied_length, few_from, Kept}

same_rows : (d : Design) (o : Option VState) (rows : List (List Entry)) (vs ws : List (List Turn)) → CanRows d o rows vs → CanRows d o rows ws → (after_rows d o rows vs ≡ after_rows d o rows ws) × (length vs ≡ length ws)
same_rows d None rows [] [] a b = (refl, refl)
same_rows d None rows [] (u ∷ ws) a b = absurd b
same_rows d None rows (t ∷ vs) ws a b = absurd a
same_rows d (Some s) [] [] [] a b = (refl, refl)
same_rows d (Some s) [] [] (u ∷ ws) a b = absurd b
same_rows d (Some s) [] (t ∷ vs) ws a b = absurd a
same_rows d (Some s) (es ∷ rows) [] ws a b = absurd a
same_rows d (Some s) (es ∷ rows) (t ∷ vs) [] a b = absurd b
same_rows d (Some s) (es ∷ rows) (t ∷ vs) (u ∷ ws) a b =
    let e = same_end d (row d s es) t u a.0 b.0 a.1.0 b.1.0 in
    let r = same_rows d (after_turns d (Some (row d s es)) t) rows vs ws a.1.1 (subst (λ o. CanRows d o rows ws) (sym e) b.1.1) in
    (r.0 ∙ ap (λ o. after_rows d o rows ws) e, ap suc r.1)

pub same_run : (d : Design) (rows : List (List Entry)) (v w : VhdlRun d rows) → (end_of d rows v ≡ end_of d rows w) × (length v.later ≡ length w.later)
same_run d rows v w =
    let e = same_end d (power_on d) v.first w.first v.can_first w.can_first v.ends_first w.ends_first in
    let r = same_rows d (after_turns d (Some (power_on d)) v.first) rows v.later w.later v.can_later (subst (λ o. CanRows d o rows w.later) (sym e) w.can_later) in
    (r.0 ∙ ap (λ o. after_rows d o rows w.later) e, r.1)

pub same_clean : (d : Design) (rows : List (List Entry)) (v w : VhdlRun d rows) → IsClean (end_of d rows v) → IsClean (end_of d rows w)
same_clean d rows v w clean = subst IsClean (same_run d rows v w).0 clean

-- ---- short rows

-- what holds between turns
pub record Fine (d : Design) (Holds : VState → Type 0) (held : List S9 → ℕ → Bool) (give : ℕ → ℕ → List S9 → List S9) (s : VState) : Type 0 where
  pub known : Holds s
  pub rested : Rested d held give s
  pub parts : length s.parts ≡ length d.processes

moved_fine : (d : Design) (Holds : VState → Type 0) (rank : ℕ → ℕ) (e : ℕ) (held : List S9 → ℕ → Bool) (give : ℕ → ℕ → List S9 → List S9) (s : VState) (values : List S9) → Ranked d Holds rank e held give → Fine d Holds held give s → length s.nets.values ≡ length values → Holds (moved d s values) → Fine d Holds held give (moved d s values)
moved_fine d Holds rank e held give s values ranked f len kn =
    record { known = kn; rested = moved_rested d Holds rank e held give s values ranked f.rested len; parts = readied_length d.processes (changes s.nets.values values) s.parts ∙ f.parts }

pub order_fine : (d : Design) (Holds : VState → Type 0) (rank : ℕ → ℕ) (e : ℕ) (held : List S9 → ℕ → Bool) (give : ℕ → ℕ → List S9 → List S9) (s : VState) (ts : List Turn) → Ranked d Holds rank e held give → Kept d Holds → Fine d Holds held give s → CanTurns d (Some s) ts → (t : VState) → after_turns d (Some s) ts ≡ Some t → Fine d Holds held give t
order_fine d Holds rank e held give s [] ranked kept f can t to = subst (Fine d Holds held give) (some_eq s t to) f
order_fine d Holds rank e held give s (Resume i ∷ ts) ranked kept f can t to =
    go (λ u q c k. order_fine d Holds rank e held give u ts ranked kept (next u q) c t k) (resume d s i) refl can.1 to
  where
    next : (u : VState) → resume d s i ≡ Some u → Fine d Holds held give u
    next u q =
        let kn = kept s u (Resume i) f.known can.0 q in
        let c = option_calm d Holds rank e held give 0 s i (slice_get d.processes i) (slice_get s.parts i) ranked (start_calm d Holds rank held give s f.known f.rested) refl refl can.0 u q kn in
        let n = resume_count d s i (slice_get d.processes i) (slice_get s.parts i) refl refl f.parts can.0 u q in
        record { known = kn; rested = c.rested; parts = n.1 ∙ f.parts }

    go : ((u : VState) → resume d s i ≡ Some u → CanTurns d (Some u) ts → after_turns d (Some u) ts ≡ Some t → Fine d Holds held give t) → (o : Option VState) → resume d s i ≡ o → CanTurns d o ts → after_turns d o ts ≡ Some t → Fine d Holds held give t
    go more None q c k = absurd (none_eq t k)
    go more (Some u) q c k = more u q c k
order_fine d Holds rank e held give s (Update ∷ ts) ranked kept f can t to =
    order_fine d Holds rank e held give (update d s) ts ranked kept (moved_fine d Holds rank e held give s (new_values d s) ranked f (sym (resolutions_length d s.parts 0 s.nets.values)) (kept s (update d s) Update f.known can.0 refl)) can.1 t to

put_length : (ns : List ℕ) (bits values : List S9) → length values ≡ length (put ns bits values)
put_length [] bits values = refl
put_length (n ∷ ns) [] values = refl
put_length (n ∷ ns) (b ∷ bits) values = sym (length-set values n b) ∙ put_length ns bits (slice_set values n b)

put_input_length : (o : Option Input) (bits values : List S9) → length values ≡ length (put_input o bits values)
put_input_length None bits values = refl
put_input_length (Some i) bits values = put_length i.nets bits values

entered_length : (d : Design) (es : List Entry) (values : List S9) → length values ≡ length (entered d es values)
entered_length d [] values = refl
entered_length d (e ∷ es) values = put_input_length (slice_get d.inputs e.input) e.bits values ∙ entered_length d es (put_input (slice_get d.inputs e.input) e.bits values)

pub run_kept : (d : Design) → Kept d (InRun d)
run_kept d s t u r c q = Turned s t u r c q

pub row_fine : (d : Design) (rank : ℕ → ℕ) (e : ℕ) (held : List S9 → ℕ → Bool) (give : ℕ → ℕ → List S9 → List S9) (s : VState) (es : List Entry) → Ranked d (InRun d) rank e held give → Fine d (InRun d) held give s → IsSettled d s → LawfulRow d es → Fine d (InRun d) held give (row d s es)
row_fine d rank e held give s es ranked g end lawful =
    moved_fine d (InRun d) rank e held give s (entered d es s.nets.values) ranked g (entered_length d es s.nets.values) (Entered s es g.known end lawful)

few_rows : (d : Design) (rank : ℕ → ℕ) (e : ℕ) (held : List S9 → ℕ → Bool) (give : ℕ → ℕ → List S9 → List S9) (o : Option VState) (rows : List (List Entry)) (orders : List (List Turn)) → Ranked d (InRun d) rank e held give → LawfulRows d rows → IsEnd d o → ((s : VState) → o ≡ Some s → Fine d (InRun d) held give s) → CanRows d o rows orders → AllShort ((length d.processes + 1) * (e + 1)) orders
few_rows d rank e held give None rows [] ranked lawful end fine can = tt
few_rows d rank e held give None rows (ts ∷ orders) ranked lawful end fine can = absurd can
few_rows d rank e held give (Some s) [] [] ranked lawful end fine can = tt
few_rows d rank e held give (Some s) [] (ts ∷ orders) ranked lawful end fine can = absurd can
few_rows d rank e held give (Some s) (es ∷ rows) [] ranked lawful end fine can = absurd can
few_rows d rank e held give (Some s) (es ∷ rows) (ts ∷ orders) ranked lawful end fine can =
    let f = row_fine d rank e held give s es ranked (fine s refl) end lawful.0 in
    (few_from d (InRun d) rank e held give (row d s es) ts ranked (run_kept d) f.known f.rested f.parts can.0, few_rows d rank e held give (after_turns d (Some (row d s es)) ts) rows orders ranked lawful.1 can.1.0 (λ t q. order_fine d (InRun d) rank e held give (row d s es) ts ranked (run_kept d) f can.0 t q) can.1.1)

first_ready : (ps : List Process) (i : ℕ) (q : Part) → slice_get (first_parts ps) i ≡ Some q → q.ready ≡ true
first_ready [] i q h = absurd (none_eq q h)
first_ready (p ∷ ps) zero q h = ap (λ (o : Part). o.ready) (sym (some_eq _ q h))
first_ready (p ∷ ps) (suc i) q h = first_ready ps i q h

first_length : (ps : List Process) → length (first_parts ps) ≡ length ps
first_length [] = refl
first_length (p ∷ ps) = ap suc (first_length ps)

pub power_fine : (d : Design) (held : List S9 → ℕ → Bool) (give : ℕ → ℕ → List S9 → List S9) → Fine d (InRun d) held give (power_on d)
power_fine d held give =
    record { known = Powered; rested = record { each = λ i p q x hf hp hq off. absurd (true≢false (sym (first_ready d.processes i q hq) ∙ off)) }; parts = first_length d.processes }

pub few_run : (d : Design) (rank : ℕ → ℕ) (e : ℕ) (held : List S9 → ℕ → Bool) (give : ℕ → ℕ → List S9 → List S9) (rows : List (List Entry)) (run : VhdlRun d rows) → Ranked d (InRun d) rank e held give → LawfulRows d rows → (length run.first ≤ (length d.processes + 1) * (e + 1)) × AllShort ((length d.processes + 1) * (e + 1)) run.later
few_run d rank e held give rows run ranked lawful =
    let f = power_fine d held give in
    (few_from d (InRun d) rank e held give (power_on d) run.first ranked (run_kept d) f.known f.rested f.parts run.can_first, few_rows d rank e held give (after_turns d (Some (power_on d)) run.first) rows run.later ranked lawful run.ends_first (λ t q. order_fine d (InRun d) rank e held give (power_on d) run.first ranked (run_kept d) f run.can_first t q) run.can_later)

-- what holds at power-on, and is kept by turns and lawful rows, holds all through
pub in_run : (d : Design) (Holds : VState → Type 0) → Holds (power_on d) → Kept d Holds → ((s : VState) (es : List Entry) → Holds s → IsSettled d s → LawfulRow d es → Holds (row d s es)) → (s : VState) → InRun d s → Holds s
in_run d Holds first kept rows _ Powered = first
in_run d Holds first kept rows _ (Turned s t u r can to) = kept s t u (in_run d Holds first kept rows s r) can to
in_run d Holds first kept rows _ (Entered s es r end lawful) = rows s es (in_run d Holds first kept rows s r) end lawful

-- and for the turns of one row
pub in_turns : (d : Design) (first : VState) (Holds : VState → Type 0) → Holds first → Kept d Holds → (s : VState) → Reached d first s → Holds s
in_turns d first Holds known kept _ First = known
in_turns d first Holds known kept _ (Then s t u r can to) = kept s t u (in_turns d first Holds known kept s r) can to
