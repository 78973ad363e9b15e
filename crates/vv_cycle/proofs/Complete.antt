-- Each order can go on until it is complete, and where nets have ranks the ordered run is.
use Rattle.std.proofs.Common.{◌≡◌, ℕ, zero, suc, ◌+◌, ◌*◌, ◌≤◌, Bool, true, ◌||◌, List, [], ◌∷◌, length, take, Option, Some, None, slice_get, ◌⊎◌, inl, inr, ⊎_elim, refl, sym, ap, ◌∙◌, arith, true≢false}
use Rattle.std.proofs.lemmas.Bool.{cases_Bool}
use Rattle.vv_bits.specs.declared.nine.S9.{S9}
use Rattle.vv_cycle.specs.Processes.{Design, Part}
use Rattle.vv_cycle.specs.Turns.{VState, resume, update, any_ready, differs, IsSettled, IsReady, IsFirst, Turn, Resume, Update, CanTurn, CanTurns, after_turns, IsEnd, InOrder, OrderedTurns}
use Rattle.vv_cycle.specs.Ranks.{Reached, First, Then, Ranked, Rested}
use Rattle.vv_cycle.specs.Rows.{power_on, Entry, row, InRun, LawfulRows, CanRows, RowsInOrder, OrderedRun}
use Rattle.vv_cycle.proofs.Bound.{Kept, few_from}
use Rattle.vv_cycle.proofs.Runs.{Fine, row_fine, order_fine, power_fine, run_kept}

-- the first ready process
record Next (parts : List Part) : Type 0 where
  i : ℕ
  on : IsReady (slice_get parts i)
  first : IsFirst parts i

next_of : (parts : List Part) → any_ready parts ≡ true → Next parts
next_of [] h = absurd (true≢false (sym h))
next_of (q ∷ parts) h =
    ⊎_elim (λ a. record { i = 0; on = a; first = refl })
    (λ off. let r = next_of parts (ap (λ b. b || any_ready parts) (sym off) ∙ h) in record { i = suc r.i; on = r.on; first = ap (λ b. b || any_ready (take r.i parts)) off ∙ r.first })
    (cases_Bool q.ready)

pub stuck_is_settled : (d : Design) (s : VState) → ((t : Turn) → CanTurn d s t → ⊥) → IsSettled d s
stuck_is_settled d s stuck =
    ⊎_elim (λ on. absurd (let r = next_of s.parts on in stuck (Resume r.i) r.on))
    (λ off. (off, ⊎_elim (λ more. absurd (stuck Update (off, more))) (λ same. same) (cases_Bool (differs d s))))
    (cases_Bool (any_ready s.parts))

-- at least n turns in order, or fewer that go on to the end
record Path (d : Design) (o : Option VState) (n : ℕ) : Type 0 where
  turns : List Turn
  can : CanTurns d o turns
  ordered : InOrder d o turns
  far : IsEnd d (after_turns d o turns) ⊎ (n ≤ length turns)

path : (d : Design) (n : ℕ) (o : Option VState) → Path d o n
path d n None = record { turns = []; can = tt; ordered = tt; far = inl tt }
path d zero (Some s) = record { turns = []; can = tt; ordered = tt; far = inr (omega arith) }
path d (suc n) (Some s) =
    ⊎_elim
    (λ on. let r = next_of s.parts on in let p = path d n (resume d s r.i) in
    record { turns = Resume r.i ∷ p.turns; can = (r.on, p.can); ordered = (r.first, p.ordered); far = ⊎_elim (λ a. inl a) (λ l. inr (longer n p.turns (Resume r.i) l)) p.far })
    (λ off. ⊎_elim
    (λ more. let p = path d n (Some (update d s)) in
    record { turns = Update ∷ p.turns; can = ((off, more), p.can); ordered = p.ordered; far = ⊎_elim (λ a. inl a) (λ l. inr (longer n p.turns Update l)) p.far })
    (λ same. record { turns = []; can = tt; ordered = tt; far = inl (off, same) })
    (cases_Bool (differs d s)))
    (cases_Bool (any_ready s.parts))
  where
    longer : (m : ℕ) (ts : List Turn) (t : Turn) → m ≤ length ts → suc m ≤ length (t ∷ ts)
    longer m ts t l = omega arith

pub ordered_from : (d : Design) (Holds : VState → Type 0) (rank : ℕ → ℕ) (e : ℕ) (held : List S9 → ℕ → Bool) (give : ℕ → ℕ → List S9 → List S9) (s : VState) → Ranked d Holds rank e held give → Kept d Holds → Holds s → Rested d held give s → length s.parts ≡ length d.processes → OrderedTurns d s
ordered_from d Holds rank e held give s ranked kept known rested len =
    let p = path d (suc ((length d.processes + 1) * (e + 1))) (Some s) in
    record { turns = p.turns; can = p.can; ordered = p.ordered; ends = ⊎_elim (λ a. a) (λ l. absurd (let f : length p.turns ≤ (length d.processes + 1) * (e + 1) = few_from d Holds rank e held give s p.turns ranked kept known rested len p.can in omega arith)) p.far }

pub ordered_turns : (d : Design) (rank : ℕ → ℕ) (e : ℕ) (held : List S9 → ℕ → Bool) (give : ℕ → ℕ → List S9 → List S9) (s : VState) → Ranked d (Reached d s) rank e held give → Rested d held give s → length s.parts ≡ length d.processes → OrderedTurns d s
ordered_turns d rank e held give s ranked rested len = ordered_from d (Reached d s) rank e held give s ranked (λ a b u r c q. Then a b u r c q) First rested len

-- ---- whole runs

record RowsFrom (d : Design) (o : Option VState) (rows : List (List Entry)) : Type 0 where
  orders : List (List Turn)
  can : CanRows d o rows orders
  ordered : RowsInOrder d o rows orders

rows_from : (d : Design) (rank : ℕ → ℕ) (e : ℕ) (held : List S9 → ℕ → Bool) (give : ℕ → ℕ → List S9 → List S9) (o : Option VState) (rows : List (List Entry)) → Ranked d (InRun d) rank e held give → LawfulRows d rows → IsEnd d o → ((s : VState) → o ≡ Some s → Fine d (InRun d) held give s) → RowsFrom d o rows
rows_from d rank e held give None rows ranked lawful end fine = record { orders = []; can = tt; ordered = tt }
rows_from d rank e held give (Some s) [] ranked lawful end fine = record { orders = []; can = tt; ordered = tt }
rows_from d rank e held give (Some s) (es ∷ rows) ranked lawful end fine =
    let f = row_fine d rank e held give s es ranked (fine s refl) end lawful.0 in
    let w = ordered_from d (InRun d) rank e held give (row d s es) ranked (run_kept d) f.known f.rested f.parts in
    let more = rows_from d rank e held give (after_turns d (Some (row d s es)) w.turns) rows ranked lawful.1 w.ends (λ t q. order_fine d (InRun d) rank e held give (row d s es) w.turns ranked (run_kept d) f w.can t q) in
    record { orders = w.turns ∷ more.orders; can = (w.can, (w.ends, more.can)); ordered = (w.ordered, more.ordered) }

pub ordered_run : (d : Design) (rank : ℕ → ℕ) (e : ℕ) (held : List S9 → ℕ → Bool) (give : ℕ → ℕ → List S9 → List S9) (rows : List (List Entry)) → Ranked d (InRun d) rank e held give → LawfulRows d rows → OrderedRun d rows
ordered_run d rank e held give rows ranked lawful =
    let f = power_fine d held give in
    let w = ordered_from d (InRun d) rank e held give (power_on d) ranked (run_kept d) f.known f.rested f.parts in
    let more = rows_from d rank e held give (after_turns d (Some (power_on d)) w.turns) rows ranked lawful w.ends (λ t q. order_fine d (InRun d) rank e held give (power_on d) w.turns ranked (run_kept d) f w.can t q) in
    record { run = record { first = w.turns; later = more.orders; can_first = w.can; ends_first = w.ends; can_later = more.can }; first = w.ordered; later = more.ordered }
