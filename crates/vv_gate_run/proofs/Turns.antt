-- One turn of a run.
use Rattle.std.proofs.Common.{Bool, ◌≡◌, ℕ, zero, suc, true, false, ◌||◌, List, [], ◌∷◌, ◌++◌, map, Option, Some, None, slice_get, slice_set, slice_index_or, ⊎_elim, refl, ap, sym, subst, ◌∙◌, true≢false}
use Rattle.std.specs.Prelude.{option_map}
use Rattle.std.proofs.lemmas.List.{map-set, set_past}
use Rattle.std.proofs.lemmas.Option.{slice_get-map, slice_get_cases}
use Rattle.vv_cycle.specs.Processes.{Design, Process, Part}
use Rattle.vv_cycle.specs.Turns.{VState, Turn, CanTurn, CanTurns, after_turns, turn, IsReady, any_ready, resume, resume_at, resumed, with_part}
use Rattle.vv_gate_run.specs.declared.vhdl.Part.{Part as Own}
use Rattle.vv_gate_run.specs.declared.vhdl.State.{State as OwnState}
use Rattle.vv_gate_run.specs.Order.{IsSet, IsChosen}
use Rattle.vv_gate_run.specs.declared.order.Order.{Order}
use Rattle.vv_gate_run.specs.declared.order.Order.TheVariants.{First, Last}
use Rattle.vv_gate_run.specs.Vhdl.{part_of, state_of, IsNext, AllNext}

-- ---- flags

pub none_ready : (parts : List Own) → ((i : ℕ) → slice_index_or (map (λ (p : Own). p.ready) parts) i false ≡ false) → any_ready (map part_of parts) ≡ false
none_ready [] h = refl
none_ready (p ∷ parts) h = ap (λ b. b || any_ready (map part_of parts)) (h 0) ∙ none_ready parts (λ i. h (suc i))

pub one_ready : (parts : List Own) (i : ℕ) → slice_index_or (map (λ (p : Own). p.ready) parts) i false ≡ true → IsReady (slice_get (map part_of parts) i)
one_ready [] i h = absurd (true≢false (sym h))
one_ready (p ∷ parts) zero h = h
one_ready (p ∷ parts) (suc i) h = one_ready parts i h

-- ---- a process runs

abbrev with_parts : OwnState → List Part → VState
with_parts s parts = record { nets = (state_of s).nets; parts = parts }

pub resumed_there : (d : Design) (s : OwnState) (i : ℕ) (p : Process) (new : Own) → slice_get d.processes i ≡ Some p → ((q : Own) → resumed p (state_of s).nets (part_of q) ≡ Some (part_of new)) → resume d (state_of s) i ≡ Some (with_parts s (map part_of (slice_set s.parts.items i new)))
resumed_there d s i p new e ran =
    ap (λ (o : Option Process). resume_at (state_of s) i o (slice_get (state_of s).parts i)) e
    ∙ (ap (λ (o : Option Part). resume_at (state_of s) i (Some p) o) (slice_get-map part_of s.parts.items i)
    ∙ ⊎_elim
    (λ h. ap (λ (o : Option Own). resume_at (state_of s) i (Some p) (option_map part_of o)) h.2
    ∙ (ap (with_part (state_of s) i) (ran h.0) ∙ ap (λ (l : List Part). Some (with_parts s l)) (sym (map-set part_of s.parts.items i new))))
    (λ h. ap (λ (o : Option Own). resume_at (state_of s) i (Some p) (option_map part_of o)) h.1
    ∙ ap (λ (l : List Own). Some (with_parts s (map part_of l))) (sym (set_past s.parts.items i new h.0)))
    (slice_get_cases s.parts.items i).1)

pub resumed_past : (d : Design) (s : OwnState) (i : ℕ) → slice_get d.processes i ≡ None → resume d (state_of s) i ≡ Some (state_of s)
resumed_past d s i e = ap (λ (o : Option Process). resume_at (state_of s) i o (slice_get (state_of s).parts i)) e

-- ---- one more turn

pub after_more : (d : Design) (o : Option VState) (ts : List Turn) (t : Turn) (s u : VState) → after_turns d o ts ≡ Some s → turn d s t ≡ Some u → after_turns d o (ts ++ t ∷ []) ≡ Some u
after_more d None ts t s u h k = absurd (none_some s h)
  where
    none_some : (s : VState) → None ≡ Some s → ⊥
    none_some s e = cc
after_more d (Some r) [] t s u h k = ap (λ (q : Option VState). after_turns d q (t ∷ [])) h ∙ (ap (λ (q : Option VState). after_turns d q []) k ∙ refl)
after_more d (Some r) (v ∷ ts) t s u h k = after_more d (turn d r v) ts t s u h k

pub can_more : (d : Design) (o : Option VState) (ts : List Turn) (t : Turn) (s : VState) → CanTurns d o ts → after_turns d o ts ≡ Some s → CanTurn d s t → CanTurns d o (ts ++ t ∷ [])
can_more d None ts t s c h k = absurd (none_some s h)
  where
    none_some : (s : VState) → None ≡ Some s → ⊥
    none_some s e = cc
can_more d (Some r) [] t s c h k = (subst (λ (q : VState). CanTurn d q t) (sym (some_eq r s h)) k, tt)
  where
    some_eq : (r s : VState) → Some r ≡ Some s → r ≡ s
    some_eq r s e = cc
can_more d (Some r) (v ∷ ts) t s c h k = (c.0, can_more d (turn d r v) ts t s c.1 h k)

pub next_more : (order : Order) (d : Design) (o : Option VState) (ts : List Turn) (t : Turn) (s : VState) → AllNext order d o ts → after_turns d o ts ≡ Some s → IsNext order s t → AllNext order d o (ts ++ t ∷ [])
next_more order d None ts t s c h k = absurd (none_some s h)
  where
    none_some : (s : VState) → None ≡ Some s → ⊥
    none_some s e = cc
next_more order d (Some r) [] t s c h k = (subst (λ (q : VState). IsNext order q t) (sym (some_eq r s h)) k, tt)
  where
    some_eq : (r s : VState) → Some r ≡ Some s → r ≡ s
    some_eq r s e = cc
next_more order d (Some r) (v ∷ ts) t s c h k = (c.0, next_more order d (turn d r v) ts t s c.1 h k)

pub same_flags : (parts : List Own) → map (λ (p : Own). p.ready) parts ≡ map (λ (p : Part). p.ready) (map part_of parts)
same_flags [] = refl
same_flags (p ∷ parts) = ap (λ l. p.ready ∷ l) (same_flags parts)

pub chosen_set : (order : Order) (flags : List Bool) (i : ℕ) → IsChosen order flags i → IsSet flags i
chosen_set First flags i h = h.here
chosen_set Last flags i h = h.here
