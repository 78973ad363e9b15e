-- In the flat design of a sound file few steps are possible: no item reads what an item drives.
use Rattle.std.proofs.Common.{◌≡◌, ℕ, zero, suc, ◌+◌, ◌*◌, ◌-◌, ◌^◌, ◌<◌, ◌≤◌, nat_eq, Bool, true, false, ◌||◌, cond, List, [], ◌∷◌, length, Option, Some, None, slice_get, slice_set, slice_index_or, ⊎_elim, refl, ap, sym, subst, ◌∙◌, arith, true≢false, eqb-true, length-set}
use Rattle.std.specs.List.{AllByRecursion}
use Rattle.std.specs.Prelude.{min, Result, Ok, Err, IfErr}
use Rattle.std.proofs.lemmas.Bool.{cases_Bool}
use Rattle.std.proofs.lemmas.List.{append-nil}
use Rattle.vv_bits.specs.declared.four.V4.{V4}
use Rattle.vv_bits.specs.Four.{is4}
use Rattle.vv_bits.specs.Resolution.{resolve4_rule}
use Rattle.vv_cycle.proofs.Bound.{some_eq, none_eq}
use Rattle.vv_events.specs.Expressions.{value}
use Rattle.vv_events.specs.Items.{has, Item}
use Rattle.vv_events.specs.Steps.{State, bit, changed, write, writes, drivers_of, act, effect, woken, step, Act, Batch, Choice, CanRun}
use Rattle.vv_gate.specs.Tree.{GateFile, Port, ports_of}
use Rattle.vv_gate_verilog.specs.Events.{expr_of, events_in, events_of}
use Rattle.vv_gate_vhdl.proofs.Ranks.{one_way}
use Rattle.vv_gate_vhdl.specs.Design.{is_port, IsSoundGate}
use Rattle.vv_vast.specs.Flat.{Flat}
use Rattle.vv_vast.specs.Tree as vast
use Rattle.vv_gate_run.specs.Numbered.{numbered_file}
use Rattle.vv_gate_run.specs.Verilog.{HasFlags, HasSteps}
use Rattle.vv_gate_run.specs.declared.order.RunFault.{RunFault}
use Rattle.vv_gate_run.specs.declared.order.RunFault.TheVariants.{Endless, Memory}
use Rattle.vv_gate_run.proofs.Events.{reads_same, event_at, get_event, events_length}
use Rattle.vv_gate_run.proofs.Numbered.{each_gate}

-- ---- flags

woken_length : (d : List Item) (b : ℕ) (old new : V4) (flags : List Bool) → length (woken d b old new flags) ≡ length flags
woken_length [] b old new flags = refl
woken_length (i ∷ d) b old new [] = refl
woken_length (i ∷ d) b old new (f ∷ flags) = ap suc (woken_length d b old new flags)

write_length : (d : List Item) (s : State) (w : ℕ × V4) → length (write d s w).active ≡ length s.active
write_length d s w = go (is4 (bit s w.0) w.1)
  where
    go : (b : Bool) → length (cond b s (changed d s w)).active ≡ length s.active
    go true = refl
    go false = woken_length d w.0 (bit s w.0) w.1 s.active

writes_length : (d : List Item) (s : State) (ws : List (ℕ × V4)) → length (writes d s ws).active ≡ length s.active
writes_length d s [] = refl
writes_length d s (w ∷ ws) = writes_length d (write d s w) ws ∙ write_length d s w

act_length : (d : List Item) (s : State) (i : ℕ) (o : Option Item) → length (act d s i o).active ≡ length s.active
act_length d s i None = refl
act_length d s i (Some item) =
    let e = effect d s i item in
    let base : State = record { bits = s.bits; drivers = e.drivers; active = s.active; updates = s.updates } in
    length-set (writes d base e.writes).active i false ∙ writes_length d base e.writes

pub flags_stay : (items : List (vast.Item ℕ)) (s : State) (i : ℕ) → length (step (events_in items) s (Act i)).active ≡ length s.active
flags_stay items s i = act_length (events_in items) s i (slice_get (events_in items) i)

pub set_inside : (flags : List Bool) (i : ℕ) → slice_index_or flags i false ≡ true → i < length flags
set_inside [] i h = absurd (true≢false (sym h))
set_inside (f ∷ flags) zero h = omega arith
set_inside (f ∷ flags) (suc i) h = let l : i < length flags = set_inside flags i h in omega arith

count : List Bool → ℕ
count [] = 0
count (f ∷ flags) = cond f (suc (count flags)) (count flags)

count_within : (flags : List Bool) → count flags ≤ length flags
unfolding count
count_within [] = omega arith
count_within (f ∷ flags) = go f (count_within flags)
  where
    go : (b : Bool) → count flags ≤ length flags → cond b (suc (count flags)) (count flags) ≤ suc (length flags)
    go true h = omega arith
    go false h = omega arith

count_less : (flags : List Bool) (i : ℕ) → slice_index_or flags i false ≡ true → suc (count (slice_set flags i false)) ≡ count flags
unfolding count
count_less [] i h = absurd (true≢false (sym h))
count_less (f ∷ flags) zero h = ap (λ b. cond b (suc (count flags)) (count flags)) (sym h)
count_less (f ∷ flags) (suc i) h = go f (count_less flags i h)
  where
    go : (b : Bool) → suc (count (slice_set flags i false)) ≡ count flags → suc (cond b (suc (count (slice_set flags i false))) (count (slice_set flags i false))) ≡ cond b (suc (count flags)) (count flags)
    go true e = ap suc e
    go false e = e

-- ---- steps

module _ (ports : List Port) where
  -- an item that drives an out port and reads in ports
  abbrev pub Gate : vast.Item ℕ → Type 0
  Gate (vast.assign t e) = (is_port false ports t ≡ true) × AllByRecursion (λ n. is_port true ports n ≡ true) (vast.reads e)

  unread : (t : ℕ) → is_port false ports t ≡ true → (ns : List ℕ) → AllByRecursion (λ n. is_port true ports n ≡ true) ns → has ns t ≡ false
  unread t out [] h = refl
  unread t out (n ∷ ns) h =
      ⊎_elim
      (λ y. absurd (true≢false (sym h.0 ∙ (ap (is_port true ports) (eqb-true n t y) ∙ one_way ports t out))))
      (λ x. ap (λ b. b || has ns t) x ∙ unread t out ns h.1)
      (cases_Bool (nat_eq n t))

  still : (t : ℕ) → is_port false ports t ≡ true → (old new : V4) (items : List (vast.Item ℕ)) → AllByRecursion Gate items → (flags : List Bool) → woken (events_in items) t old new flags ≡ flags
  still t out old new [] h flags = refl
  still t out old new (i ∷ items) h [] = refl
  still t out old new (vast.assign u e ∷ items) h (f ∷ flags) =
      ap (λ (ns : List ℕ). (f || has ns t) ∷ woken (events_in items) t old new flags) (reads_same e)
      ∙ (ap (λ b. (f || b) ∷ woken (events_in items) t old new flags) (unread t out (vast.reads e) h.0.1)
      ∙ (ap (λ b. b ∷ woken (events_in items) t old new flags) (or_false f) ∙ ap (λ l. f ∷ l) (still t out old new items h.1 flags)))
    where
      or_false : (b : Bool) → (b || false) ≡ b
      or_false true = refl
      or_false false = refl

  module _ (items : List (vast.Item ℕ)) (gates : AllByRecursion Gate items) where
    write_active : (s : State) (t : ℕ) (v : V4) → is_port false ports t ≡ true → ((write (events_in items) s (t, v)).active ≡ s.active) × ((write (events_in items) s (t, v)).updates ≡ s.updates)
    write_active s t v out = go (is4 (bit s t) v)
      where
        go : (b : Bool) → ((cond b s (changed (events_in items) s (t, v))).active ≡ s.active) × ((cond b s (changed (events_in items) s (t, v))).updates ≡ s.updates)
        go true = (refl, refl)
        go false = (still t out (bit s t) v items gates s.active, refl)

    gate_at : (items : List (vast.Item ℕ)) → AllByRecursion Gate items → (i : ℕ) (item : vast.Item ℕ) → slice_get items i ≡ Some item → Gate item
    gate_at [] h i item g = absurd (none_eq item g)
    gate_at (x ∷ items) h zero item g = subst Gate (some_eq x item g) h.0
    gate_at (x ∷ items) h (suc i) item g = gate_at items h.1 i item g

    there : (items : List (vast.Item ℕ)) (i : ℕ) → slice_get items i ≡ None → i < length items → ⊥
    there [] i e l = omega arith
    there (x ∷ items) zero e l = none_eq x (sym e)
    there (x ∷ items) (suc i) e l = there items i e (omega arith)

    -- a step clears one flag
    cleared : (s : State) (i : ℕ) → i < length (events_in items) → ((step (events_in items) s (Act i)).active ≡ slice_set s.active i false) × ((step (events_in items) s (Act i)).updates ≡ s.updates)
    cleared s i l = subst (λ (o : Option Item). ((act (events_in items) s i o).active ≡ slice_set s.active i false) × ((act (events_in items) s i o).updates ≡ s.updates)) (sym (get_event items i)) (go (slice_get items i) refl)
      where
        go : (o : Option (vast.Item ℕ)) → slice_get items i ≡ o → ((act (events_in items) s i (event_at o)).active ≡ slice_set s.active i false) × ((act (events_in items) s i (event_at o)).updates ≡ s.updates)
        go None e = absurd (let m : i < length items = subst (λ n. i < n) (events_length items) l in there items i e m)
        go (Some (vast.assign t x)) e =
            let outs = slice_set s.drivers i (value (expr_of x) s.bits) in
            let base : State = record { bits = s.bits; drivers = outs; active = s.active; updates = s.updates } in
            let r = resolve4_rule (drivers_of (events_in items) outs t) in
            let w = write_active base t r (gate_at items gates i (vast.assign t x) e).0 in
            (ap (λ f. slice_set f i false) w.0, append-nil (write (events_in items) base (t, r)).updates ∙ w.1)

    few : (s : State) (cs : List Choice) → s.updates ≡ [] → CanRun (events_in items) s cs → length cs ≤ count s.active
    few s [] u can = omega arith
    few s (Batch ∷ cs) u can = absurd (can.0.1 u)
    few s (Act i ∷ cs) u can =
        let c = cleared s i can.0.0 in
        let l : length cs ≤ count (step (events_in items) s (Act i)).active = few (step (events_in items) s (Act i)) cs (c.1 ∙ u) can.1 in
        let m : suc (count (slice_set s.active i false)) ≡ count s.active = count_less s.active i can.0.1 in
        let n : count (step (events_in items) s (Act i)).active ≡ count (slice_set s.active i false) = ap count c.0 in
        omega (arith, l, m, n)

-- ---- the design of a sound file

too_many : (f : GateFile) (s : State) (a most : ℕ) → a ≡ min (length (numbered_file f).items + 1) (2 ^ 64 - 1) → most ≡ min (a * 3) (2 ^ 64 - 1) → s.updates ≡ [] → IsSoundGate f → HasFlags (numbered_file f) s → HasSteps (events_of (numbered_file f)) s most → ⊥
too_many f s a most ea em u sound short h =
    let items = (numbered_file f).items in
    let l : length h.0 ≤ count s.active = few (ports_of f) items (each_gate f sound (Gate (ports_of f)) (λ t e out ins. (out, ins))) s h.0 u h.1 in
    let m = count_within s.active in
    let small = h.3 in
    omega (arith, l, m, short, small, ea, em, h.2)

-- so a run that has not ended is not one of a sound file
pub ends : {R : Type 0} (flat : Flat) (s : State) (n a most : ℕ) (result : Result R RunFault) → n ≡ length flat.items → a ≡ min (n + 1) (2 ^ 64 - 1) → most ≡ min (a * 3) (2 ^ 64 - 1) → s.updates ≡ [] → IfErr result (λ e. e ≡ Endless → HasFlags flat s → HasSteps (events_of flat) s most) → IfErr result (λ e. (f : GateFile) → IsSoundGate f → flat ≡ numbered_file f → HasFlags flat s → e ≡ Memory)
ends flat s n a most (Ok r) ne ea em u h = tt
ends flat s n a most (Err Memory) ne ea em u h = λ f sound e short. refl
ends flat s n a most (Err Endless) ne ea em u h = λ f sound e short.
    absurd (too_many f s a most (ea ∙ ap (λ k. min (k + 1) (2 ^ 64 - 1)) (ne ∙ ap (λ (g : Flat). length g.items) e)) em u sound (subst (λ (g : Flat). HasFlags g s) e short) (subst (λ (g : Flat). HasSteps (events_of g) s most) e (h refl short)))
