-- Each step lowers the number of the items' digits.
use Rattle.std.proofs.Common.{◌≡◌, ◌≢◌, ℕ, zero, suc, ◌<◌, ◌≤◌, ◌^◌, nat_eq, Bool, true, false, ◌||◌, cond, List, [], ◌∷◌, ◌++◌, length, Option, Some, None, slice_get, slice_set, slice_index_or, ◌⊎◌, inl, inr, ⊎_elim, refl, sym, ap, subst, ◌∙◌, arith, true≢false, eqb-true, eq-eqb}
use Rattle.std.proofs.lemmas.Bool.{or_cases, and_parts, cond_both, cases_Bool, cases_lt}
use Rattle.std.proofs.lemmas.List.{get_or-set_other, get_or_past}
use Rattle.std.proofs.lemmas.Option.{slice_get_cases}
use Rattle.vv_bits.specs.declared.four.V4.{V4}
use Rattle.vv_bits.specs.Four.{is4}
use Rattle.vv_events.specs.Items.{has, Event, event_bits, rises, falls, is_event, Item, all_event_bits, senses, drives, any_event, wakes, driven_by, Drives, Senses, AllTo, Fair, IfItem, IsAlways, Rise, Fall, Any, Assign, Always}
use Rattle.vv_events.specs.Steps.{State, woken, bit, changed, write, writes, Effect, resolved, effect, done, act, batch, Choice, step, IsActive, NoneActive, CanStep, CanRun, Quiet, Act, Batch}
use Rattle.vv_events.specs.Orders.{Ordered, Lawful, Owned}
use Rattle.vv_events.specs.Rows.{changed_bits}
use Rattle.vv_events.proofs.Potential.{phi, phi_falls, phi_bound, falls_first, Apart}

pub or_true : (a b : Bool) → b ≡ true → (a || b) ≡ true
or_true true b h = refl
or_true false b h = h

pub or_left : (a b : Bool) → a ≡ true → (a || b) ≡ true
or_left true b h = refl
or_left false b h = absurd (true≢false (sym h))

pub has_left : (xs ys : List ℕ) (b : ℕ) → has xs b ≡ true → has (xs ++ ys) b ≡ true
has_left [] ys b h = absurd (true≢false (sym h))
has_left (x ∷ xs) ys b h =
    ⊎_elim (λ e. or_left (nat_eq x b) (has (xs ++ ys) b) e) (λ r. or_true (nat_eq x b) (has (xs ++ ys) b) (has_left xs ys b r)) (or_cases (nat_eq x b) (has xs b) h)

pub has_right : (xs ys : List ℕ) (b : ℕ) → has ys b ≡ true → has (xs ++ ys) b ≡ true
has_right [] ys b h = h
has_right (x ∷ xs) ys b h = or_true (nat_eq x b) (has (xs ++ ys) b) (has_right xs ys b h)

-- an event is of a bit that it names
event_at : (e : Event) (b : ℕ) (old new : V4) → is_event e b old new ≡ true → has (event_bits e) b ≡ true
event_at (Rise c) b old new h = or_left (nat_eq c b) false (and_parts (nat_eq c b) (rises old new) h).0
event_at (Fall c) b old new h = or_left (nat_eq c b) false (and_parts (nat_eq c b) (falls old new) h).0
event_at (Any cs) b old new h = h

pub any_event_at : (es : List Event) (b : ℕ) (old new : V4) → any_event es b old new ≡ true → has (all_event_bits es) b ≡ true
any_event_at [] b old new h = absurd (true≢false (sym h))
any_event_at (e ∷ es) b old new h =
    ⊎_elim (λ t. has_left (event_bits e) (all_event_bits es) b (event_at e b old new t)) (λ t. has_right (event_bits e) (all_event_bits es) b (any_event_at es b old new t)) (or_cases (is_event e b old new) (any_event es b old new) h)

pub wakes_at : (item : Item) (b : ℕ) (old new : V4) → wakes item b old new ≡ true → has (senses item) b ≡ true
wakes_at (Assign reads targets value) b old new h = h
wakes_at (Always events assigns f) b old new h = any_event_at events b old new h

-- who is active after a change
pub woken_at : (d : List Item) (b : ℕ) (old new : V4) (flags : List Bool) (j : ℕ) → slice_index_or (woken d b old new flags) j false ≡ true → (slice_index_or flags j false ≡ true) ⊎ Senses d j b
woken_at [] b old new flags j h = inl h
woken_at (item ∷ d) b old new [] j h = absurd (true≢false (sym h))
woken_at (item ∷ d) b old new (flag ∷ flags) zero h = ⊎_elim (λ t. inl t) (λ t. inr (wakes_at item b old new t)) (or_cases flag (wakes item b old new) h)
woken_at (item ∷ d) b old new (flag ∷ flags) (suc j) h = woken_at d b old new flags j h

write_at : (d : List Item) (s : State) (w : ℕ × V4) (j : ℕ) → IsActive (write d s w) j → IsActive s j ⊎ Senses d j w.0
write_at d s w j = cond_both (is4 (bit s w.0) w.1) s (changed d s w) (λ t. IsActive t j → IsActive s j ⊎ Senses d j w.0) (λ e h. inl h) (λ e h. woken_at d w.0 (bit s w.0) w.1 s.active j h)

write_updates : (d : List Item) (s : State) (w : ℕ × V4) → (write d s w).updates ≡ s.updates
write_updates d s w = cond_both (is4 (bit s w.0) w.1) s (changed d s w) (λ t. t.updates ≡ s.updates) (λ e. refl) (λ e. refl)

pub writes_updates : (d : List Item) (s : State) (ws : List (ℕ × V4)) → (writes d s ws).updates ≡ s.updates
writes_updates d s [] = refl
writes_updates d s (w ∷ ws) = writes_updates d (write d s w) ws ∙ write_updates d s w

-- an item that is active after writes was so, or senses a bit that is written
pub writes_at : (bs : List ℕ) (d : List Item) (s : State) (ws : List (ℕ × V4)) (j : ℕ) → AllTo bs ws → IsActive (writes d s ws) j → IsActive s j ⊎ ((b : ℕ) × (has bs b ≡ true) × Senses d j b)
writes_at bs d s [] j to h = inl h
writes_at bs d s (w ∷ ws) j to h =
    ⊎_elim (λ t. ⊎_elim (λ u. inl u) (λ u. inr (w.0, to.0, u)) (write_at d s w j t)) (λ t. inr t) (writes_at bs d (write d s w) ws j to.1 h)

-- the updates of these bits
abbrev pub any_to : List ℕ → List (ℕ × V4) → Bool
any_to bs [] = false
any_to bs (w ∷ ws) = has bs w.0 || any_to bs ws

pub any_to_append : (bs : List ℕ) (us ws : List (ℕ × V4)) → any_to bs (us ++ ws) ≡ true → (any_to bs us ≡ true) ⊎ (any_to bs ws ≡ true)
any_to_append bs [] ws h = inr h
any_to_append bs (u ∷ us) ws h =
    ⊎_elim (λ t. inl (or_left (has bs u.0) (any_to bs us) t)) (λ t. ⊎_elim (λ q. inl (or_true (has bs u.0) (any_to bs us) q)) (λ q. inr q) (any_to_append bs us ws t)) (or_cases (has bs u.0) (any_to bs (us ++ ws)) h)

-- two lists that name one bit
pub both_name : (bs cs : List ℕ) (ws : List (ℕ × V4)) → AllTo cs ws → any_to bs ws ≡ true → (b : ℕ) × (has bs b ≡ true) × (has cs b ≡ true)
both_name bs cs [] to h = absurd (true≢false (sym h))
both_name bs cs (w ∷ ws) to h = ⊎_elim (λ t. (w.0, t, to.0)) (λ t. both_name bs cs ws to.1 t) (or_cases (has bs w.0) (any_to bs ws) h)

-- 2 for an active item, 1 for one that has updates waiting
pub digit : List Item → State → ℕ → ℕ
digit d s i = cond (slice_index_or s.active i false) 2 (cond (any_to (driven_by (slice_get d i)) s.updates) 1 0)

pub digit_le : (d : List Item) (s : State) (i : ℕ) → digit d s i ≤ 2
unfolding digit
digit_le d s i =
    cond_both (slice_index_or s.active i false) 2 (cond (any_to (driven_by (slice_get d i)) s.updates) 1 0) (λ x. x ≤ 2) (λ e. omega arith)
    (λ e. cond_both (any_to (driven_by (slice_get d i)) s.updates) 1 0 (λ x. x ≤ 2) (λ f. omega arith) (λ f. omega arith))

digit_active : (d : List Item) (s : State) (i : ℕ) → slice_index_or s.active i false ≡ true → digit d s i ≡ 2
unfolding digit
digit_active d s i h = rw h

digit_idle : (d : List Item) (s : State) (i : ℕ) → slice_index_or s.active i false ≡ false → digit d s i ≡ cond (any_to (driven_by (slice_get d i)) s.updates) 1 0
unfolding digit
digit_idle d s i h = rw h

digit_idle_le : (d : List Item) (s : State) (i : ℕ) → slice_index_or s.active i false ≡ false → digit d s i ≤ 1
digit_idle_le d s i h =
    rw (digit_idle d s i h) (cond_both (any_to (driven_by (slice_get d i)) s.updates) 1 0 (λ x. x ≤ 1) (λ f. omega arith) (λ f. omega arith))

digit_waits : (d : List Item) (s : State) (i : ℕ) → slice_index_or s.active i false ≡ false → any_to (driven_by (slice_get d i)) s.updates ≡ true → digit d s i ≡ 1
digit_waits d s i h u = digit_idle d s i h ∙ ap (λ b. cond b 1 0) u

digit_none : (d : List Item) (s : State) (i : ℕ) → slice_index_or s.active i false ≡ false → any_to (driven_by (slice_get d i)) s.updates ≡ false → digit d s i ≡ 0
digit_none d s i h u = digit_idle d s i h ∙ ap (λ b. cond b 1 0) u

pub set_false : (flags : List Bool) (i : ℕ) → slice_index_or (slice_set flags i false) i false ≡ false
set_false [] zero = refl
set_false [] (suc i) = refl
set_false (f ∷ fs) zero = refl
set_false (f ∷ fs) (suc i) = set_false fs i

-- ---- one item acts

abbrev pub with_drivers : State → List (List V4) → State
with_drivers s outs = record { bits = s.bits; drivers = outs; active = s.active; updates = s.updates }

done_moves : (d : List Item) (s : State) (i : ℕ) (e : Effect) → IsActive s i → digit d (done d s i e) i ≢ digit d s i
done_moves d s i e h q =
    let t = writes d (with_drivers s e.drivers) e.writes in
    let low : digit d (done d s i e) i ≤ 1 = digit_idle_le d (done d s i e) i (set_false t.active i) in
    let high : digit d s i ≡ 2 = digit_active d s i h in
    omega arith

done_rises : (d : List Item) (s : State) (i : ℕ) (e : Effect) (j : ℕ) → IsActive s i → AllTo (driven_by (slice_get d i)) e.writes → AllTo (driven_by (slice_get d i)) e.updates → ((b : ℕ) → any_to (driven_by (slice_get d j)) e.updates ≡ true → Drives d i b → Drives d j b → i ≡ j) → digit d s j < digit d (done d s i e) j → (b : ℕ) × Drives d i b × Senses d j b
done_rises d s i e j h to_writes to_updates apart lt = ⊎_elim on idle (cases_Bool (slice_index_or (done d s i e).active j false))
  where
    Goal : Type 0
    Goal = (b : ℕ) × Drives d i b × Senses d j b

    now_high : slice_index_or s.active j false ≡ true → ⊥
    now_high a =
        let high : digit d s j ≡ 2 = digit_active d s j a in
        let le : digit d (done d s i e) j ≤ 2 = digit_le d (done d s i e) j in
        omega arith

    other : slice_index_or (done d s i e).active j false ≡ true → j ≢ i
    other a q = true≢false (sym a ∙ (ap (λ k. slice_index_or (done d s i e).active k false) q ∙ set_false (writes d (with_drivers s e.drivers) e.writes).active i))

    on : slice_index_or (done d s i e).active j false ≡ true → (b : ℕ) × Drives d i b × Senses d j b
    on a =
        ⊎_elim (λ u. absurd (now_high u)) (λ w. w)
        (writes_at (driven_by (slice_get d i)) d (with_drivers s e.drivers) e.writes j to_writes (sym (get_or-set_other (writes d (with_drivers s e.drivers) e.writes).active i j false false (other a)) ∙ a))

    more : slice_index_or (done d s i e).active j false ≡ false → slice_index_or s.active j false ≡ false → any_to (driven_by (slice_get d j)) (done d s i e).updates ≡ true → ⊥
    more a now u =
        ⊎_elim
        (λ old.
        let one : digit d s j ≡ 1 = digit_waits d s j now (sym (ap (any_to (driven_by (slice_get d j))) (writes_updates d (with_drivers s e.drivers) e.writes)) ∙ old) in
        let le : digit d (done d s i e) j ≤ 1 = digit_idle_le d (done d s i e) j a in
        omega arith)
        (λ new.
        let w = both_name (driven_by (slice_get d j)) (driven_by (slice_get d i)) e.updates to_updates new in
        let q : i ≡ j = apart w.0 new w.2 w.1 in
        true≢false (sym h ∙ (ap (λ k. slice_index_or s.active k false) q ∙ now)))
        (any_to_append (driven_by (slice_get d j)) (writes d (with_drivers s e.drivers) e.writes).updates e.updates u)

    idle : slice_index_or (done d s i e).active j false ≡ false → (b : ℕ) × Drives d i b × Senses d j b
    idle a =
        ⊎_elim (λ now. absurd (now_high now))
        (λ now. ⊎_elim (λ u. absurd (more a now u))
        (λ u.
        let none : digit d (done d s i e) j ≡ 0 = digit_none d (done d s i e) j a u in
        absurd (omega arith))
        (cases_Bool (any_to (driven_by (slice_get d j)) (done d s i e).updates)))
        (cases_Bool (slice_index_or s.active j false))

-- ---- what an item's effect changes

resolved_to : (d : List Item) (outs : List (List V4)) (cs bs : List ℕ) → ((b : ℕ) → has bs b ≡ true → has cs b ≡ true) → AllTo cs (resolved d outs bs)
resolved_to d outs cs [] sub = tt
resolved_to d outs cs (b ∷ bs) sub = (sub b (or_left (nat_eq b b) (has bs b) (eq-eqb b b refl)), resolved_to d outs cs bs (λ x h. sub x (or_true (nat_eq b x) (has bs x) h)))

pub effect_writes : (d : List Item) (s : State) (i : ℕ) (item : Item) → Fair item → AllTo (drives item) (effect d s i item).writes
effect_writes d s i (Assign reads targets value) f = resolved_to d (slice_set s.drivers i (value s.bits)) targets targets (λ b h. h)
effect_writes d s i (Always events assigns run) f = (f s.bits).0

pub effect_updates : (d : List Item) (s : State) (i : ℕ) (item : Item) → Fair item → AllTo (drives item) (effect d s i item).updates
effect_updates d s i (Assign reads targets value) f = tt
effect_updates d s i (Always events assigns run) f = (f s.bits).1

effect_always : (d : List Item) (s : State) (i : ℕ) (item : Item) (bs : List ℕ) → any_to bs (effect d s i item).updates ≡ true → IsAlways (Some item)
effect_always d s i (Assign reads targets value) bs h = absurd (true≢false (sym h))
effect_always d s i (Always events assigns run) bs h = tt

-- ---- the batch

to_changed : (cs : List ℕ) (ws : List (ℕ × V4)) → ((b : ℕ) → has (changed_bits ws) b ≡ true → has cs b ≡ true) → AllTo cs ws
to_changed cs [] sub = tt
to_changed cs (w ∷ ws) sub = (sub w.0 (or_left (nat_eq w.0 w.0) (has (changed_bits ws) w.0) (eq-eqb w.0 w.0 refl)), to_changed cs ws (λ x h. sub x (or_true (nat_eq w.0 x) (has (changed_bits ws) x) h)))

pub owner_of : (d : List Item) (ws : List (ℕ × V4)) (b : ℕ) → Owned d ws → has (changed_bits ws) b ≡ true → (i : ℕ) × (i < length d) × Drives d i b × (any_to (driven_by (slice_get d i)) ws ≡ true)
owner_of d [] b o h = absurd (true≢false (sym h))
owner_of d (w ∷ ws) b o h =
    ⊎_elim
    (λ e. (o.0.0, o.0.1, subst (λ x. Drives d o.0.0 x) (eqb-true w.0 b e) o.0.2, or_left (has (driven_by (slice_get d o.0.0)) w.0) (any_to (driven_by (slice_get d o.0.0)) ws) o.0.2))
    (λ r. let x = owner_of d ws b o.1 r in (x.0, x.1, x.2, or_true (has (driven_by (slice_get d x.0)) w.0) (any_to (driven_by (slice_get d x.0)) ws) x.3))
    (or_cases (nat_eq w.0 b) (has (changed_bits ws) b) h)

abbrev pub emptied : State → State
emptied s = record { bits = s.bits; drivers = s.drivers; active = s.active; updates = [] }

Waits : List Item → State → ℕ → Type 0
Waits d s i = (i < length d) × (any_to (driven_by (slice_get d i)) s.updates ≡ true)

batch_any : (d : List Item) (s : State) (bs : List ℕ) → any_to bs (batch d s).updates ≡ false
batch_any d s bs = ap (any_to bs) (writes_updates d (emptied s) s.updates)

batch_moves : (d : List Item) (s : State) (i : ℕ) → NoneActive s → Waits d s i → digit d (batch d s) i ≢ digit d s i
unfolding Waits
batch_moves d s i none w q =
    let one : digit d s i ≡ 1 = digit_waits d s i (none i) w.1 in
    ⊎_elim
    (λ a. let two : digit d (batch d s) i ≡ 2 = digit_active d (batch d s) i a in omega arith)
    (λ a. let nought : digit d (batch d s) i ≡ 0 = digit_none d (batch d s) i a (batch_any d s (driven_by (slice_get d i))) in omega arith)
    (cases_Bool (slice_index_or (batch d s).active i false))

batch_rises : (d : List Item) (s : State) (j : ℕ) → NoneActive s → Owned d s.updates → digit d s j < digit d (batch d s) j → (i : ℕ) × Waits d s i × ((b : ℕ) × Drives d i b × Senses d j b)
unfolding Waits
batch_rises d s j none owned lt =
    ⊎_elim
    (λ a. ⊎_elim (λ u. absurd (true≢false (sym u ∙ none j)))
    (λ w. let o = owner_of d s.updates w.0 owned w.1 in (o.0, (o.1, o.3), (w.0, o.2, w.2)))
    (writes_at (changed_bits s.updates) d (emptied s) s.updates j (to_changed (changed_bits s.updates) s.updates (λ b h. h)) a))
    (λ a. let nought : digit d (batch d s) j ≡ 0 = digit_none d (batch d s) j a (batch_any d s (driven_by (slice_get d j))) in absurd (omega arith))
    (cases_Bool (slice_index_or (batch d s).active j false))

batch_some : (d : List Item) (s : State) (us : List (ℕ × V4)) → us ≢ [] → Owned d us → (i : ℕ) × (i < length d) × (any_to (driven_by (slice_get d i)) us ≡ true)
batch_some d s [] h o = absurd (h refl)
batch_some d s (u ∷ us) h o = (o.0.0, o.0.1, or_left (has (driven_by (slice_get d o.0.0)) u.0) (any_to (driven_by (slice_get d o.0.0)) us) o.0.2)

-- ---- any step

abbrev pub Triggers : List Item → ℕ → ℕ → Type 0
Triggers d i j = (b : ℕ) × Drives d i b × Senses d j b

apart_of : (d : List Item) (order : List ℕ) → Ordered d order → Apart (Triggers d) order
apart_of d [] o = tt
apart_of d (j ∷ rest) o = ((λ i h t. o.0 i t.0 h t.1 t.2), apart_of d rest o.1)

act_falls : (d : List Item) (order : List ℕ) (s : State) (i : ℕ) (item : Item) → slice_get d i ≡ Some item → Lawful d order → i < length d → IsActive s i → phi (digit d (done d s i (effect d s i item))) order < phi (digit d s) order
act_falls d order s i item is law within a =
    let e = effect d s i item in
    let fair : Fair item = subst (λ o. IfItem o Fair) is (law.fair i) in
    let ws : AllTo (driven_by (slice_get d i)) e.writes = subst (λ o. AllTo (driven_by o) e.writes) (sym is) (effect_writes d s i item fair) in
    let us : AllTo (driven_by (slice_get d i)) e.updates = subst (λ o. AllTo (driven_by o) e.updates) (sym is) (effect_updates d s i item fair) in
    phi_falls (digit d s) (digit d (done d s i e)) (digit_le d (done d s i e)) order
    (falls_first (Triggers d) (λ k. k ≡ i) (digit d s) (digit d (done d s i e))
    (λ k q. subst (λ x. digit d (done d s i e) x ≢ digit d s x) (sym q) (done_moves d s i e a))
    (λ j lt. (i, refl, done_rises d s i e j a ws us (λ b u p q. law.apart i j b (subst IsAlways (sym is) (effect_always d s i item (driven_by (slice_get d j)) u)) p q) lt))
    order (apart_of d order law.ordered) (λ k q. subst (λ x. has order x ≡ true) (sym q) (law.complete i within)) i refl)

batch_falls : (d : List Item) (order : List ℕ) (s : State) → Lawful d order → NoneActive s → s.updates ≢ [] → Owned d s.updates → phi (digit d (batch d s)) order < phi (digit d s) order
unfolding Waits
batch_falls d order s law none some owned =
    let first = batch_some d s s.updates some owned in
    phi_falls (digit d s) (digit d (batch d s)) (digit_le d (batch d s)) order
    (falls_first (Triggers d) (Waits d s) (digit d s) (digit d (batch d s))
    (λ k w. batch_moves d s k none w)
    (λ j lt. batch_rises d s j none owned lt)
    order (apart_of d order law.ordered) (λ k w. law.complete k w.0) first.0 (first.1, first.2))

act_any : (d : List Item) (order : List ℕ) (s : State) (i : ℕ) (o : Option Item) → slice_get d i ≡ o → Lawful d order → i < length d → IsActive s i → phi (digit d (act d s i o)) order < phi (digit d s) order
act_any d order s i None is law within a = absurd (⊎_elim (λ w. some_none _ (sym w.2 ∙ is)) (λ w. not_within w.0) (slice_get_cases d i).1)
  where
    some_none : (x : Item) → Some x ≡ None → ⊥
    some_none x q = cc

    not_within : length d ≤ i → ⊥
    not_within le = omega arith
act_any d order s i (Some item) is law within a = act_falls d order s i item is law within a

pub step_falls : (d : List Item) (order : List ℕ) (s : State) (c : Choice) → Lawful d order → Owned d s.updates → CanStep d s c → phi (digit d (step d s c)) order < phi (digit d s) order
step_falls d order s (Act i) law owned can = act_any d order s i (slice_get d i) refl law can.0 can.1
step_falls d order s Batch law owned can = batch_falls d order s law can.0 can.1 owned

-- ---- whole runs

owned_append : (d : List Item) (us ws : List (ℕ × V4)) → Owned d us → Owned d ws → Owned d (us ++ ws)
owned_append d [] ws p q = q
owned_append d (u ∷ us) ws p q = (p.0, owned_append d us ws p.1 q)

owned_to : (d : List Item) (i : ℕ) (ws : List (ℕ × V4)) → i < length d → IsAlways (slice_get d i) → AllTo (driven_by (slice_get d i)) ws → Owned d ws
owned_to d i [] h alw to = tt
owned_to d i (w ∷ ws) h alw to = ((i, h, to.0, alw), owned_to d i ws h alw to.1)

pub effect_owned : (d : List Item) (s : State) (i : ℕ) (item : Item) → slice_get d i ≡ Some item → Fair item → i < length d → Owned d (effect d s i item).updates
effect_owned d s i (Assign reads targets value) is fair h = tt
effect_owned d s i (Always events assigns run) is fair h =
    owned_to d i (run s.bits).updates h (subst IsAlways (sym is) tt) (subst (λ x. AllTo (driven_by x) (run s.bits).updates) (sym is) (fair s.bits).1)

pub act_owned : (d : List Item) (s : State) (i : ℕ) (o : Option Item) → slice_get d i ≡ o → IfItem o Fair → i < length d → Owned d s.updates → Owned d (act d s i o).updates
act_owned d s i None is fair h owned = owned
act_owned d s i (Some item) is fair h owned =
    let e = effect d s i item in
    owned_append d (writes d (with_drivers s e.drivers) e.writes).updates e.updates
    (subst (Owned d) (sym (writes_updates d (with_drivers s e.drivers) e.writes)) owned)
    (effect_owned d s i item is fair h)

pub step_owned : (d : List Item) (order : List ℕ) (s : State) (c : Choice) → Lawful d order → Owned d s.updates → CanStep d s c → Owned d (step d s c).updates
step_owned d order s (Act i) law owned can = act_owned d s i (slice_get d i) refl (law.fair i) can.0 owned
step_owned d order s Batch law owned can = subst (Owned d) (sym (writes_updates d (emptied s) s.updates)) tt

steps_below : (d : List Item) (order : List ℕ) (s : State) (cs : List Choice) → Lawful d order → Owned d s.updates → CanRun d s cs → length cs ≤ phi (digit d s) order
steps_below d order s [] law owned can = omega arith
steps_below d order s (c ∷ cs) law owned can =
    let one : phi (digit d (step d s c)) order < phi (digit d s) order = step_falls d order s c law owned can.0 in
    let rest : length cs ≤ phi (digit d (step d s c)) order = steps_below d order (step d s c) cs law (step_owned d order s c law owned can.0) can.1 in
    omega arith

pub steps_bound : (d : List Item) (order : List ℕ) (s : State) (cs : List Choice) → Lawful d order → Owned d s.updates → CanRun d s cs → length cs ≤ 3 ^ length d
steps_bound d order s cs law owned can =
    let a : length cs ≤ phi (digit d s) order = steps_below d order s cs law owned can in
    let b : phi (digit d s) order < 3 ^ length order = phi_bound (digit d s) (digit_le d s) order in
    subst (λ n. length cs ≤ 3 ^ n) law.once (omega arith)

-- where no step is possible all is quiet
updates_none : (d : List Item) (s : State) (us : List (ℕ × V4)) → (us ≢ [] → ⊥) → us ≡ []
updates_none d s [] h = refl
updates_none d s (u ∷ us) h = absurd (h (λ q. cons_nil q))
  where
    cons_nil : u ∷ us ≡ [] → ⊥
    cons_nil q = cc

pub stuck_quiet : (d : List Item) (s : State) → length s.active ≡ length d → ((c : Choice) → CanStep d s c → ⊥) → Quiet s
stuck_quiet d s len stuck = (none, updates_none d s s.updates (λ h. stuck Batch (none, h)))
  where
    within : (i : ℕ) → IsActive s i → i < length d
    within i a = ⊎_elim (λ h. omega arith) (λ h. absurd (true≢false (sym a ∙ get_or_past s.active i false (omega arith)))) (cases_lt i (length d))

    none : (i : ℕ) → slice_index_or s.active i false ≡ false
    none i = ⊎_elim (λ a. absurd (stuck (Act i) (within i a, a))) (λ a. a) (cases_Bool (slice_index_or s.active i false))
