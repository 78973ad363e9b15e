-- What holds between steps, and what a quiet state solves.
use Rattle.std.proofs.Common.{◌≡◌, ◌≢◌, ℕ, zero, suc, ◌<◌, nat_eq, Bool, true, false, ◌||◌, List, [], ◌∷◌, ◌++◌, length, Option, Some, None, slice_get, slice_set, slice_index_or, ⊎_elim, refl, sym, ap, ap₂, subst, ◌∙◌, arith, true≢false, eqb-true, eq-eqb, length-set}
use Rattle.std.proofs.lemmas.Bool.{or_cases, cases_Bool, cases_eq, cond_both}
use Rattle.std.proofs.lemmas.List.{get_or-set_other, get_or-set_same}
use Rattle.std.proofs.lemmas.Option.{slice_get_within}
use Rattle.vv_bits.specs.declared.four.V4.{V4}
use Rattle.vv_bits.specs.declared.four.V4.TheVariants.{Zero, One, X, Z}
use Rattle.vv_bits.specs.Four.{is4, code4, four_of}
use Rattle.vv_bits.specs.Resolution.{resolve4_rule}
use Rattle.vv_events.specs.Items.{has, Item, wakes, driven_by, sensed_by, Drives, Senses, AllTo, Fair, IfItem, IsAlways, Assign, Always}
use Rattle.vv_events.specs.Steps.{State, woken, bit, changed, write, writes, pick, driver_bits, drivers_of, Effect, resolved, effect, done, act, Choice, step, IsActive, CanRun, run, Quiet, Act, Batch}
use Rattle.vv_events.specs.Orders.{Ordered, Lawful, Owned}
use Rattle.vv_events.specs.Equations.{assigned, is_wire, item_values, values_of, Solves, Local, IsUpToDate, Holds}
use Rattle.vv_events.specs.Rows.{changed_bits}
use Rattle.vv_events.proofs.Descent.{or_true, or_left, effect_writes, step_owned, with_drivers, emptied}
use Rattle.vv_events.proofs.Unique.{pick_none, assigned_by, assigned_drives, one_solution}

four_of-code : (a : V4) → four_of (code4 a) ≡ a
four_of-code Zero = refl
four_of-code One = refl
four_of-code X = refl
four_of-code Z = refl

-- two bits that the test finds equal are equal
pub is4_same : (a b : V4) → is4 a b ≡ true → a ≡ b
is4_same a b h = sym (four_of-code a) ∙ ap four_of (eqb-true _ _ h) ∙ four_of-code b

-- the bits that a continuous assignment reads
abbrev reads_by : Option Item → List ℕ
reads_by None = []
reads_by (Some (Assign reads targets value)) = reads
reads_by (Some (Always events assigns f)) = []

-- ---- what writes leave

woken_length : (d : List Item) (b : ℕ) (old new : V4) (flags : List Bool) → length (woken d b old new flags) ≡ length flags
woken_length [] b old new flags = refl
woken_length (item ∷ d) b old new [] = refl
woken_length (item ∷ d) b old new (flag ∷ flags) = ap suc (woken_length d b old new flags)

woken_keeps : (d : List Item) (b : ℕ) (old new : V4) (flags : List Bool) (j : ℕ) → slice_index_or flags j false ≡ true → slice_index_or (woken d b old new flags) j false ≡ true
woken_keeps [] b old new flags j h = h
woken_keeps (item ∷ d) b old new [] j h = absurd (true≢false (sym h))
woken_keeps (item ∷ d) b old new (flag ∷ flags) zero h = or_left flag (wakes item b old new) h
woken_keeps (item ∷ d) b old new (flag ∷ flags) (suc j) h = woken_keeps d b old new flags j h

reads_wake : (item : Item) (b : ℕ) (old new : V4) → has (reads_by (Some item)) b ≡ true → wakes item b old new ≡ true
reads_wake (Assign reads targets value) b old new h = h
reads_wake (Always events assigns f) b old new h = absurd (true≢false (sym h))

pub woken_wakes : (d : List Item) (b : ℕ) (old new : V4) (flags : List Bool) (j : ℕ) → j < length flags → has (reads_by (slice_get d j)) b ≡ true → slice_index_or (woken d b old new flags) j false ≡ true
woken_wakes [] b old new flags j l h = absurd (true≢false (sym h))
woken_wakes (item ∷ d) b old new [] j l h = absurd (omega arith)
woken_wakes (item ∷ d) b old new (flag ∷ flags) zero l h = or_true flag (wakes item b old new) (reads_wake item b old new h)
woken_wakes (item ∷ d) b old new (flag ∷ flags) (suc j) l h = woken_wakes d b old new flags j (omega arith) h

pub write_flags : (d : List Item) (s : State) (w : ℕ × V4) → length (write d s w).active ≡ length s.active
write_flags d s w = cond_both (is4 (bit s w.0) w.1) s (changed d s w) (λ t. length t.active ≡ length s.active) (λ e. refl) (λ e. woken_length d w.0 (bit s w.0) w.1 s.active)

pub write_length : (d : List Item) (s : State) (w : ℕ × V4) → length (write d s w).bits ≡ length s.bits
write_length d s w = cond_both (is4 (bit s w.0) w.1) s (changed d s w) (λ t. length t.bits ≡ length s.bits) (λ e. refl) (λ e. length-set s.bits w.0 w.1)

write_drivers : (d : List Item) (s : State) (w : ℕ × V4) → (write d s w).drivers ≡ s.drivers
write_drivers d s w = cond_both (is4 (bit s w.0) w.1) s (changed d s w) (λ t. t.drivers ≡ s.drivers) (λ e. refl) (λ e. refl)

write_keeps : (d : List Item) (s : State) (w : ℕ × V4) (j : ℕ) → IsActive s j → IsActive (write d s w) j
write_keeps d s w j h = cond_both (is4 (bit s w.0) w.1) s (changed d s w) (λ t. IsActive t j) (λ e. h) (λ e. woken_keeps d w.0 (bit s w.0) w.1 s.active j h)

pub write_other : (d : List Item) (s : State) (w : ℕ × V4) (b : ℕ) → b ≢ w.0 → bit (write d s w) b ≡ bit s b
write_other d s w b n = cond_both (is4 (bit s w.0) w.1) s (changed d s w) (λ t. bit t b ≡ bit s b) (λ e. refl) (λ e. get_or-set_other s.bits w.0 b w.1 Z n)

pub write_here : (d : List Item) (s : State) (w : ℕ × V4) → w.0 < length s.bits → bit (write d s w) w.0 ≡ w.1
write_here d s w l = cond_both (is4 (bit s w.0) w.1) s (changed d s w) (λ t. bit t w.0 ≡ w.1) (λ e. is4_same (bit s w.0) w.1 e) (λ e. get_or-set_same s.bits w.0 w.1 Z l)

-- what an idle assignment reads hasn't changed
write_kept : (d : List Item) (s : State) (w : ℕ × V4) (j b : ℕ) → j < length s.active → has (reads_by (slice_get d j)) b ≡ true → slice_index_or (write d s w).active j false ≡ false → bit (write d s w) b ≡ bit s b
write_kept d s w j b l r =
    cond_both (is4 (bit s w.0) w.1) s (changed d s w) (λ t. slice_index_or t.active j false ≡ false → bit t b ≡ bit s b) (λ e h. refl)
    (λ e h. ⊎_elim (λ q. absurd (true≢false (sym (woken_wakes d w.0 (bit s w.0) w.1 s.active j l (subst (λ x. has (reads_by (slice_get d j)) x ≡ true) q r)) ∙ h))) (λ n. get_or-set_other s.bits w.0 b w.1 Z n) (cases_eq b w.0))

pub writes_flags : (d : List Item) (s : State) (ws : List (ℕ × V4)) → length (writes d s ws).active ≡ length s.active
writes_flags d s [] = refl
writes_flags d s (w ∷ ws) = writes_flags d (write d s w) ws ∙ write_flags d s w

pub writes_length : (d : List Item) (s : State) (ws : List (ℕ × V4)) → length (writes d s ws).bits ≡ length s.bits
writes_length d s [] = refl
writes_length d s (w ∷ ws) = writes_length d (write d s w) ws ∙ write_length d s w

writes_drivers : (d : List Item) (s : State) (ws : List (ℕ × V4)) → (writes d s ws).drivers ≡ s.drivers
writes_drivers d s [] = refl
writes_drivers d s (w ∷ ws) = writes_drivers d (write d s w) ws ∙ write_drivers d s w

pub writes_keep : (d : List Item) (s : State) (ws : List (ℕ × V4)) (j : ℕ) → IsActive s j → IsActive (writes d s ws) j
writes_keep d s [] j h = h
writes_keep d s (w ∷ ws) j h = writes_keep d (write d s w) ws j (write_keeps d s w j h)

-- who is idle after writes was so before
pub was_idle : (d : List Item) (s : State) (ws : List (ℕ × V4)) (j : ℕ) → slice_index_or (writes d s ws).active j false ≡ false → slice_index_or s.active j false ≡ false
was_idle d s ws j h = ⊎_elim (λ a. absurd (true≢false (sym (writes_keep d s ws j a) ∙ h))) (λ a. a) (cases_Bool (slice_index_or s.active j false))

pub writes_kept : (d : List Item) (s : State) (ws : List (ℕ × V4)) (j b : ℕ) → j < length s.active → has (reads_by (slice_get d j)) b ≡ true → slice_index_or (writes d s ws).active j false ≡ false → bit (writes d s ws) b ≡ bit s b
writes_kept d s [] j b l r h = refl
writes_kept d s (w ∷ ws) j b l r h =
    writes_kept d (write d s w) ws j b (subst (λ n. j < n) (sym (write_flags d s w)) l) r h ∙ write_kept d s w j b l r (was_idle d (write d s w) ws j h)

pub writes_outside : (cs : List ℕ) (d : List Item) (s : State) (ws : List (ℕ × V4)) (b : ℕ) → AllTo cs ws → has cs b ≡ false → bit (writes d s ws) b ≡ bit s b
writes_outside cs d s [] b to n = refl
writes_outside cs d s (w ∷ ws) b to n =
    writes_outside cs d (write d s w) ws b to.1 n ∙ write_other d s w b (λ q. true≢false (sym to.0 ∙ (ap (has cs) (sym q) ∙ n)))

-- a bit that is resolved stays so
resolved_stays : (d : List Item) (outs : List (List V4)) (s : State) (bs : List ℕ) (b : ℕ) → b < length s.bits → bit s b ≡ resolve4_rule (drivers_of d outs b) → bit (writes d s (resolved d outs bs)) b ≡ resolve4_rule (drivers_of d outs b)
resolved_stays d outs s [] b l h = h
resolved_stays d outs s (c ∷ bs) b l h =
    resolved_stays d outs (write d s w) bs b (subst (λ n. b < n) (sym (write_length d s w)) l)
    (⊎_elim (λ q. subst (λ x. bit (write d s w) x ≡ resolve4_rule (drivers_of d outs x)) (sym q) (write_here d s w (subst (λ x. x < length s.bits) q l))) (λ n. write_other d s w b n ∙ h) (cases_eq b c))
  where
    w : ℕ × V4
    w = (c, resolve4_rule (drivers_of d outs c))

resolved_at : (d : List Item) (outs : List (List V4)) (s : State) (bs : List ℕ) (b : ℕ) → b < length s.bits → has bs b ≡ true → bit (writes d s (resolved d outs bs)) b ≡ resolve4_rule (drivers_of d outs b)
resolved_at d outs s [] b l h = absurd (true≢false (sym h))
resolved_at d outs s (c ∷ bs) b l h =
    ⊎_elim
    (λ e. let q : c ≡ b = eqb-true c b e in
    resolved_stays d outs (write d s w) bs b l' (subst (λ x. bit (write d s w) x ≡ resolve4_rule (drivers_of d outs x)) q (write_here d s w (subst (λ x. x < length s.bits) (sym q) l))))
    (λ r. resolved_at d outs (write d s w) bs b l' r) (or_cases (nat_eq c b) (has bs b) h)
  where
    w : ℕ × V4
    w = (c, resolve4_rule (drivers_of d outs c))

    l' : b < length (write d s w).bits
    l' = subst (λ n. b < n) (sym (write_length d s w)) l

-- ---- drivers

pub get_set_same : {A : Type 0} (xs : List A) (i : ℕ) (a : A) → i < length xs → slice_get (slice_set xs i a) i ≡ Some a
get_set_same [] i a l = absurd (omega arith)
get_set_same (x ∷ xs) zero a l = refl
get_set_same (x ∷ xs) (suc i) a l = get_set_same xs i a (omega arith)

pub get_set_other : {A : Type 0} (xs : List A) (i j : ℕ) (a : A) → j ≢ i → slice_get (slice_set xs i a) j ≡ slice_get xs j
get_set_other [] zero j a n = refl
get_set_other [] (suc i) j a n = refl
get_set_other (x ∷ xs) zero zero a n = absurd (n refl)
get_set_other (x ∷ xs) zero (suc j) a n = refl
get_set_other (x ∷ xs) (suc i) zero a n = refl
get_set_other (x ∷ xs) (suc i) (suc j) a n = get_set_other xs i j a (λ q. n (ap suc q))

driver_bits_none : (item : Item) (out : List V4) (b : ℕ) → has (assigned item) b ≡ false → driver_bits item out b ≡ []
driver_bits_none (Assign reads targets value) out b h = pick_none targets out b h
driver_bits_none (Always events assigns f) out b h = refl

-- the drivers of a bit that item i doesn't assign
drivers_other : (d : List Item) (outs : List (List V4)) (i : ℕ) (out : List V4) (b : ℕ) → has (assigned_by (slice_get d i)) b ≡ false → drivers_of d (slice_set outs i out) b ≡ drivers_of d outs b
drivers_other [] outs i out b h = refl
drivers_other (item ∷ d) [] zero out b h = refl
drivers_other (item ∷ d) [] (suc i) out b h = refl
drivers_other (item ∷ d) (o ∷ outs) zero out b h = ap (λ vs. vs ++ drivers_of d outs b) (driver_bits_none item out b h ∙ sym (driver_bits_none item o b h))
drivers_other (item ∷ d) (o ∷ outs) (suc i) out b h = ap (λ vs. driver_bits item o b ++ vs) (drivers_other d outs i out b h)

-- ---- items

same_up : (o : Option Item) (s t : State) (j : ℕ) → IfItem o Local → slice_get t.drivers j ≡ slice_get s.drivers j → ((b : ℕ) → has (reads_by o) b ≡ true → bit t b ≡ bit s b) → IsUpToDate o s j → IsUpToDate o t j
same_up None s t j l q same up = tt
same_up (Some (Assign reads targets value)) s t j l q same up = q ∙ (up ∙ ap Some (sym (l t.bits s.bits same)))
same_up (Some (Always events assigns f)) s t j l q same up = tt

reads_sensed : (o : Option Item) (b : ℕ) → has (reads_by o) b ≡ true → has (sensed_by o) b ≡ true
reads_sensed None b h = h
reads_sensed (Some (Assign reads targets value)) b h = h
reads_sensed (Some (Always events assigns f)) b h = absurd (true≢false (sym h))

-- no item triggers itself
pub no_self : (d : List Item) (order : List ℕ) (i b : ℕ) → Ordered d order → has order i ≡ true → Drives d i b → Senses d i b → ⊥
no_self d [] i b o h dr se = true≢false (sym h)
no_self d (j ∷ rest) i b o h dr se =
    ⊎_elim (λ e. o.0 i b h dr (subst (λ x. Senses d x b) (sym (eqb-true j i e)) se)) (λ r. no_self d rest i b o.1 r dr se) (or_cases (nat_eq j i) (has rest i) h)

wire_of : (d : List Item) (b : ℕ) → is_wire d b ≡ true → (i : ℕ) × (has (assigned_by (slice_get d i)) b ≡ true)
wire_of [] b h = absurd (true≢false (sym h))
wire_of (item ∷ d) b h = ⊎_elim (λ t. (0, t)) (λ r. let w = wire_of d b r in (suc w.0, w.1)) (or_cases (has (assigned item) b) (is_wire d b) h)

pub always_assigns : (o : Option Item) (b : ℕ) → IsAlways o → has (assigned_by o) b ≡ true → ⊥
always_assigns None b a h = a
always_assigns (Some (Assign reads targets value)) b a h = a
always_assigns (Some (Always events assigns f)) b a h = true≢false (sym h)

-- a register is no wire
pub reg_no_wire : (d : List Item) (order : List ℕ) (i b : ℕ) → Lawful d order → IsAlways (slice_get d i) → Drives d i b → is_wire d b ≡ true → ⊥
reg_no_wire d order i b law a dr w =
    let v = wire_of d b w in
    let q : i ≡ v.0 = law.apart i v.0 b a dr (assigned_drives (slice_get d v.0) b v.1) in
    always_assigns (slice_get d i) b a (subst (λ k. has (assigned_by (slice_get d k)) b ≡ true) (sym q) v.1)

-- ---- steps

-- an item other than the one that acted
done_fresh : (d : List Item) (s : State) (i : ℕ) (e : Effect) (j : ℕ) (o : Option Item) → slice_get d j ≡ o → Holds d s → IfItem o Local → j ≢ i → slice_get e.drivers j ≡ slice_get s.drivers j → slice_index_or (done d s i e).active j false ≡ false → IsUpToDate o s j → IsUpToDate o (done d s i e) j
done_fresh d s i e j None is h l n q idle up = tt
done_fresh d s i e j (Some item) is h l n q idle up =
    same_up (Some item) s (done d s i e) j l (ap (λ ds. slice_get ds j) (writes_drivers d (with_drivers s e.drivers) e.writes) ∙ q)
    (λ b r. writes_kept d (with_drivers s e.drivers) e.writes j b (subst (λ m. j < m) (sym h.flags) (slice_get_within d j item is)) (subst (λ x. has (reads_by x) b ≡ true) (sym is) r) still)
    up
  where
    still : slice_index_or (writes d (with_drivers s e.drivers) e.writes).active j false ≡ false
    still = sym (get_or-set_other (writes d (with_drivers s e.drivers) e.writes).active i j false false n) ∙ idle

done_idle : (d : List Item) (s : State) (i : ℕ) (e : Effect) (j : ℕ) → j ≢ i → slice_index_or (done d s i e).active j false ≡ false → slice_index_or s.active j false ≡ false
done_idle d s i e j n idle =
    was_idle d (with_drivers s e.drivers) e.writes j (sym (get_or-set_other (writes d (with_drivers s e.drivers) e.writes).active i j false false n) ∙ idle)

-- what an item does keeps what holds
act_holds : (d : List Item) (order : List ℕ) (s : State) (i : ℕ) (item : Item) → slice_get d i ≡ Some item → Lawful d order → ((k : ℕ) → IfItem (slice_get d k) Local) → Holds d s → Holds d (done d s i (effect d s i item))
act_holds d order s i (Assign reads targets value) is law l h =
    record {
      flags = length-set (writes d s0 ws).active i false ∙ (writes_flags d s0 ws ∙ h.flags);
      outs = ap length (writes_drivers d s0 ws) ∙ (length-set s.drivers i (value s.bits) ∙ h.outs);
      inside = λ k b dr. subst (λ n. b < n) (sym (writes_length d s0 ws)) (h.inside k b dr);
      fresh = λ j idle. ⊎_elim (λ q. subst (λ k. IsUpToDate (slice_get d k) after k) (sym q) (subst (λ o. IsUpToDate o after i) (sym is) own)) (λ n. done_fresh d s i e j (slice_get d j) refl h (l j) n (get_set_other s.drivers i j (value s.bits) n) idle (h.fresh j (done_idle d s i e j n idle))) (cases_eq j i);
      joined = λ b w. joined b w;
    }
  where
    e : Effect
    e = effect d s i (Assign reads targets value)

    outs : List (List V4)
    outs = slice_set s.drivers i (value s.bits)

    s0 : State
    s0 = with_drivers s outs

    ws : List (ℕ × V4)
    ws = resolved d outs targets

    after : State
    after = done d s i e

    to : AllTo targets ws
    to = effect_writes d s i (Assign reads targets value) tt

    within : i < length d
    within = slice_get_within d i (Assign reads targets value) is

    apart : (b : ℕ) → has reads b ≡ true → has targets b ≡ false
    apart b r =
        ⊎_elim (λ t. absurd (no_self d order i b law.ordered (law.complete i within) (subst (λ o. has (driven_by o) b ≡ true) (sym is) t) (subst (λ o. has (sensed_by o) b ≡ true) (sym is) r))) (λ f. f) (cases_Bool (has targets b))

    own : slice_get after.drivers i ≡ Some (value after.bits)
    own =
        ap (λ ds. slice_get ds i) (writes_drivers d s0 ws) ∙ (get_set_same s.drivers i (value s.bits) (subst (λ n. i < n) (sym h.outs) within)
        ∙ ap Some (subst (λ o. IfItem o Local) is (l i) s.bits after.bits (λ b r. sym (writes_outside targets d s0 ws b to (apart b r)))))

    joined : (b : ℕ) → is_wire d b ≡ true → bit after b ≡ resolve4_rule (drivers_of d after.drivers b)
    joined b w =
        (⊎_elim
        (λ t. resolved_at d outs s0 targets b (h.inside i b (subst (λ o. has (driven_by o) b ≡ true) (sym is) t)) t)
        (λ f. writes_outside targets d s0 ws b to f ∙ (h.joined b w ∙ ap resolve4_rule (sym (drivers_other d s.drivers i (value s.bits) b (subst (λ o. has (assigned_by o) b ≡ false) (sym is) f)))))
        (cases_Bool (has targets b)))
        ∙ ap (λ ds. resolve4_rule (drivers_of d ds b)) (sym (writes_drivers d s0 ws))
act_holds d order s i (Always events assigns f) is law l h =
    record {
      flags = length-set (writes d s0 ws).active i false ∙ (writes_flags d s0 ws ∙ h.flags);
      outs = ap length (writes_drivers d s0 ws) ∙ h.outs;
      inside = λ k b dr. subst (λ n. b < n) (sym (writes_length d s0 ws)) (h.inside k b dr);
      fresh = λ j idle. ⊎_elim (λ q. subst (λ k. IsUpToDate (slice_get d k) after k) (sym q) (subst (λ o. IsUpToDate o after i) (sym is) tt)) (λ n. done_fresh d s i e j (slice_get d j) refl h (l j) n refl idle (h.fresh j (done_idle d s i e j n idle))) (cases_eq j i);
      joined = λ b w. (writes_outside assigns d s0 ws b to (outside b w) ∙ h.joined b w) ∙ ap (λ ds. resolve4_rule (drivers_of d ds b)) (sym (writes_drivers d s0 ws));
    }
  where
    e : Effect
    e = effect d s i (Always events assigns f)

    s0 : State
    s0 = with_drivers s s.drivers

    ws : List (ℕ × V4)
    ws = (f s.bits).writes

    after : State
    after = done d s i e

    to : AllTo assigns ws
    to = (subst (λ o. IfItem o Fair) is (law.fair i) s.bits).0

    outside : (b : ℕ) → is_wire d b ≡ true → has assigns b ≡ false
    outside b w = ⊎_elim (λ t. absurd (reg_no_wire d order i b law (subst IsAlways (sym is) tt) (subst (λ o. has (driven_by o) b ≡ true) (sym is) t) w)) (λ n. n) (cases_Bool (has assigns b))

act_option : (d : List Item) (order : List ℕ) (s : State) (i : ℕ) (o : Option Item) → slice_get d i ≡ o → Lawful d order → ((k : ℕ) → IfItem (slice_get d k) Local) → Holds d s → Holds d (act d s i o)
act_option d order s i None is law l h = h
act_option d order s i (Some item) is law l h = act_holds d order s i item is law l h

-- a list of updates names registers alone
regs_outside : (d : List Item) (order : List ℕ) (us : List (ℕ × V4)) (b : ℕ) → Lawful d order → Owned d us → is_wire d b ≡ true → has (changed_bits us) b ≡ false
regs_outside d order [] b law o w = refl
regs_outside d order (u ∷ us) b law o w =
    ⊎_elim (λ t. absurd (reg_no_wire d order o.0.0 b law o.0.3 (subst (Drives d o.0.0) (eqb-true u.0 b t) o.0.2) w)) (λ f. ap (λ c. c || has (changed_bits us) b) f ∙ regs_outside d order us b law o.1 w) (cases_Bool (nat_eq u.0 b))

pub to_changed : (cs : List ℕ) (ws : List (ℕ × V4)) → ((b : ℕ) → has (changed_bits ws) b ≡ true → has cs b ≡ true) → AllTo cs ws
to_changed cs [] sub = tt
to_changed cs (w ∷ ws) sub = (sub w.0 (or_left (nat_eq w.0 w.0) (has (changed_bits ws) w.0) (eq-eqb w.0 w.0 refl)), to_changed cs ws (λ x h. sub x (or_true (nat_eq w.0 x) (has (changed_bits ws) x) h)))

writes_fresh : (d : List Item) (s : State) (ws : List (ℕ × V4)) (j : ℕ) (o : Option Item) → slice_get d j ≡ o → length s.active ≡ length d → IfItem o Local → slice_index_or (writes d s ws).active j false ≡ false → IsUpToDate o s j → IsUpToDate o (writes d s ws) j
writes_fresh d s ws j None is len l idle up = tt
writes_fresh d s ws j (Some item) is len l idle up =
    same_up (Some item) s (writes d s ws) j l (ap (λ ds. slice_get ds j) (writes_drivers d s ws))
    (λ b r. writes_kept d s ws j b (subst (λ m. j < m) (sym len) (slice_get_within d j item is)) (subst (λ x. has (reads_by x) b ≡ true) (sym is) r) idle) up

-- changes of bits that no assignment drives: a row's inputs, or a batch
pub writes_hold : (d : List Item) (s : State) (ws : List (ℕ × V4)) → ((k : ℕ) → IfItem (slice_get d k) Local) → ((b : ℕ) → is_wire d b ≡ true → has (changed_bits ws) b ≡ false) → Holds d s → Holds d (writes d s ws)
writes_hold d s ws l outside h =
    record {
      flags = writes_flags d s ws ∙ h.flags;
      outs = ap length (writes_drivers d s ws) ∙ h.outs;
      inside = λ k b dr. subst (λ n. b < n) (sym (writes_length d s ws)) (h.inside k b dr);
      fresh = λ j idle. writes_fresh d s ws j (slice_get d j) refl h.flags (l j) idle (h.fresh j (was_idle d s ws j idle));
      joined = λ b w. (writes_outside (changed_bits ws) d s ws b (to_changed (changed_bits ws) ws (λ x y. y)) (outside b w) ∙ h.joined b w) ∙ ap (λ ds. resolve4_rule (drivers_of d ds b)) (sym (writes_drivers d s ws));
    }

emptied_holds : (d : List Item) (s : State) → ((k : ℕ) → IfItem (slice_get d k) Local) → Holds d s → Holds d (emptied s)
emptied_holds d s l h = record { flags = h.flags; outs = h.outs; inside = h.inside; fresh = λ j idle. same_up (slice_get d j) s (emptied s) j (l j) refl (λ b r. refl) (h.fresh j idle); joined = h.joined }

pub step_holds : (d : List Item) (order : List ℕ) (s : State) (c : Choice) → Lawful d order → ((k : ℕ) → IfItem (slice_get d k) Local) → Owned d s.updates → Holds d s → Holds d (step d s c)
step_holds d order s (Act i) law l owned h = act_option d order s i (slice_get d i) refl law l h
step_holds d order s Batch law l owned h = writes_hold d (emptied s) s.updates l (λ b w. regs_outside d order s.updates b law owned w) (emptied_holds d s l h)

pub run_holds : (d : List Item) (order : List ℕ) (s : State) (cs : List Choice) → Lawful d order → ((k : ℕ) → IfItem (slice_get d k) Local) → Owned d s.updates → Holds d s → CanRun d s cs → Holds d (run d s cs)
run_holds d order s [] law l owned h can = h
run_holds d order s (c ∷ cs) law l owned h can = run_holds d order (step d s c) cs law l (step_owned d order s c law owned can.0) (step_holds d order s c law l owned h) can.1

-- ---- quiet states

abbrev Fresh : List Item → List (List V4) → List V4 → Type 0
Fresh d outs bits = (i : ℕ) → IsUpToDate (slice_get d i) (record { bits = bits; drivers = outs; active = []; updates = [] }) i

item_fresh : (item : Item) (out : List V4) (outs : List (List V4)) (bits : List V4) (b : ℕ) → IsUpToDate (Some item) (record { bits = bits; drivers = out ∷ outs; active = []; updates = [] }) 0 → driver_bits item out b ≡ item_values item bits b
item_fresh (Assign reads targets value) out outs bits b up = ap (λ vs. pick targets vs b) (some_same up)
  where
    some_same : Some out ≡ Some (value bits) → out ≡ value bits
    some_same q = cc
item_fresh (Always events assigns f) out outs bits b up = refl

shift : (o : Option Item) (out : List V4) (outs : List (List V4)) (bits : List V4) (i : ℕ) → IsUpToDate o (record { bits = bits; drivers = out ∷ outs; active = []; updates = [] }) (suc i) → IsUpToDate o (record { bits = bits; drivers = outs; active = []; updates = [] }) i
shift None out outs bits i up = tt
shift (Some (Assign reads targets value)) out outs bits i up = up
shift (Some (Always events assigns f)) out outs bits i up = tt

drivers_values : (d : List Item) (outs : List (List V4)) (bits : List V4) (b : ℕ) → length outs ≡ length d → Fresh d outs bits → drivers_of d outs b ≡ values_of d bits b
drivers_values [] outs bits b len up = refl
drivers_values (item ∷ d) [] bits b len up = absurd (omega arith)
drivers_values (item ∷ d) (out ∷ outs) bits b len up =
    ap₂ (λ p q. p ++ q) (item_fresh item out outs bits b (up 0)) (drivers_values d outs bits b (omega arith) (λ i. shift (slice_get d i) out outs bits i (up (suc i))))

forget : (o : Option Item) (s : State) (i : ℕ) → IsUpToDate o s i → IsUpToDate o (record { bits = s.bits; drivers = s.drivers; active = []; updates = [] }) i
forget None s i up = tt
forget (Some (Assign reads targets value)) s i up = up
forget (Some (Always events assigns f)) s i up = tt

pub quiet_solves : (d : List Item) (s : State) → Holds d s → Quiet s → Solves d s.bits
quiet_solves d s h q b w =
    h.joined b w ∙ ap resolve4_rule (drivers_values d s.drivers s.bits b h.outs (λ i. forget (slice_get d i) s i (h.fresh i (q.0 i))))

-- two ends of runs that agree where no assignment drives agree everywhere
pub ends_agree : (d : List Item) (order : List ℕ) (s : State) (cs es : List Choice) → Lawful d order → ((k : ℕ) → IfItem (slice_get d k) Local) → Owned d s.updates → Holds d s → CanRun d s cs → CanRun d s es → Quiet (run d s cs) → Quiet (run d s es) → ((b : ℕ) → is_wire d b ≡ false → bit (run d s cs) b ≡ bit (run d s es) b) → (b : ℕ) → bit (run d s cs) b ≡ bit (run d s es) b
ends_agree d order s cs es law l owned h can can' q q' same b =
    one_solution d order (run d s cs).bits (run d s es).bits law l
    (quiet_solves d (run d s cs) (run_holds d order s cs law l owned h can) q)
    (quiet_solves d (run d s es) (run_holds d order s es law l owned h can') q') same b

pub quiet_after : (d : List Item) (order : List ℕ) (s : State) (cs : List Choice) → Lawful d order → ((k : ℕ) → IfItem (slice_get d k) Local) → Owned d s.updates → Holds d s → CanRun d s cs → Quiet (run d s cs) → Solves d (run d s cs).bits
quiet_after d order s cs law l owned h can q = quiet_solves d (run d s cs) (run_holds d order s cs law l owned h can) q
