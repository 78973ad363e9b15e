-- Every order of a row comes to the row's equations.
use Rattle.std.proofs.Common.{◌≡◌, ◌≢◌, ℕ, zero, suc, ◌<◌, nat_eq, Bool, true, false, ◌||◌, cond, List, [], ◌∷◌, ◌++◌, length, Option, Some, None, slice_get, slice_index_or, ◌⊎◌, inl, inr, ⊎_elim, refl, sym, ap, subst, ◌∙◌, arith, true≢false, eq-eqb, ne_eqb}
use Rattle.std.proofs.lemmas.Bool.{or_cases, or_parts, cases_Bool, cases_eq, cond_both}
use Rattle.std.proofs.lemmas.List.{get_or-set_other}
use Rattle.std.proofs.lemmas.Option.{slice_get_within}
use Rattle.vv_bits.specs.declared.four.V4.{V4}
use Rattle.vv_bits.specs.declared.four.V4.TheVariants.{Z}
use Rattle.vv_bits.specs.Four.{is4}
use Rattle.vv_events.specs.Items.{AllTo, Always, Assign, Drives, Fair, IfItem, IsAlways, Item, Senses, driven_by, has, sensed_by, wakes}
use Rattle.vv_events.specs.Steps.{Act, Batch, CanRun, CanStep, Choice, Effect, IsActive, NoneActive, Quiet, State, act, batch, bit, changed, done, effect, run, step, woken, write, writes}
use Rattle.vv_events.specs.Orders.{Lawful, Owned}
use Rattle.vv_events.specs.Equations.{Holds, Local}
use Rattle.vv_events.specs.Rows.{changed_bits}
use Rattle.vv_events.specs.RowEnds.{AppendsOnly, Ends, IsPlain, RowStart, Undriven, Written, last_or, names, next, reads_of, soon, targets_of, updates_by}
use Rattle.vv_events.proofs.Descent.{or_true, set_false, writes_updates, writes_at, effect_writes, step_owned, with_drivers, emptied, owner_of}
use Rattle.vv_events.proofs.Unique.{assigned_drives}
use Rattle.vv_events.proofs.Settled.{write_here, write_other, write_length, write_flags, was_idle, writes_outside, to_changed, step_holds, quiet_solves}

last_append : (us ws : List (ℕ × V4)) (b : ℕ) (v : V4) → last_or (us ++ ws) b v ≡ last_or ws b (last_or us b v)
last_append [] ws b v = refl
last_append (u ∷ us) ws b v = last_append us ws b (cond (nat_eq u.0 b) u.1 v)

last_unnamed : (us : List (ℕ × V4)) (b : ℕ) (v : V4) → names us b ≡ false → last_or us b v ≡ v
last_unnamed [] b v h = refl
last_unnamed (u ∷ us) b v h =
    let p = or_parts (nat_eq u.0 b) (names us b) h in
    ap (λ c. last_or us b (cond c u.1 v)) p.0 ∙ last_unnamed us b v p.1

last_named : (us : List (ℕ × V4)) (b : ℕ) (v w : V4) → names us b ≡ true → last_or us b v ≡ last_or us b w
last_named [] b v w h = absurd (true≢false (sym h))
last_named (u ∷ us) b v w h =
    ⊎_elim (λ n. last_named us b _ _ n)
    (λ n. ⊎_elim (λ e. ap (λ c. last_or us b (cond c u.1 v)) e ∙ sym (ap (λ c. last_or us b (cond c u.1 w)) e)) (λ m. absurd (true≢false (sym m ∙ n))) (or_cases (nat_eq u.0 b) (names us b) h))
    (cases_Bool (names us b))

unnamed_to : (cs : List ℕ) (us : List (ℕ × V4)) (b : ℕ) → AllTo cs us → has cs b ≡ false → names us b ≡ false
unnamed_to cs [] b to h = refl
unnamed_to cs (u ∷ us) b to h =
    ap (λ c. c || names us b) (ne_eqb u.0 b (λ q. true≢false (sym to.0 ∙ (ap (has cs) q ∙ h)))) ∙ unnamed_to cs us b to.1 h

-- ---- a batch makes what was soon

write_soon : (d : List Item) (s : State) (w : ℕ × V4) (b : ℕ) → b < length s.bits → bit (write d s w) b ≡ cond (nat_eq w.0 b) w.1 (bit s b)
write_soon d s w b l =
    ⊎_elim (λ q. subst (λ x. bit (write d s w) x ≡ w.1) q (write_here d s w (subst (λ x. x < length s.bits) (sym q) l)) ∙ ap (λ c. cond c w.1 (bit s b)) (sym (eq-eqb w.0 b q)))
    (λ n. write_other d s w b (λ q. n (sym q)) ∙ ap (λ c. cond c w.1 (bit s b)) (sym (ne_eqb w.0 b n)))
    (cases_eq w.0 b)

writes_soon : (d : List Item) (s : State) (ws : List (ℕ × V4)) (b : ℕ) → b < length s.bits → bit (writes d s ws) b ≡ last_or ws b (bit s b)
writes_soon d s [] b l = refl
writes_soon d s (w ∷ ws) b l =
    writes_soon d (write d s w) ws b (subst (λ n. b < n) (sym (write_length d s w)) l) ∙ ap (last_or ws b) (write_soon d s w b l)

batch_soon : (d : List Item) (s : State) (b : ℕ) → b < length s.bits → soon (batch d s) b ≡ soon s b
batch_soon d s b l = ap (λ us. last_or us b (bit (batch d s) b)) (writes_updates d (emptied s) s.updates) ∙ writes_soon d (emptied s) s.updates b l

done_soon : (d : List Item) (s : State) (i : ℕ) (e : Effect) (b : ℕ) → bit (writes d (with_drivers s e.drivers) e.writes) b ≡ bit s b → soon (done d s i e) b ≡ last_or e.updates b (soon s b)
done_soon d s i e b same =
    let t = writes d (with_drivers s e.drivers) e.writes in
    last_append t.updates e.updates b (bit t b) ∙ (ap (λ us. last_or e.updates b (last_or us b (bit t b))) (writes_updates d (with_drivers s e.drivers) e.writes) ∙ ap (λ v. last_or e.updates b (last_or s.updates b v)) same)

-- ---- what an idle plain item senses hasn't changed

plain_woken : (d : List Item) (b : ℕ) (old new : V4) (flags : List Bool) (j : ℕ) → j < length flags → IfItem (slice_get d j) IsPlain → Senses d j b → slice_index_or (woken d b old new flags) j false ≡ true
plain_woken [] b old new flags j l p h = absurd (true≢false (sym h))
plain_woken (item ∷ d) b old new [] j l p h = absurd (omega arith)
plain_woken (item ∷ d) b old new (flag ∷ flags) zero l p h = or_true flag (wakes item b old new) (p b old new h)
plain_woken (item ∷ d) b old new (flag ∷ flags) (suc j) l p h = plain_woken d b old new flags j (omega arith) p h

plain_write : (d : List Item) (s : State) (w : ℕ × V4) (j b : ℕ) → j < length s.active → IfItem (slice_get d j) IsPlain → Senses d j b → slice_index_or (write d s w).active j false ≡ false → bit (write d s w) b ≡ bit s b
plain_write d s w j b l p r =
    cond_both (is4 (bit s w.0) w.1) s (changed d s w) (λ t. slice_index_or t.active j false ≡ false → bit t b ≡ bit s b) (λ e h. refl)
    (λ e h. ⊎_elim (λ q. absurd (true≢false (sym (plain_woken d w.0 (bit s w.0) w.1 s.active j l p (subst (Senses d j) q r)) ∙ h))) (λ n. get_or-set_other s.bits w.0 b w.1 Z n) (cases_eq b w.0))

plain_kept : (d : List Item) (s : State) (ws : List (ℕ × V4)) (j b : ℕ) → j < length s.active → IfItem (slice_get d j) IsPlain → Senses d j b → slice_index_or (writes d s ws).active j false ≡ false → bit (writes d s ws) b ≡ bit s b
plain_kept d s [] j b l p r h = refl
plain_kept d s (w ∷ ws) j b l p r h =
    plain_kept d (write d s w) ws j b (subst (λ n. j < n) (sym (write_flags d s w)) l) p r h ∙ plain_write d s w j b l p r (was_idle d (write d s w) ws j h)

always_within : (d : List Item) (i : ℕ) (o : Option Item) → slice_get d i ≡ o → IsAlways o → i < length d
always_within d i None is a = absurd a
always_within d i (Some item) is a = slice_get_within d i item is

-- ---- the invariant

pub record Between (d : List Item) (edge : ℕ → Bool) (moves : ℕ → Bool) (start s : State) : Type 0 where
  pub holds : Holds d s
  pub owned : Owned d s.updates
  pub inputs : (b : ℕ) → Undriven d b → bit s b ≡ bit start b
  pub edge_idle : (i b : ℕ) → edge i ≡ true → IsAlways (slice_get d i) → Drives d i b → slice_index_or s.active i false ≡ false → soon s b ≡ next d start i b
  pub edge_waits : (i b : ℕ) → edge i ≡ true → IsAlways (slice_get d i) → Drives d i b → IsActive s i → soon s b ≡ bit start b
  pub edge_started : (i : ℕ) → edge i ≡ true → IsActive s i → IsActive start i
  pub early_bits : (i : ℕ) → edge i ≡ true → IsAlways (slice_get d i) → IsActive s i → (b : ℕ) → moves b ≡ false → bit s b ≡ bit start b
  pub early_moves : (i : ℕ) → edge i ≡ true → IsAlways (slice_get d i) → IsActive s i → (j b : ℕ) → IsActive s j → targets_of (slice_get d j) b ≡ true → moves b ≡ true
  pub level_idle : (i b : ℕ) → edge i ≡ false → IsAlways (slice_get d i) → Drives d i b → slice_index_or s.active i false ≡ false → soon s b ≡ last_or (updates_by (slice_get d i) s.bits) b (bit start b)
  pub level_keeps : (i b : ℕ) → edge i ≡ false → IsAlways (slice_get d i) → Drives d i b → names (updates_by (slice_get d i) start.bits) b ≡ false → soon s b ≡ bit start b

start_between : (d : List Item) (edge moves : ℕ → Bool) (s : State) → RowStart d edge moves s → Between d edge moves s s
start_between d edge moves s r =
    record {
      holds = r.holds;
      owned = subst (Owned d) (sym r.none_waits) tt;
      inputs = λ b u. refl;
      edge_idle = λ i b e a dr idle. now b ∙ ap (λ c. cond c (last_or (updates_by (slice_get d i) s.bits) b (bit s b)) (bit s b)) (sym idle);
      edge_waits = λ i b e a dr on. now b;
      edge_started = λ i e on. on;
      early_bits = λ i e a on b m. refl;
      early_moves = λ i e a on j b onj t. r.first_move j b onj t;
      level_idle = λ i b e a dr idle. now b ∙ r.level_kept i b e a dr idle;
      level_keeps = λ i b e a dr n. now b;
    }
  where
    now : (b : ℕ) → soon s b ≡ bit s b
    now b = ap (λ us. last_or us b (bit s b)) r.none_waits

-- ---- one item acts

-- what an act of item i leaves alone
record Moved (d : List Item) (s : State) (i : ℕ) (after : State) : Type 0 where
  idle_before : (j : ℕ) → j ≢ i → slice_index_or after.active j false ≡ false → slice_index_or s.active j false ≡ false
  stays : (j : ℕ) → IsActive after j → (j ≢ i) × (IsActive s j ⊎ ((b : ℕ) × (targets_of (slice_get d i) b ≡ true) × Senses d j b))
  outside : (b : ℕ) → targets_of (slice_get d i) b ≡ false → bit after b ≡ bit s b
  plain : (j b : ℕ) → j ≢ i → j < length d → IfItem (slice_get d j) IsPlain → Senses d j b → slice_index_or after.active j false ≡ false → bit after b ≡ bit s b
  soon_other : (b : ℕ) → has (driven_by (slice_get d i)) b ≡ false → soon after b ≡ soon s b
  soon_own : (b : ℕ) → IsAlways (slice_get d i) → soon after b ≡ last_or (updates_by (slice_get d i) s.bits) b (soon s b)

done_moved : (d : List Item) (s : State) (i : ℕ) (e : Effect) (targets : List ℕ) → length s.active ≡ length d → ((b : ℕ) → targets_of (slice_get d i) b ≡ has targets b) → AllTo targets e.writes → ((b : ℕ) → has (driven_by (slice_get d i)) b ≡ false → has targets b ≡ false) → AllTo (driven_by (slice_get d i)) e.updates → (IsAlways (slice_get d i) → (e.updates ≡ updates_by (slice_get d i) s.bits) × ((b : ℕ) → has targets b ≡ false)) → Moved d s i (done d s i e)
done_moved d s i e targets len is_targets to_writes sub to_updates own =
    record {
      idle_before = λ j n idle. was_idle d s0 e.writes j (still j n idle);
      stays = λ j on. (other j on, ⊎_elim (λ a. inl a) (λ w. inr (w.0, is_targets w.0 ∙ w.1, w.2)) (writes_at targets d s0 e.writes j to_writes (sym (get_or-set_other t.active i j false false (other j on)) ∙ on)));
      outside = λ b n. writes_outside targets d s0 e.writes b to_writes (sym (is_targets b) ∙ n);
      plain = λ j b n l p se idle. plain_kept d s0 e.writes j b (subst (λ m. j < m) (sym len) l) p se (still j n idle);
      soon_other = λ b n. done_soon d s i e b (writes_outside targets d s0 e.writes b to_writes (sub b n)) ∙ last_unnamed e.updates b (soon s b) (unnamed_to (driven_by (slice_get d i)) e.updates b to_updates n);
      soon_own = λ b a. done_soon d s i e b (writes_outside targets d s0 e.writes b to_writes ((own a).1 b)) ∙ ap (λ us. last_or us b (soon s b)) (own a).0;
    }
  where
    s0 : State
    s0 = with_drivers s e.drivers

    t : State
    t = writes d s0 e.writes

    other : (j : ℕ) → IsActive (done d s i e) j → j ≢ i
    other j on q = true≢false (sym on ∙ (ap (λ k. slice_index_or (done d s i e).active k false) q ∙ set_false t.active i))

    still : (j : ℕ) → j ≢ i → slice_index_or (done d s i e).active j false ≡ false → slice_index_or t.active j false ≡ false
    still j n idle = sym (get_or-set_other t.active i j false false n) ∙ idle

act_moved : (d : List Item) (s : State) (i : ℕ) (item : Item) → slice_get d i ≡ Some item → Fair item → AppendsOnly item → length s.active ≡ length d → Moved d s i (done d s i (effect d s i item))
act_moved d s i (Assign reads targets value) is fair app len =
    done_moved d s i (effect d s i (Assign reads targets value)) targets len (λ b. ap (λ o. targets_of o b) is)
    (effect_writes d s i (Assign reads targets value) fair) (λ b n. subst (λ o. has (driven_by o) b ≡ false) is n) tt
    (λ a. absurd (subst IsAlways is a))
act_moved d s i (Always events assigns f) is fair app len =
    done_moved d s i (effect d s i (Always events assigns f)) [] len (λ b. ap (λ o. targets_of o b) is)
    (subst (AllTo []) (sym (app s.bits)) tt) (λ b n. refl) (subst (λ o. AllTo (driven_by o) (f s.bits).updates) (sym is) (fair s.bits).1)
    (λ a. (ap (λ o. updates_by o s.bits) (sym is), λ b. refl))

drives_cases : (o : Option Item) (b : ℕ) → has (driven_by o) b ≡ true → (targets_of o b ≡ true) ⊎ IsAlways o
drives_cases None b h = absurd (true≢false (sym h))
drives_cases (Some (Assign reads targets value)) b h = inl h
drives_cases (Some (Always events assigns f)) b h = inr tt

always_targets : (o : Option Item) (b : ℕ) → IsAlways o → targets_of o b ≡ false
always_targets None b a = absurd a
always_targets (Some (Assign reads targets value)) b a = absurd a
always_targets (Some (Always events assigns f)) b a = refl

sense_reads : (o : Option Item) (b c : ℕ) → targets_of o b ≡ true → has (sensed_by o) c ≡ true → reads_of o c ≡ true
sense_reads None b c t h = absurd (true≢false (sym t))
sense_reads (Some (Assign reads targets value)) b c t h = h
sense_reads (Some (Always events assigns f)) b c t h = absurd (true≢false (sym t))

-- a register of one construct is no other item's
other_driven : (d : List Item) (order : List ℕ) (k i b : ℕ) → Lawful d order → IsAlways (slice_get d k) → Drives d k b → k ≢ i → has (driven_by (slice_get d i)) b ≡ false
other_driven d order k i b law a dr n = ⊎_elim (λ t. absurd (n (law.apart k i b a dr t))) (λ f. f) (cases_Bool (has (driven_by (slice_get d i)) b))

act_between : (d : List Item) (order : List ℕ) (edge moves : ℕ → Bool) (start s : State) (i : ℕ) (after : State) → Lawful d order → Written d edge → RowStart d edge moves start → Between d edge moves start s → IsActive s i → Holds d after → Owned d after.updates → Moved d s i after → Between d edge moves start after
act_between d order edge moves start s i after law w r h on holds' owned' m =
    record {
      holds = holds';
      owned = owned';
      inputs = λ b u. m.outside b (no_target b u) ∙ h.inputs b u;
      edge_idle = λ k b e a dr idle. ⊎_elim (λ q. edge_own k b q e a dr) (λ n. m.soon_other b (other_driven d order k i b law a dr n) ∙ h.edge_idle k b e a dr (m.idle_before k n idle)) (cases_eq k i);
      edge_waits = λ k b e a dr on'. m.soon_other b (other_driven d order k i b law a dr (m.stays k on').0) ∙ h.edge_waits k b e a dr (edge_was k e on');
      edge_started = λ k e on'. h.edge_started k e (edge_was k e on');
      early_bits = λ k e a on' b mv. m.outside b (moves_not k e a (edge_was k e on') b mv) ∙ h.early_bits k e a (edge_was k e on') b mv;
      early_moves = λ k e a on' j b onj t. ⊎_elim (λ was. h.early_moves k e a (edge_was k e on') j b was t) (λ x. r.then_move j b x.0 (sense_reads (slice_get d j) b x.0 t x.2) (h.early_moves k e a (edge_was k e on') i x.0 on x.1) t) (m.stays j onj).1;
      level_idle = λ k b e a dr idle. ⊎_elim (λ q. level_own k b q e a dr) (λ n. level_other k b n e a dr idle) (cases_eq k i);
      level_keeps = λ k b e a dr un. ⊎_elim (λ q. keeps_own k b q e a dr un) (λ n. m.soon_other b (other_driven d order k i b law a dr n) ∙ h.level_keeps k b e a dr un) (cases_eq k i);
    }
  where
    no_target : (b : ℕ) → Undriven d b → targets_of (slice_get d i) b ≡ false
    no_target b u = ⊎_elim (λ t. absurd (u i (target_driven (slice_get d i) b t))) (λ f. f) (cases_Bool (targets_of (slice_get d i) b))
      where
        target_driven : (o : Option Item) (c : ℕ) → targets_of o c ≡ true → has (driven_by o) c ≡ true
        target_driven None c t = t
        target_driven (Some item) c t = assigned_drives (Some item) c t

    edge_was : (k : ℕ) → edge k ≡ true → IsActive after k → IsActive s k
    edge_was k e on' =
        ⊎_elim (λ a. a) (λ x. absurd (⊎_elim (λ t. w.by_inputs k x.0 e x.2 i t) (λ f. true≢false (sym x.1 ∙ no_target' x.0 f)) (cases_Bool (has (driven_by (slice_get d i)) x.0)))) (m.stays k on').1
      where
        no_target' : (b : ℕ) → has (driven_by (slice_get d i)) b ≡ false → targets_of (slice_get d i) b ≡ false
        no_target' b f = ⊎_elim (λ t. absurd (true≢false (sym (target_driven (slice_get d i) b t) ∙ f))) (λ g. g) (cases_Bool (targets_of (slice_get d i) b))
          where
            target_driven : (o : Option Item) (c : ℕ) → targets_of o c ≡ true → has (driven_by o) c ≡ true
            target_driven None c t = t
            target_driven (Some item) c t = assigned_drives (Some item) c t

    moves_not : (k : ℕ) → edge k ≡ true → IsAlways (slice_get d k) → IsActive s k → (b : ℕ) → moves b ≡ false → targets_of (slice_get d i) b ≡ false
    moves_not k e a was b mv = ⊎_elim (λ t. absurd (true≢false (sym (h.early_moves k e a was i b on t) ∙ mv))) (λ f. f) (cases_Bool (targets_of (slice_get d i) b))

    edge_own : (k b : ℕ) → k ≡ i → edge k ≡ true → IsAlways (slice_get d k) → Drives d k b → soon after b ≡ next d start k b
    edge_own k b q e a dr =
        let onk : IsActive s k = subst (IsActive s) (sym q) on in
        subst (λ j. IsAlways (slice_get d j) → soon after b ≡ last_or (updates_by (slice_get d j) s.bits) b (soon s b)) (sym q) (m.soon_own b) a
        ∙ (ap (λ us. last_or us b (soon s b)) (r.steady k e (h.edge_started k e onk) s.bits (h.early_bits k e a onk))
        ∙ (ap (last_or (updates_by (slice_get d k) start.bits) b) (h.edge_waits k b e a dr onk)
        ∙ ap (λ c. cond c (last_or (updates_by (slice_get d k) start.bits) b (bit start b)) (bit start b)) (sym (h.edge_started k e onk))))

    unnamed_now : (k b : ℕ) → edge k ≡ false → Drives d k b → names (updates_by (slice_get d k) start.bits) b ≡ names (updates_by (slice_get d k) s.bits) b
    unnamed_now k b e dr = w.moded k b e dr start.bits s.bits (λ c u. sym (h.inputs c u))

    own_soon : (k b : ℕ) → k ≡ i → IsAlways (slice_get d k) → soon after b ≡ last_or (updates_by (slice_get d k) s.bits) b (soon s b)
    own_soon k b q a = subst (λ j. IsAlways (slice_get d j) → soon after b ≡ last_or (updates_by (slice_get d j) s.bits) b (soon s b)) (sym q) (m.soon_own b) a

    level_own : (k b : ℕ) → k ≡ i → edge k ≡ false → IsAlways (slice_get d k) → Drives d k b → soon after b ≡ last_or (updates_by (slice_get d k) after.bits) b (bit start b)
    level_own k b q e a dr =
        own_soon k b q a
        ∙ (⊎_elim (λ nm. last_named (updates_by (slice_get d k) s.bits) b (soon s b) (bit start b) nm)
        (λ un. ap (last_or (updates_by (slice_get d k) s.bits) b) (h.level_keeps k b e a dr (unnamed_now k b e dr ∙ un)))
        (cases_Bool (names (updates_by (slice_get d k) s.bits) b))
        ∙ ap (λ us. last_or us b (bit start b)) (w.level k e s.bits after.bits (λ c se. sym (m.outside c (subst (λ j. targets_of (slice_get d j) c ≡ false) q (always_targets (slice_get d k) c a))))))

    level_other : (k b : ℕ) → k ≢ i → edge k ≡ false → IsAlways (slice_get d k) → Drives d k b → slice_index_or after.active k false ≡ false → soon after b ≡ last_or (updates_by (slice_get d k) after.bits) b (bit start b)
    level_other k b n e a dr idle =
        m.soon_other b (other_driven d order k i b law a dr n)
        ∙ (h.level_idle k b e a dr (m.idle_before k n idle)
        ∙ ap (λ us. last_or us b (bit start b)) (w.level k e s.bits after.bits (λ c se. sym (m.plain k c n (always_within d k (slice_get d k) refl a) (w.plain k e) se idle))))

    keeps_own : (k b : ℕ) → k ≡ i → edge k ≡ false → IsAlways (slice_get d k) → Drives d k b → names (updates_by (slice_get d k) start.bits) b ≡ false → soon after b ≡ bit start b
    keeps_own k b q e a dr un =
        own_soon k b q a ∙ (last_unnamed (updates_by (slice_get d k) s.bits) b (soon s b) (sym (unnamed_now k b e dr) ∙ un) ∙ h.level_keeps k b e a dr un)

-- ---- the batch

batch_between : (d : List Item) (order : List ℕ) (edge moves : ℕ → Bool) (start s : State) → Lawful d order → Written d edge → Between d edge moves start s → NoneActive s → Holds d (batch d s) → Owned d (batch d s).updates → Between d edge moves start (batch d s)
batch_between d order edge moves start s law w h none holds' owned' =
    record {
      holds = holds';
      owned = owned';
      inputs = λ b u. writes_outside (changed_bits s.updates) d (emptied s) s.updates b to (⊎_elim (λ t. let o = owner_of d s.updates b h.owned t in absurd (u o.0 o.2)) (λ f. f) (cases_Bool (has (changed_bits s.updates) b))) ∙ h.inputs b u;
      edge_idle = λ k b e a dr idle. batch_soon d s b (h.holds.inside k b dr) ∙ h.edge_idle k b e a dr (none k);
      edge_waits = λ k b e a dr on. absurd (never k e on);
      edge_started = λ k e on. absurd (never k e on);
      early_bits = λ k e a on b mv. absurd (never k e on);
      early_moves = λ k e a on j b onj t. absurd (never k e on);
      level_idle = λ k b e a dr idle. batch_soon d s b (h.holds.inside k b dr) ∙ (h.level_idle k b e a dr (none k) ∙ ap (λ us. last_or us b (bit start b)) (w.level k e s.bits (batch d s).bits (λ c se. sym (plain_kept d (emptied s) s.updates k c (subst (λ n. k < n) (sym h.holds.flags) (always_within d k (slice_get d k) refl a)) (w.plain k e) se idle))));
      level_keeps = λ k b e a dr un. batch_soon d s b (h.holds.inside k b dr) ∙ h.level_keeps k b e a dr un;
    }
  where
    to : AllTo (changed_bits s.updates) s.updates
    to = to_changed (changed_bits s.updates) s.updates (λ x y. y)

    never : (k : ℕ) → edge k ≡ true → IsActive (batch d s) k → ⊥
    never k e on =
        ⊎_elim (λ a. true≢false (sym a ∙ none k)) (λ x. let o = owner_of d s.updates x.0 h.owned x.1 in w.by_inputs k x.0 e x.2 o.0 o.2) (writes_at (changed_bits s.updates) d (emptied s) s.updates k to on)

-- ---- whole runs

act_option : (d : List Item) (order : List ℕ) (edge moves : ℕ → Bool) (start s : State) (i : ℕ) (o : Option Item) → slice_get d i ≡ o → Lawful d order → Written d edge → RowStart d edge moves start → Between d edge moves start s → IsActive s i → Holds d (act d s i o) → Owned d (act d s i o).updates → Between d edge moves start (act d s i o)
act_option d order edge moves start s i None is law w r h on holds' owned' = h
act_option d order edge moves start s i (Some item) is law w r h on holds' owned' =
    act_between d order edge moves start s i (done d s i (effect d s i item)) law w r h on holds' owned'
    (act_moved d s i item is (subst (λ o. IfItem o Fair) is (law.fair i)) (subst (λ o. IfItem o AppendsOnly) is (w.appends i)) h.holds.flags)

step_between : (d : List Item) (order : List ℕ) (edge moves : ℕ → Bool) (start s : State) (c : Choice) → Lawful d order → ((k : ℕ) → IfItem (slice_get d k) Local) → Written d edge → RowStart d edge moves start → Between d edge moves start s → CanStep d s c → Between d edge moves start (step d s c)
step_between d order edge moves start s (Act i) law l w r h can =
    act_option d order edge moves start s i (slice_get d i) refl law w r h can.1 (step_holds d order s (Act i) law l h.owned h.holds) (step_owned d order s (Act i) law h.owned can)
step_between d order edge moves start s Batch law l w r h can =
    batch_between d order edge moves start s law w h can.0 (step_holds d order s Batch law l h.owned h.holds) (step_owned d order s Batch law h.owned can)

run_between : (d : List Item) (order : List ℕ) (edge moves : ℕ → Bool) (start s : State) (cs : List Choice) → Lawful d order → ((k : ℕ) → IfItem (slice_get d k) Local) → Written d edge → RowStart d edge moves start → Between d edge moves start s → CanRun d s cs → Between d edge moves start (run d s cs)
run_between d order edge moves start s [] law l w r h can = h
run_between d order edge moves start s (c ∷ cs) law l w r h can =
    run_between d order edge moves start (step d s c) cs law l w r (step_between d order edge moves start s c law l w r h can.0) can.1

-- a quiet end solves the row's equations
pub row_ends : (d : List Item) (order : List ℕ) (edge moves : ℕ → Bool) (start : State) (cs : List Choice) → Lawful d order → ((k : ℕ) → IfItem (slice_get d k) Local) → Written d edge → RowStart d edge moves start → CanRun d start cs → Quiet (run d start cs) → Ends d edge start (run d start cs).bits
row_ends d order edge moves start cs law l w r can q =
    record {
      inputs = h.inputs;
      edges = λ k b e a dr. sym (now b) ∙ h.edge_idle k b e a dr (q.0 k);
      levels = λ k b e a dr. sym (now b) ∙ h.level_idle k b e a dr (q.0 k);
      wires = quiet_solves d (run d start cs) h.holds q;
    }
  where
    h : Between d edge moves start (run d start cs)
    h = run_between d order edge moves start start cs law l w r (start_between d edge moves start r) can

    now : (b : ℕ) → soon (run d start cs) b ≡ bit (run d start cs) b
    now b = ap (λ us. last_or us b (bit (run d start cs) b)) q.1
