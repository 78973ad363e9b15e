-- A run of a construct changes only what its statement assigns.
use Rattle.std.proofs.Common.{◌≡◌, ℕ, nat_eq, true, List, [], ◌∷◌, ◌++◌, refl, eq-eqb, sym, ap, ◌∙◌, slice_set}
use Rattle.std.proofs.lemmas.List.{set-get_or}
use Rattle.vv_bits.specs.declared.four.V4.TheVariants.{Z}
use Rattle.vv_bits.specs.Four.{is4}
use Rattle.vv_events.specs.Steps.{State, bit, changed, write, writes}
use Rattle.vv_events.proofs.Settled.{is4_same}
use Rattle.std.proofs.lemmas.Bool.{cond_both}
use Rattle.vv_bits.specs.declared.four.V4.{V4}
use Rattle.vv_events.specs.Items.{Item, has, AllTo, Fair, Event}
use Rattle.vv_events.specs.Values.{is_true}
use Rattle.vv_events.specs.Expressions.{value, condition_bit}
use Rattle.vv_events.specs.Statements.{written, run_of, Target, Whole, Slice, Statement, Empty, Then, Set, Update, If, Match, paired, target_writes, target_places, Progress, some_label, after, start_of, assigned_in, construct}
use Rattle.vv_events.proofs.Descent.{or_true, or_left, has_left, has_right}
use Rattle.vv_events.proofs.Operators.{part_writes_to}

to_more : (xs ys : List ℕ) (ws : List (ℕ × V4)) → ((b : ℕ) → has xs b ≡ true → has ys b ≡ true) → AllTo xs ws → AllTo ys ws
to_more xs ys [] sub all = tt
to_more xs ys (w ∷ ws) sub all = (sub w.0 all.0, to_more xs ys ws sub all.1)

to_append : (xs : List ℕ) (us ws : List (ℕ × V4)) → AllTo xs us → AllTo xs ws → AllTo xs (us ++ ws)
to_append xs [] ws p q = q
to_append xs (u ∷ us) ws p q = (p.0, to_append xs us ws p.1 q)

paired_to : (bs : List ℕ) (vs : List V4) → AllTo bs (paired bs vs)
paired_to [] vs = tt
paired_to (b ∷ bs) [] = tt
paired_to (b ∷ bs) (v ∷ vs) =
    (or_left (nat_eq b b) (has bs b) (eq-eqb b b refl), to_more bs (b ∷ bs) (paired bs vs) (λ c h. or_true (nat_eq b c) (has bs c) h) (paired_to bs vs))

target_to : (t : Target) (vs bits : List V4) → AllTo (target_places t) (target_writes t vs bits)
target_to (Whole places) vs bits = paired_to places vs
target_to (Slice vector index) vs bits = part_writes_to vector (value index bits) vs

abbrev Kept : List ℕ → Progress → Type 0
Kept cs p = AllTo cs p.writes × AllTo cs p.updates

after_kept : (cs : List ℕ) (s : Statement) (p : Progress) → ((b : ℕ) → has (assigned_in s) b ≡ true → has cs b ≡ true) → Kept cs p → Kept cs (after s p)
after_kept cs Empty p sub k = k
after_kept cs (Then first rest) p sub k =
    after_kept cs rest (after first p) (λ b h. sub b (has_right (assigned_in first) (assigned_in rest) b h))
    (after_kept cs first p (λ b h. sub b (has_left (assigned_in first) (assigned_in rest) b h)) k)
after_kept cs (Set target source) p sub k =
    (to_append cs p.writes (target_writes target (value source p.bits) p.bits) k.0 (to_more (target_places target) cs (target_writes target (value source p.bits) p.bits) sub (target_to target (value source p.bits) p.bits)), k.1)
after_kept cs (Update target source) p sub k =
    (k.0, to_append cs p.updates (target_writes target (value source p.bits) p.bits) k.1 (to_more (target_places target) cs (target_writes target (value source p.bits) p.bits) sub (target_to target (value source p.bits) p.bits)))
after_kept cs (If condition block other) p sub k =
    cond_both (is_true (condition_bit (value condition p.bits))) (after block p) (after other p) (Kept cs)
    (λ e. after_kept cs block p (λ b h. sub b (has_left (assigned_in block) (assigned_in other) b h)) k)
    (λ e. after_kept cs other p (λ b h. sub b (has_right (assigned_in block) (assigned_in other) b h)) k)
after_kept cs (Match subject labels block below) p sub k =
    cond_both (some_label labels (value subject p.bits)) (after block p) (after below p) (Kept cs)
    (λ e. after_kept cs block p (λ b h. sub b (has_left (assigned_in block) (assigned_in below) b h)) k)
    (λ e. after_kept cs below p (λ b h. sub b (has_right (assigned_in block) (assigned_in below) b h)) k)

pub construct_fair : (events : List Event) (s : Statement) → Fair (construct events s)
construct_fair events s = λ bits. after_kept (assigned_in s) s (start_of bits) (λ b h. h) (tt, tt)

-- ---- what a run sees is what the state gets

write_bits : (d : List Item) (s : State) (w : ℕ × V4) → (write d s w).bits ≡ slice_set s.bits w.0 w.1
write_bits d s w =
    cond_both (is4 (bit s w.0) w.1) s (changed d s w) (λ t. t.bits ≡ slice_set s.bits w.0 w.1)
    (λ e. sym (ap (slice_set s.bits w.0) (sym (is4_same (bit s w.0) w.1 e)) ∙ set-get_or s.bits w.0 Z))
    (λ e. refl)

pub writes_bits : (d : List Item) (s : State) (ws : List (ℕ × V4)) → (writes d s ws).bits ≡ written s.bits ws
writes_bits d s [] = refl
writes_bits d s (w ∷ ws) = writes_bits d (write d s w) ws ∙ ap (λ bits. written bits ws) (write_bits d s w)

written_append : (bits : List V4) (us ws : List (ℕ × V4)) → written (written bits us) ws ≡ written bits (us ++ ws)
written_append bits [] ws = refl
written_append bits (u ∷ us) ws = written_append (slice_set bits u.0 u.1) us ws

abbrev Seen : List V4 → Progress → Type 0
Seen bits p = p.bits ≡ written bits p.writes

after_seen : (bits : List V4) (s : Statement) (p : Progress) → Seen bits p → Seen bits (after s p)
after_seen bits Empty p k = k
after_seen bits (Then first rest) p k = after_seen bits rest (after first p) (after_seen bits first p k)
after_seen bits (Set target source) p k =
    let ws = target_writes target (value source p.bits) p.bits in
    ap (λ now. written now ws) k ∙ written_append bits p.writes ws
after_seen bits (Update target source) p k = k
after_seen bits (If condition block other) p k =
    cond_both (is_true (condition_bit (value condition p.bits))) (after block p) (after other p) (Seen bits) (λ e. after_seen bits block p k) (λ e. after_seen bits other p k)
after_seen bits (Match subject labels block below) p k =
    cond_both (some_label labels (value subject p.bits)) (after block p) (after below p) (Seen bits) (λ e. after_seen bits block p k) (λ e. after_seen bits below p k)

pub run_seen : (d : List Item) (s : State) (t : Statement) → (after t (start_of s.bits)).bits ≡ (writes d s (run_of t s.bits).writes).bits
run_seen d s t = after_seen s.bits t (start_of s.bits) refl ∙ sym (writes_bits d s (run_of t s.bits).writes)
