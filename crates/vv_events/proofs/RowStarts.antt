-- Power-on and rows: what holds there, and the ordered run.
use Rattle.std.proofs.Common.{◌≡◌, ◌≢◌, ℕ, zero, suc, ◌+◌, ◌<◌, ◌≤◌, ◌^◌, nat_eq, Bool, true, false, ◌||◌, ◌&&◌, cond, if◌then◌else◌, List, [], ◌∷◌, ◌++◌, length, Option, Some, None, slice_get, slice_index_or, ⊎_elim, refl, sym, ap, ap₂, subst, ◌∙◌, arith, true≢false, length-set}
use Rattle.std.proofs.lemmas.Bool.{or_cases, cond_both, cases_Bool}
use Rattle.std.proofs.lemmas.List.{get_or-set_other, set_comm}
use Rattle.vv_bits.specs.declared.four.V4.{V4}
use Rattle.vv_bits.specs.declared.four.V4.TheVariants.{Zero, One, X, Z}
use Rattle.vv_bits.specs.Four.{is4}
use Rattle.vv_bits.specs.Resolution.{resolve4_rule, has4}
use Rattle.vv_events.specs.Items.{has, Item, Assign, Always, IfItem, wakes}
use Rattle.vv_events.specs.Steps.{State, bit, woken, changed, write, writes, pick, driver_bits, drivers_of, effect, act, Choice, Act, Batch, step, run, CanStep, CanRun, Quiet}
use Rattle.vv_events.specs.Orders.{Lawful, Owned}
use Rattle.vv_events.specs.Equations.{assigned, is_wire, Local, IsUpToDate, Holds, Solves}
use Rattle.vv_events.specs.Rows.{Declared, Wire, start_bit, start_bits, all_x, start_drivers, all_start_drivers, start_active, power_on, Fits, NoWire, row, earliest, later, choice_of, next_choice, follow, ordered_steps}
use Rattle.vv_events.proofs.Potential.{phi, phi_bound}
use Rattle.vv_events.proofs.Descent.{or_true, or_left, writes_updates, with_drivers, emptied, digit, digit_le, step_falls, step_owned, steps_bound}
use Rattle.vv_events.proofs.Settled.{write_other, writes_flags, writes_hold, run_holds, quiet_solves}

-- ---- power-on

start_bits_length : (d : List Item) (b : ℕ) (ks : List Declared) → length (start_bits d b ks) ≡ length ks
start_bits_length d b [] = refl
start_bits_length d b (k ∷ ks) = ap suc (start_bits_length d (suc b) ks)

start_bits_at : (d : List Item) (b : ℕ) (ks : List Declared) (i : ℕ) (k : Declared) → slice_get ks i ≡ Some k → slice_index_or (start_bits d b ks) i Z ≡ start_bit d (b + i) k
start_bits_at d b [] i k h = absurd (none_some h)
  where
    none_some : None ≡ Some k → ⊥
    none_some q = cc
start_bits_at d b (x ∷ ks) zero k h = ap (start_bit d b) (some_same h) ∙ ap (λ c. start_bit d c k) same
  where
    some_same : Some x ≡ Some k → x ≡ k
    some_same q = cc

    same : b ≡ b + 0
    same = omega arith
start_bits_at d b (x ∷ ks) (suc i) k h = start_bits_at d (suc b) ks i k h ∙ ap (λ c. start_bit d c k) same
  where
    same : suc b + i ≡ b + suc i
    same = omega arith

start_active_length : (d : List Item) → length (start_active d) ≡ length d
start_active_length [] = refl
start_active_length (item ∷ d) = ap suc (start_active_length d)

start_drivers_length : (d : List Item) → length (all_start_drivers d) ≡ length d
start_drivers_length [] = refl
start_drivers_length (item ∷ d) = ap suc (start_drivers_length d)

-- only constructs are idle
starts_fresh : (d : List Item) (s : State) (i j : ℕ) → slice_index_or (start_active d) i false ≡ false → IsUpToDate (slice_get d i) s j
starts_fresh [] s i j h = tt
starts_fresh (Assign reads targets value ∷ d) s zero j h = absurd (true≢false h)
starts_fresh (Always events assigns f ∷ d) s zero j h = tt
starts_fresh (item ∷ d) s (suc i) j h = starts_fresh d s i j h

has4_left : (v : V4) (xs ys : List V4) → has4 v xs ≡ true → has4 v (xs ++ ys) ≡ true
has4_left v [] ys h = absurd (true≢false (sym h))
has4_left v (x ∷ xs) ys h = ⊎_elim (λ e. or_left (is4 x v) (has4 v (xs ++ ys)) e) (λ r. or_true (is4 x v) (has4 v (xs ++ ys)) (has4_left v xs ys r)) (or_cases (is4 x v) (has4 v xs) h)

has4_right : (v : V4) (xs ys : List V4) → has4 v ys ≡ true → has4 v (xs ++ ys) ≡ true
has4_right v [] ys h = h
has4_right v (x ∷ xs) ys h = or_true (is4 x v) (has4 v (xs ++ ys)) (has4_right v xs ys h)

pick_x : (ts : List ℕ) (b : ℕ) → has ts b ≡ true → has4 X (pick ts (all_x ts) b) ≡ true
pick_x [] b h = absurd (true≢false (sym h))
pick_x (t ∷ ts) b h =
    cond_both (nat_eq t b) (X ∷ pick ts (all_x ts) b) (pick ts (all_x ts) b) (λ l. has4 X l ≡ true) (λ e. refl) (λ e. ⊎_elim (λ q. absurd (true≢false (sym q ∙ e))) (λ r. pick_x ts b r) (or_cases (nat_eq t b) (has ts b) h))

item_x : (item : Item) (b : ℕ) → has (assigned item) b ≡ true → has4 X (driver_bits item (start_drivers item) b) ≡ true
item_x (Assign reads targets value) b h = pick_x targets b h
item_x (Always events assigns f) b h = absurd (true≢false (sym h))

drivers_x : (d : List Item) (b : ℕ) → is_wire d b ≡ true → has4 X (drivers_of d (all_start_drivers d) b) ≡ true
drivers_x [] b h = absurd (true≢false (sym h))
drivers_x (item ∷ d) b h =
    ⊎_elim (λ e. has4_left X (driver_bits item (start_drivers item) b) (drivers_of d (all_start_drivers d) b) (item_x item b e)) (λ r. has4_right X (driver_bits item (start_drivers item) b) (drivers_of d (all_start_drivers d) b) (drivers_x d b r)) (or_cases (has (assigned item) b) (is_wire d b) h)

-- an x among the drivers wins
resolve_x : (xs : List V4) → has4 X xs ≡ true → resolve4_rule xs ≡ X
resolve_x xs h = ap (λ c. if c || (has4 Zero xs && has4 One xs) then X else (if has4 Zero xs then Zero else (if has4 One xs then One else Z))) h

pub power_on_holds : (d : List Item) (declared : List Declared) → Fits d declared → Holds d (power_on d declared)
power_on_holds d declared fits =
    record {
      flags = start_active_length d;
      outs = start_drivers_length d;
      inside = λ i b dr. subst (λ n. b < n) (sym (start_bits_length d 0 declared)) (fits.inside i b dr);
      fresh = λ i idle. starts_fresh d (power_on d declared) i i idle;
      joined = λ b w. start_bits_at d 0 declared b Wire (fits.wires b w) ∙ (ap (λ c. start_bit d c Wire) (same b) ∙ ap (λ c. if c then X else Z) w ∙ sym (resolve_x (drivers_of d (all_start_drivers d) b) (drivers_x d b w)));
    }
  where
    same : (b : ℕ) → 0 + b ≡ b
    same b = omega arith

-- ---- rows

pub row_holds : (d : List Item) (s : State) (inputs : List (ℕ × V4)) → ((k : ℕ) → IfItem (slice_get d k) Local) → NoWire d inputs → Holds d s → Holds d (row d s inputs)
row_holds d s inputs l outside h = writes_hold d s inputs l outside h

pub power_on_ends : (d : List Item) (order : List ℕ) (declared : List Declared) (cs : List Choice) → Lawful d order → CanRun d (power_on d declared) cs → length cs ≤ 3 ^ length d
power_on_ends d order declared cs law can = steps_bound d order (power_on d declared) cs law tt can

row_owned : (d : List Item) (s : State) (inputs : List (ℕ × V4)) → Quiet s → Owned d (row d s inputs).updates
row_owned d s inputs q = subst (Owned d) (sym (writes_updates d s inputs ∙ q.1)) tt

pub row_ends : (d : List Item) (order : List ℕ) (s : State) (inputs : List (ℕ × V4)) (cs : List Choice) → Lawful d order → Quiet s → CanRun d (row d s inputs) cs → length cs ≤ 3 ^ length d
row_ends d order s inputs cs law q can = steps_bound d order (row d s inputs) cs law (row_owned d s inputs q) can

-- ---- the ordered run

abbrev Says : List Bool → Option ℕ → Type 0
Says flags None = (i : ℕ) → slice_index_or flags i false ≡ false
Says flags (Some i) = (i < length flags) × (slice_index_or flags i false ≡ true)

none_later : (flags : List Bool) → ((i : ℕ) → slice_index_or flags i false ≡ false) → (i : ℕ) → slice_index_or (false ∷ flags) i false ≡ false
none_later flags h zero = refl
none_later flags h (suc i) = h i

later_says : (flags : List Bool) (o : Option ℕ) → Says flags o → Says (false ∷ flags) (later o)
later_says flags None h = none_later flags h
later_says flags (Some i) h = let l : i < length flags = h.0 in (omega arith, h.1)

earliest_says : (flags : List Bool) → Says flags (earliest flags)
earliest_says [] = λ i. refl
earliest_says (true ∷ flags) = (omega arith, refl)
earliest_says (false ∷ flags) = later_says flags (earliest flags) (earliest_says flags)

abbrev Leads : List Item → State → Option Choice → Type 0
Leads d s None = Quiet s
Leads d s (Some c) = CanStep d s c

cons_nil : {A : Type 0} (x : A) (xs : List A) → x ∷ xs ≡ [] → ⊥
cons_nil x xs q = cc

choice_leads : (d : List Item) (s : State) (o : Option ℕ) (us : List (ℕ × V4)) → s.updates ≡ us → length s.active ≡ length d → Says s.active o → Leads d s (choice_of o us)
choice_leads d s (Some i) us q len says = (subst (λ n. i < n) len says.0, says.1)
choice_leads d s None [] q len says = (says, q)
choice_leads d s None (u ∷ us) q len says = (says, λ e. cons_nil u us (sym q ∙ e))

pub next_leads : (d : List Item) (s : State) → length s.active ≡ length d → Leads d s (next_choice s)
next_leads d s len = choice_leads d s (earliest s.active) s.updates refl len (earliest_says s.active)

act_flags : (d : List Item) (s : State) (i : ℕ) (o : Option Item) → length (act d s i o).active ≡ length s.active
act_flags d s i None = refl
act_flags d s i (Some item) =
    let e = effect d s i item in
    length-set (writes d (with_drivers s e.drivers) e.writes).active i false ∙ writes_flags d (with_drivers s e.drivers) e.writes

pub step_flags : (d : List Item) (s : State) (c : Choice) → length (step d s c).active ≡ length s.active
step_flags d s (Act i) = act_flags d s i (slice_get d i)
step_flags d s Batch = writes_flags d (emptied s) s.updates

abbrev Settles : List Item → State → List Choice → Type 0
Settles d s cs = CanRun d s cs × Quiet (run d s cs)

follow_settles : (d : List Item) (s : State) (o : Option Choice) (rest : Choice → List Choice) → Leads d s o → ((c : Choice) → CanStep d s c → Settles d (step d s c) (rest c)) → Settles d s (follow o rest)
follow_settles d s None rest h next = (tt, h)
follow_settles d s (Some c) rest h next = ((h, (next c h).0), (next c h).1)

no_more : (d : List Item) (order : List ℕ) (s : State) (o : Option Choice) → Lawful d order → Owned d s.updates → phi (digit d s) order ≤ 0 → Leads d s o → Quiet s
no_more d order s None law owned le h = h
no_more d order s (Some c) law owned le h = absurd (let f : phi (digit d (step d s c)) order < phi (digit d s) order = step_falls d order s c law owned h in omega arith)

settles_within : (n : ℕ) (d : List Item) (order : List ℕ) (s : State) → Lawful d order → Owned d s.updates → length s.active ≡ length d → phi (digit d s) order ≤ n → Settles d s (ordered_steps n d s)
settles_within zero d order s law owned len le = (tt, no_more d order s (next_choice s) law owned le (next_leads d s len))
settles_within (suc n) d order s law owned len le =
    follow_settles d s (next_choice s) (λ c. ordered_steps n d (step d s c)) (next_leads d s len)
    (λ c can. settles_within n d order (step d s c) law (step_owned d order s c law owned can) (step_flags d s c ∙ len)
    (let f : phi (digit d (step d s c)) order < phi (digit d s) order = step_falls d order s c law owned can in omega arith))

pub ordered_settles : (d : List Item) (order : List ℕ) (s : State) → Lawful d order → Owned d s.updates → length s.active ≡ length d → CanRun d s (ordered_steps (3 ^ length d) d s) × Quiet (run d s (ordered_steps (3 ^ length d) d s))
ordered_settles d order s law owned len =
    settles_within (3 ^ length d) d order s law owned len
    (subst (λ m. phi (digit d s) order ≤ 3 ^ m) law.once (let b : phi (digit d s) order < 3 ^ length order = phi_bound (digit d s) (digit_le d s) order in omega arith))

-- ---- the order of a row's inputs

or_swap : (f x y : Bool) → ((f || x) || y) ≡ ((f || y) || x)
or_swap true x y = refl
or_swap false true true = refl
or_swap false true false = refl
or_swap false false true = refl
or_swap false false false = refl

woken_swap : (d : List Item) (a b : ℕ) (o n o' n' : V4) (flags : List Bool) → woken d b o' n' (woken d a o n flags) ≡ woken d a o n (woken d b o' n' flags)
woken_swap [] a b o n o' n' flags = refl
woken_swap (item ∷ d) a b o n o' n' [] = refl
woken_swap (item ∷ d) a b o n o' n' (flag ∷ flags) =
    ap₂ (λ x xs. x ∷ xs) (or_swap flag (wakes item a o n) (wakes item b o' n')) (woken_swap d a b o n o' n' flags)

write_none : (d : List Item) (s : State) (w : ℕ × V4) → is4 (bit s w.0) w.1 ≡ true → write d s w ≡ s
write_none d s w h = ap (λ c. cond c s (changed d s w)) h

write_some : (d : List Item) (s : State) (w : ℕ × V4) → is4 (bit s w.0) w.1 ≡ false → write d s w ≡ changed d s w
write_some d s w h = ap (λ c. cond c s (changed d s w)) h

-- a write of the value that a bit has already does nothing, also after another write
none_after : (d : List Item) (s : State) (v w : ℕ × V4) → v.0 ≢ w.0 → is4 (bit s v.0) v.1 ≡ true → write d (write d s w) v ≡ write d (write d s v) w
none_after d s v w n h =
    write_none d (write d s w) v (ap (λ x. is4 x v.1) (write_other d s w v.0 n) ∙ h) ∙ ap (λ t. write d t w) (sym (write_none d s v h))

abbrev with_bits : State → List V4 → List Bool → State
with_bits s bs fs = record { bits = bs; drivers = s.drivers; active = fs; updates = s.updates }

changed_swap : (d : List Item) (s : State) (v w : ℕ × V4) → v.0 ≢ w.0 → bit (changed d s v) w.0 ≡ bit s w.0 → bit (changed d s w) v.0 ≡ bit s v.0 → changed d (changed d s v) w ≡ changed d (changed d s w) v
changed_swap d s v w n p q =
    ap₂ (with_bits s)
    (set_comm s.bits v.0 w.0 v.1 w.1 n)
    (ap (λ x. woken d w.0 x w.1 (woken d v.0 (bit s v.0) v.1 s.active)) p
    ∙ (woken_swap d v.0 w.0 (bit s v.0) v.1 (bit s w.0) w.1 s.active
    ∙ ap (λ x. woken d v.0 x v.1 (woken d w.0 (bit s w.0) w.1 s.active)) (sym q)))

write_swap : (d : List Item) (s : State) (v w : ℕ × V4) → v.0 ≢ w.0 → write d (write d s v) w ≡ write d (write d s w) v
write_swap d s v w n =
    ⊎_elim (λ h. sym (none_after d s v w n h))
    (λ f. ⊎_elim (λ h. none_after d s w v (λ e. n (sym e)) h) (λ g. both f g) (cases_Bool (is4 (bit s w.0) w.1)))
    (cases_Bool (is4 (bit s v.0) v.1))
  where
    both : is4 (bit s v.0) v.1 ≡ false → is4 (bit s w.0) w.1 ≡ false → write d (write d s v) w ≡ write d (write d s w) v
    both f g =
        let at_w : bit (changed d s v) w.0 ≡ bit s w.0 = get_or-set_other s.bits v.0 w.0 v.1 Z (λ e. n (sym e)) in
        let at_v : bit (changed d s w) v.0 ≡ bit s v.0 = get_or-set_other s.bits w.0 v.0 w.1 Z n in
        ap (λ t. write d t w) (write_some d s v f)
        ∙ (write_some d (changed d s v) w (ap (λ x. is4 x w.1) at_w ∙ g)
        ∙ (changed_swap d s v w n at_w at_v
        ∙ (sym (write_some d (changed d s w) v (ap (λ x. is4 x v.1) at_v ∙ f)) ∙ ap (λ t. write d t v) (sym (write_some d s w g)))))

pub row_swaps : (d : List Item) (s : State) (v w : ℕ × V4) (rest : List (ℕ × V4)) → v.0 ≢ w.0 → row d s (v ∷ w ∷ rest) ≡ row d s (w ∷ v ∷ rest)
row_swaps d s v w rest n = ap (λ t. writes d t rest) (write_swap d s v w n)

-- ---- whole rows

pub power_on_solves : (d : List Item) (order : List ℕ) (declared : List Declared) (cs : List Choice) → Lawful d order → ((k : ℕ) → IfItem (slice_get d k) Local) → Fits d declared → CanRun d (power_on d declared) cs → Quiet (run d (power_on d declared) cs) → Holds d (run d (power_on d declared) cs) × Solves d (run d (power_on d declared) cs).bits
power_on_solves d order declared cs law l fits can q =
    let h = run_holds d order (power_on d declared) cs law l tt (power_on_holds d declared fits) can in
    (h, quiet_solves d (run d (power_on d declared) cs) h q)

pub row_solves : (d : List Item) (order : List ℕ) (s : State) (inputs : List (ℕ × V4)) (cs : List Choice) → Lawful d order → ((k : ℕ) → IfItem (slice_get d k) Local) → NoWire d inputs → Holds d s → Quiet s → CanRun d (row d s inputs) cs → Quiet (run d (row d s inputs) cs) → Holds d (run d (row d s inputs) cs) × Solves d (run d (row d s inputs) cs).bits
row_solves d order s inputs cs law l outside holds quiet can q =
    let h = run_holds d order (row d s inputs) cs law l (row_owned d s inputs quiet) (row_holds d s inputs l outside holds) can in
    (h, quiet_solves d (run d (row d s inputs) cs) h q)
