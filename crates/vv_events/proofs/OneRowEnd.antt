-- The equations of a row's end have one solution, so all orders of a row end alike.
use Rattle.std.proofs.Common.{◌≡◌, ℕ, zero, suc, nat_eq, Bool, true, false, ◌||◌, List, [], ◌∷◌, Option, Some, None, slice_get, ◌⊎◌, inl, inr, ⊎_elim, refl, sym, ap, subst, ◌∙◌, true≢false, eqb-true}
use Rattle.std.proofs.lemmas.Bool.{or_cases, cases_Bool}
use Rattle.std.proofs.lemmas.Option.{slice_get_within}
use Rattle.vv_bits.specs.declared.four.V4.{V4}
use Rattle.vv_bits.specs.Resolution.{resolve4_rule}
use Rattle.vv_events.specs.Items.{Always, Assign, Drives, IfItem, IsAlways, Item, Senses, drives, has}
use Rattle.vv_events.specs.Steps.{CanRun, Choice, Quiet, State, bit, run}
use Rattle.vv_events.specs.Orders.{Lawful, Ordered}
use Rattle.vv_events.specs.Equations.{Local, assigned, at, is_wire}
use Rattle.vv_events.specs.RowEnds.{Ends, RowStart, Undriven, Written, last_or, updates_by}
use Rattle.vv_events.proofs.Unique.{Agrees, option_agrees, assigned_drives, values_same}
use Rattle.vv_events.proofs.RowResults.{row_ends}

-- what item i gives is the same in x and y
record Alike (d : List Item) (edge : ℕ → Bool) (x y : List V4) (i : ℕ) : Type 0 where
  values : IfItem (slice_get d i) (Agrees x y)
  updates : edge i ≡ false → updates_by (slice_get d i) x ≡ updates_by (slice_get d i) y

-- who drives a bit
driver_cases : (d : List Item) (b : ℕ) → (is_wire d b ≡ true) ⊎ (((i : ℕ) × IsAlways (slice_get d i) × Drives d i b) ⊎ Undriven d b)
driver_cases [] b = inr (inr (λ j h. true≢false (sym h)))
driver_cases (item ∷ d) b =
    ⊎_elim (λ wr. inl (right wr)) (λ e. ⊎_elim (λ v. inr (inl (suc v.0, v.1, v.2))) (λ u. here item refl u) e) (driver_cases d b)
  where
    right : is_wire d b ≡ true → (has (assigned item) b || is_wire d b) ≡ true
    right wr = ⊎_elim (λ t. ap (λ c. c || is_wire d b) t) (λ f. ap (λ c. c || is_wire d b) f ∙ wr) (cases_Bool (has (assigned item) b))

    none : Undriven d b → has (drives item) b ≡ false → Undriven (item ∷ d) b
    none u f zero h = true≢false (sym h ∙ f)
    none u f (suc j) h = u j h

    here : (it : Item) → item ≡ it → Undriven d b → (is_wire (item ∷ d) b ≡ true) ⊎ (((i : ℕ) × IsAlways (slice_get (item ∷ d) i) × Drives (item ∷ d) i b) ⊎ Undriven (item ∷ d) b)
    here (Assign reads targets value) q u =
        ⊎_elim (λ t. inl (ap (λ c. c || is_wire d b) (ap (λ it. has (assigned it) b) q ∙ t))) (λ f. inr (inr (none u (ap (λ it. has (drives it) b) q ∙ f)))) (cases_Bool (has targets b))
    here (Always events assigns f) q u =
        ⊎_elim (λ t. inr (inl (0, subst IsAlways (ap (λ it. Some it) (sym q)) tt, ap (λ it. has (drives it) b) q ∙ t))) (λ n. inr (inr (none u (ap (λ it. has (drives it) b) q ∙ n)))) (cases_Bool (has assigns b))

bit_alike : (d : List Item) (edge : ℕ → Bool) (start : State) (x y : List V4) → Ends d edge start x → Ends d edge start y → (b : ℕ) → ((i : ℕ) → Drives d i b → Alike d edge x y i) → at x b ≡ at y b
bit_alike d edge start x y ex ey b h =
    ⊎_elim (λ wr. ex.wires b wr ∙ (ap resolve4_rule (values_same x y d b (λ i a. (h i (assigned_drives (slice_get d i) b a)).values)) ∙ sym (ey.wires b wr)))
    (λ e. ⊎_elim (λ v. reg v.0 v.1 v.2) (λ u. ex.inputs b u ∙ sym (ey.inputs b u)) e) (driver_cases d b)
  where
    reg : (i : ℕ) → IsAlways (slice_get d i) → Drives d i b → at x b ≡ at y b
    reg i a dr =
        ⊎_elim (λ e. ex.edges i b e a dr ∙ sym (ey.edges i b e a dr))
        (λ e. ex.levels i b e a dr ∙ (ap (λ us. last_or us b (bit start b)) ((h i dr).updates e) ∙ sym (ey.levels i b e a dr)))
        (cases_Bool (edge i))

all_alike : (d : List Item) (edge : ℕ → Bool) (start : State) (x y : List V4) → ((k : ℕ) → IfItem (slice_get d k) Local) → Written d edge → Ends d edge start x → Ends d edge start y → (order : List ℕ) → Ordered d order → ((i : ℕ) → (has order i ≡ true) ⊎ Alike d edge x y i) → (i : ℕ) → Alike d edge x y i
all_alike d edge start x y l w ex ey [] o left i = ⊎_elim (λ h. absurd (true≢false (sym h))) (λ a. a) (left i)
all_alike d edge start x y l w ex ey (j ∷ rest) o left i = all_alike d edge start x y l w ex ey rest o.1 left' i
  where
    senses_same : (b : ℕ) → Senses d j b → at x b ≡ at y b
    senses_same b h = bit_alike d edge start x y ex ey b (λ k dr. ⊎_elim (λ u. absurd (o.0 k b u dr h)) (λ a. a) (left k))

    here : Alike d edge x y j
    here = record { values = option_agrees x y (slice_get d j) (l j) senses_same; updates = λ e. w.level j e x y senses_same }

    left' : (k : ℕ) → (has rest k ≡ true) ⊎ Alike d edge x y k
    left' k = ⊎_elim (λ h. ⊎_elim (λ e. inr (subst (Alike d edge x y) (eqb-true j k e) here)) (λ r. inl r) (or_cases (nat_eq j k) (has rest k) h)) (λ a. inr a) (left k)

past : (d : List Item) (edge : ℕ → Bool) (x y : List V4) (order : List ℕ) → Lawful d order → (i : ℕ) (o : Option Item) → slice_get d i ≡ o → (has order i ≡ true) ⊎ Alike d edge x y i
past d edge x y order law i None is =
    inr (record { values = subst (λ o. IfItem o (Agrees x y)) (sym is) tt; updates = λ e. ap (λ o. updates_by o x) is ∙ sym (ap (λ o. updates_by o y) is) })
past d edge x y order law i (Some item) is = inl (law.complete i (slice_get_within d i item is))

pub one_end : (d : List Item) (order : List ℕ) (edge : ℕ → Bool) (start : State) (x y : List V4) → Lawful d order → ((k : ℕ) → IfItem (slice_get d k) Local) → Written d edge → Ends d edge start x → Ends d edge start y → (b : ℕ) → at x b ≡ at y b
one_end d order edge start x y law l w ex ey b =
    let all = all_alike d edge start x y l w ex ey order law.ordered (λ i. past d edge x y order law i (slice_get d i) refl) in
    bit_alike d edge start x y ex ey b (λ i h. all i)

-- all orders of a row end with the same bits
pub row_orders : (d : List Item) (order : List ℕ) (edge moves : ℕ → Bool) (start : State) (cs es : List Choice) → Lawful d order → ((k : ℕ) → IfItem (slice_get d k) Local) → Written d edge → RowStart d edge moves start → CanRun d start cs → CanRun d start es → Quiet (run d start cs) → Quiet (run d start es) → (b : ℕ) → bit (run d start cs) b ≡ bit (run d start es) b
row_orders d order edge moves start cs es law l w r can can' q q' =
    one_end d order edge start (run d start cs).bits (run d start es).bits law l w (row_ends d order edge moves start cs law l w r can q) (row_ends d order edge moves start es law l w r can' q')
