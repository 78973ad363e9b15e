-- Ranked equations have one solution.
use Rattle.std.proofs.Common.{◌≡◌, ℕ, suc, nat_eq, true, false, cond, List, [], ◌∷◌, ◌++◌, Option, Some, None, slice_get, ◌⊎◌, inl, inr, ⊎_elim, refl, sym, ap, ap₂, subst, ◌∙◌, true≢false, eqb-true}
use Rattle.std.proofs.lemmas.Bool.{or_cases, or_parts, cases_Bool}
use Rattle.std.proofs.lemmas.Option.{slice_get_within}
use Rattle.vv_bits.specs.declared.four.V4.{V4}
use Rattle.vv_bits.specs.Resolution.{resolve4_rule}
use Rattle.vv_events.specs.Items.{has, Item, driven_by, sensed_by, Drives, IfItem, Assign, Always}
use Rattle.vv_events.specs.Steps.{pick}
use Rattle.vv_events.specs.Orders.{Ordered, Lawful}
use Rattle.vv_events.specs.Equations.{at, assigned, is_wire, item_values, values_of, Solves, Local}

-- nothing is picked of a bit that is no target
pub pick_none : (ts : List ℕ) (vs : List V4) (b : ℕ) → has ts b ≡ false → pick ts vs b ≡ []
pick_none [] vs b h = refl
pick_none (t ∷ ts) [] b h = refl
pick_none (t ∷ ts) (v ∷ vs) b h =
    let p = or_parts (nat_eq t b) (has ts b) h in
    ap (λ c. cond c (v ∷ pick ts vs b) (pick ts vs b)) p.0 ∙ pick_none ts vs b p.1

-- an item's values agree on two lists of bits
abbrev pub Agrees : List V4 → List V4 → Item → Type 0
Agrees x y (Assign reads targets value) = value x ≡ value y
Agrees x y (Always events assigns f) = Unit {0}

item_same : (x y : List V4) (item : Item) (b : ℕ) → (has (assigned item) b ≡ true → Agrees x y item) → item_values item x b ≡ item_values item y b
item_same x y (Assign reads targets value) b h =
    ⊎_elim (λ t. ap (λ vs. pick targets vs b) (h t)) (λ t. pick_none targets (value x) b t ∙ sym (pick_none targets (value y) b t)) (cases_Bool (has targets b))
item_same x y (Always events assigns f) b h = refl

abbrev pub assigned_by : Option Item → List ℕ
assigned_by None = []
assigned_by (Some item) = assigned item

pub values_same : (x y : List V4) (d : List Item) (b : ℕ) → ((i : ℕ) → has (assigned_by (slice_get d i)) b ≡ true → IfItem (slice_get d i) (Agrees x y)) → values_of d x b ≡ values_of d y b
values_same x y [] b h = refl
values_same x y (item ∷ d) b h = ap₂ (λ p q. p ++ q) (item_same x y item b (h 0)) (values_same x y d b (λ i. h (suc i)))

pub assigned_drives : (o : Option Item) (b : ℕ) → has (assigned_by o) b ≡ true → has (driven_by o) b ≡ true
assigned_drives None b h = h
assigned_drives (Some (Assign reads targets value)) b h = h
assigned_drives (Some (Always events assigns f)) b h = absurd (true≢false (sym h))

-- a bit agrees where all that drives it agrees
bit_same : (d : List Item) (x y : List V4) → Solves d x → Solves d y → ((b : ℕ) → is_wire d b ≡ false → at x b ≡ at y b) → (b : ℕ) → ((i : ℕ) → Drives d i b → IfItem (slice_get d i) (Agrees x y)) → at x b ≡ at y b
bit_same d x y sx sy same b h =
    ⊎_elim (λ w. sx b w ∙ ap resolve4_rule (values_same x y d b (λ i a. h i (assigned_drives (slice_get d i) b a))) ∙ sym (sy b w)) (λ n. same b n) (cases_Bool (is_wire d b))

item_agrees : (x y : List V4) (item : Item) → Local item → ((b : ℕ) → has (sensed_by (Some item)) b ≡ true → at x b ≡ at y b) → Agrees x y item
item_agrees x y (Assign reads targets value) l h = l x y h
item_agrees x y (Always events assigns f) l h = tt

pub option_agrees : (x y : List V4) (o : Option Item) → IfItem o Local → ((b : ℕ) → has (sensed_by o) b ≡ true → at x b ≡ at y b) → IfItem o (Agrees x y)
option_agrees x y None l h = tt
option_agrees x y (Some item) l h = item_agrees x y item l h

abbrev AgreesAt : List Item → List V4 → List V4 → ℕ → Type 0
AgreesAt d x y i = IfItem (slice_get d i) (Agrees x y)

all_agree : (d : List Item) (x y : List V4) → ((i : ℕ) → IfItem (slice_get d i) Local) → Solves d x → Solves d y → ((b : ℕ) → is_wire d b ≡ false → at x b ≡ at y b) → (order : List ℕ) → Ordered d order → ((i : ℕ) → (has order i ≡ true) ⊎ AgreesAt d x y i) → (i : ℕ) → AgreesAt d x y i
all_agree d x y l sx sy same [] o left i = ⊎_elim (λ h. absurd (true≢false (sym h))) (λ a. a) (left i)
all_agree d x y l sx sy same (j ∷ rest) o left i = all_agree d x y l sx sy same rest o.1 left' i
  where
    senses_same : (b : ℕ) → has (sensed_by (slice_get d j)) b ≡ true → at x b ≡ at y b
    senses_same b h = bit_same d x y sx sy same b (λ k dr. ⊎_elim (λ w. absurd (o.0 k b w dr h)) (λ a. a) (left k))

    here : AgreesAt d x y j
    here = option_agrees x y (slice_get d j) (l j) senses_same

    left' : (k : ℕ) → (has rest k ≡ true) ⊎ AgreesAt d x y k
    left' k = ⊎_elim (λ h. ⊎_elim (λ e. inr (subst (AgreesAt d x y) (eqb-true j k e) here)) (λ r. inl r) (or_cases (nat_eq j k) (has rest k) h)) (λ a. inr a) (left k)

past : (d : List Item) (x y : List V4) (order : List ℕ) → Lawful d order → (i : ℕ) (o : Option Item) → slice_get d i ≡ o → (has order i ≡ true) ⊎ IfItem o (Agrees x y)
past d x y order law i None is = inr tt
past d x y order law i (Some item) is = inl (law.complete i (slice_get_within d i item is))

pub one_solution : (d : List Item) (order : List ℕ) (x y : List V4) → Lawful d order → ((i : ℕ) → IfItem (slice_get d i) Local) → Solves d x → Solves d y → ((b : ℕ) → is_wire d b ≡ false → at x b ≡ at y b) → (b : ℕ) → at x b ≡ at y b
one_solution d order x y law l sx sy same b =
    let all = all_agree d x y l sx sy same order law.ordered (λ i. past d x y order law i (slice_get d i) refl) in
    bit_same d x y sx sy same b (λ i h. all i)
