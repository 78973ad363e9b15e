-- The event design of a flat design without cycles is lawful.
use Rattle.std.proofs.Common.{◌≡◌, ℕ, zero, suc, ◌<◌, nat_eq, Bool, true, false, ◌||◌, List, [], ◌∷◌, ◌++◌, length, Option, Some, None, slice_get, ⊎_elim, refl, sym, ap, ap₂, subst, arith, true≢false, eqb-true}
use Rattle.std.specs.Prelude.{All}
use Rattle.std.specs.List.{HoldsAt}
use Rattle.std.proofs.lemmas.Bool.{or_cases}
use Rattle.vv_vast.specs.Tree as vast
use Rattle.vv_vast.specs.Flat.{Flat, IsFlat, IsAcyclic}
use Rattle.vv_events.specs.Items.{Item, Fair, IfItem, IsAlways, has, driven_by, sensed_by, Drives}
use Rattle.vv_events.specs.Orders.{Chain, HasCycle, feeds, meets}
use Rattle.vv_events.specs.Equations.{Local, is_wire}
use Rattle.vv_events.specs.Expressions.{reads}
use Rattle.vv_events.specs.Rows.{Wire}
use Rattle.vv_events.proofs.Acyclic.{order_of}
use Rattle.vv_events.proofs.Reading.{assignment_local}
use Rattle.vv_events.proofs.SmallDesigns.{one_of}
use Rattle.vv_gate_verilog.specs.Events.{expr_of, event_of, events_in, events_of, kind_of, declared_in, LawfulFlat}

reads_same : (e : vast.Expr ℕ) → reads (expr_of e) ≡ vast.reads e
reads_same (vast.literal b) = refl
reads_same (vast.name n) = refl
reads_same (vast.unary vast.not' e) = reads_same e
reads_same (vast.binary vast.and' e g) = ap₂ (λ x y. x ++ y) (reads_same e) (reads_same g)
reads_same (vast.binary vast.or' e g) = ap₂ (λ x y. x ++ y) (reads_same e) (reads_same g)
reads_same (vast.binary vast.xor' e g) = ap₂ (λ x y. x ++ y) (reads_same e) (reads_same g)

-- ---- the item at a place

abbrev event_at : Option (vast.Item ℕ) → Option Item
event_at None = None
event_at (Some item) = Some (event_of item)

get_event : (items : List (vast.Item ℕ)) (i : ℕ) → slice_get (events_in items) i ≡ event_at (slice_get items i)
get_event [] i = refl
get_event (item ∷ items) zero = refl
get_event (item ∷ items) (suc i) = get_event items i

abbrev OfItem : (vast.Item ℕ → Type 0) → Option (vast.Item ℕ) → Type 0
OfItem P None = Unit {0}
OfItem P (Some item) = P item

all_get : (P : vast.Item ℕ → Type 0) (items : List (vast.Item ℕ)) (i : ℕ) → All P items → OfItem P (slice_get items i)
all_get P [] i h = tt
all_get P (item ∷ items) zero h = h 0 item (omega arith)
all_get P (item ∷ items) (suc i) h = all_get P items i (λ k d l. h (suc k) d (omega arith))

all_has : (P : ℕ → Type 0) (xs : List ℕ) (x : ℕ) → All P xs → has xs x ≡ true → P x
all_has P [] x h m = absurd (true≢false (sym m))
all_has P (y ∷ ys) x h m =
    ⊎_elim (λ e. subst P (eqb-true y x e) (h 0 0 (omega arith))) (λ r. all_has P ys x (λ k d l. h (suc k) d (omega arith)) r) (or_cases (nat_eq y x) (has ys x) m)

-- ---- an order

abbrev rank_of : (ℕ → ℕ) → Option (vast.Item ℕ) → ℕ
rank_of rank None = 0
rank_of rank (Some item) = rank (vast.target_of item)

abbrev Rises : (ℕ → ℕ) → vast.Item ℕ → Type 0
Rises rank item = All (λ n. rank n < rank (vast.target_of item)) (vast.reads_of item)

or_false : (a : Bool) → (a || false) ≡ true → a ≡ true
or_false true h = refl
or_false false h = h

fed_rises : (rank : ℕ → ℕ) (o p : Option (vast.Item ℕ)) → OfItem (Rises rank) p → meets (driven_by (event_at o)) (sensed_by (event_at p)) ≡ true → rank_of rank o < rank_of rank p
fed_rises rank None p h m = absurd (true≢false (sym m))
fed_rises rank (Some (vast.assign t e)) None h m = absurd (true≢false (sym m))
fed_rises rank (Some (vast.assign t e)) (Some (vast.assign u g)) h m =
    all_has (λ n. rank n < rank u) (vast.reads g) t h (subst (λ l. has l t ≡ true) (reads_same g) (or_false (has (reads (expr_of g)) t) m))

feeds_rises : (rank : ℕ → ℕ) (items : List (vast.Item ℕ)) (i j : ℕ) → All (Rises rank) items → feeds (events_in items) i j ≡ true → rank_of rank (slice_get items i) < rank_of rank (slice_get items j)
feeds_rises rank items i j h f =
    fed_rises rank (slice_get items i) (slice_get items j) (all_get (Rises rank) items j h)
    (subst (λ o. meets (driven_by o) (sensed_by (event_at (slice_get items j))) ≡ true) (get_event items i) (subst (λ p. meets (driven_by (slice_get (events_in items) i)) (sensed_by p) ≡ true) (get_event items j) f))

chain_rises : (rank : ℕ → ℕ) (items : List (vast.Item ℕ)) (i : ℕ) (via : List ℕ) (j : ℕ) → All (Rises rank) items → Chain (events_in items) i via j → rank_of rank (slice_get items i) < rank_of rank (slice_get items j)
chain_rises rank items i [] j h c = feeds_rises rank items i j h c
chain_rises rank items i (k ∷ ks) j h c =
    let a : rank_of rank (slice_get items i) < rank_of rank (slice_get items k) = feeds_rises rank items i k h c.0 in
    let b : rank_of rank (slice_get items k) < rank_of rank (slice_get items j) = chain_rises rank items k ks j h c.1 in
    omega arith

no_cycle : (flat : Flat) → IsAcyclic flat → HasCycle (events_of flat) → ⊥
no_cycle flat a c =
    let below : rank_of a.rank (slice_get flat.items c.0) < rank_of a.rank (slice_get flat.items c.0) = chain_rises a.rank flat.items c.0 c.1.0 c.0 a.falls c.1.1 in
    omega arith

-- ---- what each item is

pub only_assigns : (items : List (vast.Item ℕ)) (i : ℕ) → IsAlways (slice_get (events_in items) i) → ⊥
only_assigns [] i h = h
only_assigns (vast.assign t e ∷ items) zero h = h
only_assigns (item ∷ items) (suc i) h = only_assigns items i h

all_fair : (items : List (vast.Item ℕ)) (i : ℕ) → IfItem (slice_get (events_in items) i) Fair
all_fair [] i = tt
all_fair (vast.assign t e ∷ items) zero = tt
all_fair (item ∷ items) (suc i) = all_fair items i

all_local : (items : List (vast.Item ℕ)) (i : ℕ) → IfItem (slice_get (events_in items) i) Local
all_local [] i = tt
all_local (vast.assign t e ∷ items) zero = assignment_local (t ∷ []) (expr_of e)
all_local (item ∷ items) (suc i) = all_local items i

-- ---- what the items drive

abbrev pub IsOutput : List vast.Port → ℕ → Type 0
IsOutput ps b = HoldsAt (λ p. p.direction ≡ vast.output) ps b

pub drives_output : (ps : List vast.Port) (items : List (vast.Item ℕ)) (i b : ℕ) → All (λ item. IsOutput ps (vast.target_of item)) items → Drives (events_in items) i b → IsOutput ps b
drives_output ps [] i b h dr = absurd (true≢false (sym dr))
drives_output ps (vast.assign t e ∷ items) zero b h dr = subst (IsOutput ps) (one_of t b dr) (h 0 (vast.assign t e) (omega arith))
drives_output ps (item ∷ items) (suc i) b h dr = drives_output ps items i b (λ k d l. h (suc k) d (omega arith)) dr

pub wire_output : (ps : List vast.Port) (items : List (vast.Item ℕ)) (b : ℕ) → All (λ item. IsOutput ps (vast.target_of item)) items → is_wire (events_in items) b ≡ true → IsOutput ps b
wire_output ps [] b h w = absurd (true≢false (sym w))
wire_output ps (vast.assign t e ∷ items) b h w =
    ⊎_elim (λ q. subst (IsOutput ps) (one_of t b q) (h 0 (vast.assign t e) (omega arith))) (λ r. wire_output ps items b (λ k d l. h (suc k) d (omega arith)) r) (or_cases (has (t ∷ []) b) (is_wire (events_in items) b) w)

pub not_both : vast.input ≡ vast.output → ⊥
not_both q = cc

output_within : (ps : List vast.Port) (b : ℕ) → IsOutput ps b → b < length ps
output_within [] b h = absurd (not_both (h (record { direction = vast.input; name = [] })))
output_within (p ∷ ps) zero h = omega arith
output_within (p ∷ ps) (suc b) h = let l : b < length ps = output_within ps b h in omega arith

declared_length : (ps : List vast.Port) → length (declared_in ps) ≡ length ps
declared_length [] = refl
declared_length (p ∷ ps) = ap suc (declared_length ps)

output_wire : (ps : List vast.Port) (b : ℕ) → IsOutput ps b → slice_get (declared_in ps) b ≡ Some Wire
output_wire [] b h = absurd (not_both (h (record { direction = vast.input; name = [] })))
output_wire (p ∷ ps) zero h = ap (λ d. Some (kind_of d)) (h p)
output_wire (p ∷ ps) (suc b) h = output_wire ps b h

pub lawful_flat : (m : vast.Module) (flat : Flat) → IsFlat m flat → IsAcyclic flat → LawfulFlat flat
lawful_flat m flat f a =
    let r = order_of (events_of flat) (no_cycle flat a) in
    record {
      order = r.order;
      lawful = record {
        fair = all_fair flat.items;
        apart = λ i j b k p q. absurd (only_assigns flat.items i k);
        ordered = r.ordered;
        complete = r.complete;
        once = r.once;
      };
      local = all_local flat.items;
      fits = record {
        inside = λ i b dr. subst (λ n. b < n) (sym (declared_length flat.objects)) (output_within flat.objects b (drives_output flat.objects flat.items i b f.driven dr));
        wires = λ b w. output_wire flat.objects b (wire_output flat.objects flat.items b f.driven w);
      };
    }
