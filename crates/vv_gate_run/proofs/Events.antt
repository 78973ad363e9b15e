-- The items and steps of a flat design, as the program goes over them.
use Rattle.std.proofs.Common.{◌≡◌, ℕ, zero, suc, ◌+◌, ◌<◌, ◌≤◌, nat_eq, Bool, true, false, ◌||◌, List, [], ◌∷◌, ◌++◌, map, length, drop, get_or, Option, Some, None, slice_get, slice_set, ⊎_elim, refl, ap, ap₂, sym, ◌∙◌, arith, add-one}
use Rattle.std.specs.Prelude.{min, option_map}
use Rattle.std.proofs.lemmas.Option.{slice_get-map, slice_get_read, slice_get_past}
use Rattle.std.proofs.Math.ListN.{replicate}
use Rattle.std.proofs.lemmas.List.{drop_all}
use Rattle.vv_bits.specs.declared.four.V4.{V4}
use Rattle.vv_bits.specs.declared.four.V4.TheVariants.{X}
use Rattle.vv_bits.specs.Resolution.{resolve4_rule}
use Rattle.vv_events.specs.Expressions.{reads}
use Rattle.vv_events.specs.Items.{has, Item, Assign}
use Rattle.vv_events.specs.Rows.{all_start_drivers, start_active}
use Rattle.vv_events.specs.Steps.{State, write, Effect, done, drivers_of, woken, step, act, Act, CanStep, Choice, CanRun, run}
use Rattle.vv_gate_verilog.specs.Events.{expr_of, events_in, event_of}
use Rattle.vv_vast.specs.Tree as vast
use Rattle.vv_gate_run.specs.Verilog.{is_woken, IsNext, AllNext}
use Rattle.vv_gate_run.specs.declared.order.Order.{Order}
use Rattle.vv_gate_run.proofs.Sources.{at_end}

-- ---- what an expression reads

has_append : (xs ys : List ℕ) (b : ℕ) → has (xs ++ ys) b ≡ (has xs b || has ys b)
has_append [] ys b = refl
has_append (x ∷ xs) ys b = ap (λ c. nat_eq x b || c) (has_append xs ys b) ∙ regroup (nat_eq x b) (has xs b) (has ys b)
  where
    regroup : (a b c : Bool) → (a || (b || c)) ≡ ((a || b) || c)
    regroup true b c = refl
    regroup false b c = refl

pub reads_left : (o : vast.Binary) (e g : vast.Expr ℕ) (n : ℕ) (a : Bool) → a ≡ has (vast.reads e) n → a ≡ true → a ≡ has (vast.reads (vast.binary o e g)) n
reads_left o e g n a h t = t ∙ sym (has_append (vast.reads e) (vast.reads g) n ∙ ap (λ c. c || has (vast.reads g) n) (sym h ∙ t))

pub reads_right : (o : vast.Binary) (e g : vast.Expr ℕ) (n : ℕ) (a b : Bool) → a ≡ has (vast.reads e) n → a ≡ false → b ≡ has (vast.reads g) n → b ≡ has (vast.reads (vast.binary o e g)) n
reads_right o e g n a b h f k = k ∙ sym (has_append (vast.reads e) (vast.reads g) n ∙ ap (λ c. c || has (vast.reads g) n) (sym h ∙ f))

pub reads_same : (e : vast.Expr ℕ) → reads (expr_of e) ≡ vast.reads e
reads_same (vast.literal b) = refl
reads_same (vast.name n) = refl
reads_same (vast.unary vast.not' e) = reads_same e
reads_same (vast.binary vast.and' e g) = ap₂ (λ x y. x ++ y) (reads_same e) (reads_same g)
reads_same (vast.binary vast.or' e g) = ap₂ (λ x y. x ++ y) (reads_same e) (reads_same g)
reads_same (vast.binary vast.xor' e g) = ap₂ (λ x y. x ++ y) (reads_same e) (reads_same g)

-- ---- lists of items

pub events_length : (items : List (vast.Item ℕ)) → length (events_in items) ≡ length items
events_length [] = refl
events_length (i ∷ items) = ap suc (events_length items)

abbrev pub event_at : Option (vast.Item ℕ) → Option Item
event_at None = None
event_at (Some item) = Some (event_of item)

pub get_event : (items : List (vast.Item ℕ)) (i : ℕ) → slice_get (events_in items) i ≡ event_at (slice_get items i)
get_event [] i = refl
get_event (item ∷ items) zero = refl
get_event (item ∷ items) (suc i) = get_event items i

drivers_none : (ds : List Item) (b : ℕ) → drivers_of ds [] b ≡ []
drivers_none [] b = refl
drivers_none (d ∷ ds) b = refl

pub drivers_end : {X Y : Type 0} (f : X → vast.Item ℕ) (g : Y → List V4) (xs : List X) (ys : List Y) (n b : ℕ) → n ≡ min (length xs) (length ys) → drivers_of (events_in (map f (drop n xs))) (map g (drop n ys)) b ≡ []
drivers_end f g xs ys n b e =
    ⊎_elim (λ q. ap (λ l. drivers_of (events_in (map f l)) (map g (drop n ys)) b) q) (λ q. ap (λ l. drivers_of (events_in (map f (drop n xs))) (map g l) b) q ∙ drivers_none (events_in (map f (drop n xs))) b) (at_end xs ys n e)

pub drivers_x : {T : Type 0} (f : T → vast.Item ℕ) (xs : List T) → map (λ (d : V4). d ∷ []) (replicate (length xs) X) ≡ all_start_drivers (events_in (map f xs))
drivers_x f [] = refl
drivers_x f (x ∷ xs) = go (f x) (drivers_x f xs)
  where
    go : (i : vast.Item ℕ) → map (λ (d : V4). d ∷ []) (replicate (length xs) X) ≡ all_start_drivers (events_in (map f xs)) → (X ∷ []) ∷ map (λ (d : V4). d ∷ []) (replicate (length xs) X) ≡ all_start_drivers (event_of i ∷ events_in (map f xs))
    go (vast.assign t e) h = ap (λ l. (X ∷ []) ∷ l) h

pub all_active : {T : Type 0} (f : T → vast.Item ℕ) (xs : List T) → replicate (length xs) true ≡ start_active (events_in (map f xs))
all_active f [] = refl
all_active f (x ∷ xs) = go (f x) (all_active f xs)
  where
    go : (i : vast.Item ℕ) → replicate (length xs) true ≡ start_active (events_in (map f xs)) → true ∷ replicate (length xs) true ≡ start_active (event_of i ∷ events_in (map f xs))
    go (vast.assign t e) h = ap (λ l. true ∷ l) h

pub event_there : {T : Type 0} (f : T → vast.Item ℕ) (xs all : List T) (i : ℕ) (x : T) → all ≡ xs → i < length all → x ≡ get_or all i x → slice_get (events_in (map f xs)) i ≡ Some (event_of (f x))
event_there f xs all i x s l e =
    get_event (map f xs) i ∙ ap event_at (slice_get-map f xs i ∙ ap (option_map f) (ap (λ q. slice_get q i) (sym s) ∙ slice_get_read all (length all) i x refl l e))

pub event_past : {T : Type 0} (f : T → vast.Item ℕ) (xs all : List T) (i : ℕ) → all ≡ xs → length all ≤ i → slice_get (events_in (map f xs)) i ≡ None
event_past f xs all i s l = get_event (map f xs) i ∙ ap event_at (slice_get-map f xs i ∙ ap (option_map f) (ap (λ q. slice_get q i) (sym s) ∙ slice_get_past all i l))

-- ---- states

pub same_state : (b c : List V4) (l m : List (List V4)) (f g : List Bool) → b ≡ c → l ≡ m → f ≡ g → ◌≡◌ {A = State} (record { bits = b; drivers = l; active = f; updates = [] }) (record { bits = c; drivers = m; active = g; updates = [] })
same_state b c l m f g p q r =
    ap (λ (x : List V4). record { bits = x; drivers = l; active = f; updates = [] }) p
    ∙ (ap (λ (x : List (List V4)). record { bits = c; drivers = x; active = f; updates = [] }) q ∙ ap (λ (x : List Bool). record { bits = c; drivers = m; active = x; updates = [] }) r)

-- ---- a step

-- what item i does where its expression has this value
abbrev made : List Item → State → ℕ → ℕ → List V4 → Effect
made d s i t outs = record { drivers = slice_set s.drivers i outs; writes = (t, resolve4_rule (drivers_of d (slice_set s.drivers i outs) t)) ∷ []; updates = [] }

abbrev idle_again : ℕ → State → State
idle_again i x = record { bits = x.bits; drivers = x.drivers; active = slice_set x.active i false; updates = x.updates ++ [] }

pub acted : (d : List Item) (s e w : State) (i t : ℕ) (reads : List ℕ) (value : List V4 → List V4) (v r : V4) (sources : List V4) → slice_get d i ≡ Some (Assign reads (t ∷ []) value) → value s.bits ≡ v ∷ [] → e ≡ record s { drivers = slice_set s.drivers i (v ∷ []) } → sources ≡ drivers_of d e.drivers t → r ≡ resolve4_rule sources → w ≡ write d e (t, r) → idle_again i w ≡ step d s (Act i)
acted d s e w i t reads value v r sources at val same from res wrote =
    let drove : write d e (t, r) ≡ write d e (t, resolve4_rule (drivers_of d e.drivers t)) = ap (λ x. write d e (t, x)) (res ∙ ap resolve4_rule from) in
    let began : write d e (t, resolve4_rule (drivers_of d e.drivers t)) ≡ write d (record s { drivers = slice_set s.drivers i (v ∷ []) }) (t, resolve4_rule (drivers_of d (slice_set s.drivers i (v ∷ [])) t)) =
    ap (λ (x : State). write d x (t, resolve4_rule (drivers_of d x.drivers t))) same in
    ap (idle_again i) (wrote ∙ (drove ∙ began)) ∙ sym (ap (act d s i) at ∙ ap (λ outs. done d s i (made d s i t outs)) val)

-- ---- one more step

pub run_more : (d : List Item) (s : State) (cs : List Choice) (c : Choice) → run d s (cs ++ c ∷ []) ≡ step d (run d s cs) c
run_more d s [] c = refl
run_more d s (b ∷ cs) c = run_more d (step d s b) cs c

pub can_run_more : (d : List Item) (s : State) (cs : List Choice) (c : Choice) → CanRun d s cs → CanStep d (run d s cs) c → CanRun d s (cs ++ c ∷ [])
can_run_more d s [] c h k = (k, tt)
can_run_more d s (b ∷ cs) c h k = (h.0, can_run_more d (step d s b) cs c h.1 k)

pub next_run_more : (order : Order) (d : List Item) (s : State) (cs : List Choice) (c : Choice) → AllNext order d s cs → IsNext order (run d s cs) c → AllNext order d s (cs ++ c ∷ [])
next_run_more order d s [] c h k = (k, tt)
next_run_more order d s (b ∷ cs) c h k = (h.0, next_run_more order d (step d s b) cs c h.1 k)

-- ---- woken items

or_false : (b : Bool) → (b || false) ≡ b
or_false true = refl
or_false false = refl

unmoved : (flags : List Bool) (i : ℕ) (f : Bool) → i < length flags → drop i flags ≡ (get_or flags i f || false) ∷ drop (suc i) flags
unmoved [] i f l = absurd (omega arith)
unmoved (b ∷ flags) zero f l = ap (λ c. c ∷ flags) (sym (or_false b))
unmoved (b ∷ flags) (suc i) f l = unmoved flags i f (omega arith)

woken_suc : (items : List (vast.Item ℕ)) (b : ℕ) (old new : V4) (flags : List Bool) (i : ℕ) (f : Bool) → i < length flags → woken (drop i (events_in items)) b old new (drop i flags) ≡ (get_or flags i f || is_woken (slice_get items i) b) ∷ woken (drop (suc i) (events_in items)) b old new (drop (suc i) flags)
woken_suc items b old new [] i f l = absurd (omega arith)
woken_suc [] b old new (c ∷ flags) zero f l = ap (λ x. x ∷ flags) (sym (or_false c))
woken_suc (vast.assign t e ∷ items) b old new (c ∷ flags) zero f l = ap (λ x. (c || has x b) ∷ woken (events_in items) b old new flags) (reads_same e)
woken_suc [] b old new (c ∷ flags) (suc i) f l = unmoved flags i f (omega arith)
woken_suc (item ∷ items) b old new (c ∷ flags) (suc i) f l = woken_suc items b old new flags i f (omega arith)

pub woken_more : (items : List (vast.Item ℕ)) (b : ℕ) (old new : V4) (flags : List Bool) (i : ℕ) (f : Bool) → i < length flags → woken (drop i (events_in items)) b old new (drop i flags) ≡ (get_or flags i f || is_woken (slice_get items i) b) ∷ woken (drop (i + 1) (events_in items)) b old new (drop (i + 1) flags)
woken_more items b old new flags i f l =
    woken_suc items b old new flags i f l ∙ ap (λ n. (get_or flags i f || is_woken (slice_get items i) b) ∷ woken (drop n (events_in items)) b old new (drop n flags)) (sym (add-one i))

pub woken_end : (ds : List Item) (b : ℕ) (old new : V4) (flags : List Bool) (i : ℕ) → length flags ≤ i → woken (drop i ds) b old new (drop i flags) ≡ []
woken_end ds b old new flags i l = ap (woken (drop i ds) b old new) (drop_all i flags l) ∙ none (drop i ds)
  where
    none : (ds : List Item) → woken ds b old new [] ≡ []
    none [] = refl
    none (d ∷ ds) = refl
