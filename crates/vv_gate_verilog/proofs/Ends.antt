-- What the runs of a flat design end in.
use Rattle.std.proofs.Common.{◌≡◌, ℕ, zero, suc, ◌+◌, ◌<◌, ◌≤◌, ◌^◌, nat_eq, Bool, true, false, ◌||◌, cond, if◌then◌else◌, List, [], ◌∷◌, ◌++◌, length, Option, Some, None, slice_get, slice_index_or, ⊎_elim, refl, sym, ap, subst, ◌∙◌, arith, true≢false, eqb-true, eq-eqb}
use Rattle.std.specs.List.{HoldsAt}
use Rattle.std.proofs.lemmas.Bool.{or_cases, cases_Bool}
use Rattle.vv_vast.specs.Tree as vast
use Rattle.vv_vast.specs.Flat.{Flat, IsFlat, IsAcyclic}
use Rattle.vv_bits.specs.declared.four.V4.{V4}
use Rattle.vv_bits.specs.declared.four.V4.TheVariants.{Zero, One, X, Z}
use Rattle.vv_bits.specs.Resolution.{resolve4_rule}
use Rattle.vv_events.specs.Items.{Item, Fair, IfItem, has, drives, driven_by, Drives}
use Rattle.vv_events.specs.Steps.{State, bit, write, effect, act, Choice, Act, Batch, step, run, pick, CanStep, CanRun, Quiet}
use Rattle.vv_events.specs.Orders.{Lawful, Owned}
use Rattle.vv_events.specs.Equations.{at, is_wire, values_of, Holds, Solves}
use Rattle.vv_events.specs.Rows.{changed_bits, start_bit, start_bits, NoWire, row, ordered_steps}
use Rattle.vv_events.specs.RowEnds.{Undriven, last_or}
use Rattle.vv_events.proofs.Descent.{or_true, or_left, writes_updates, with_drivers, emptied, effect_writes, owner_of, step_owned, stuck_quiet}
use Rattle.vv_events.proofs.Settled.{write_here, write_other, write_length, writes_length, writes_outside, to_changed, run_holds, ends_agree}
use Rattle.vv_events.proofs.Unique.{one_solution}
use Rattle.vv_events.proofs.RowStarts.{power_on_holds, row_holds, power_on_ends, row_ends, ordered_settles, power_on_solves, row_solves}
use Rattle.vv_gate_verilog.specs.Events.{events_in, events_of, kind_of, declared_in, declared_of, start_of, bit_value, bit_values, expressions_for, Solved, IsInput, IsOutput, InputsOnly, AtRest, LawfulFlat}
use Rattle.vv_gate_verilog.proofs.Laws.{value_bit}
use Rattle.vv_gate_verilog.proofs.Flattened.{not_both, drives_output, wire_output, lawful_flat}

-- ---- bits that no item drives, and the number of bits

act_stays : (d : List Item) (s : State) (i : ℕ) (o : Option Item) (b : ℕ) → IfItem o Fair → has (driven_by o) b ≡ false → bit (act d s i o) b ≡ bit s b
act_stays d s i None b f n = refl
act_stays d s i (Some item) b f n = writes_outside (drives item) d (with_drivers s (effect d s i item).drivers) (effect d s i item).writes b (effect_writes d s i item f) n

step_stays : (d : List Item) (order : List ℕ) (s : State) (c : Choice) (b : ℕ) → Lawful d order → Owned d s.updates → Undriven d b → bit (step d s c) b ≡ bit s b
step_stays d order s (Act i) b law owned free =
    act_stays d s i (slice_get d i) b (law.fair i) (⊎_elim (λ t. absurd (free i t)) (λ f. f) (cases_Bool (has (driven_by (slice_get d i)) b)))
step_stays d order s Batch b law owned free =
    writes_outside (changed_bits s.updates) d (emptied s) s.updates b (to_changed (changed_bits s.updates) s.updates (λ x h. h))
    (⊎_elim (λ t. let o = owner_of d s.updates b owned t in absurd (free o.0 o.2)) (λ f. f) (cases_Bool (has (changed_bits s.updates) b)))

run_stays : (d : List Item) (order : List ℕ) (s : State) (cs : List Choice) (b : ℕ) → Lawful d order → Owned d s.updates → CanRun d s cs → Undriven d b → bit (run d s cs) b ≡ bit s b
run_stays d order s [] b law owned can free = refl
run_stays d order s (c ∷ cs) b law owned can free =
    run_stays d order (step d s c) cs b law (step_owned d order s c law owned can.0) can.1 free ∙ step_stays d order s c b law owned free

act_size : (d : List Item) (s : State) (i : ℕ) (o : Option Item) → length (act d s i o).bits ≡ length s.bits
act_size d s i None = refl
act_size d s i (Some item) = writes_length d (with_drivers s (effect d s i item).drivers) (effect d s i item).writes

step_size : (d : List Item) (s : State) (c : Choice) → length (step d s c).bits ≡ length s.bits
step_size d s (Act i) = act_size d s i (slice_get d i)
step_size d s Batch = writes_length d (emptied s) s.updates

run_size : (d : List Item) (s : State) (cs : List Choice) → length (run d s cs).bits ≡ length s.bits
run_size d s [] = refl
run_size d s (c ∷ cs) = run_size d (step d s c) cs ∙ step_size d s c

-- ---- inputs

output_port : vast.Port
output_port = record { direction = vast.output; name = [] }

input_undriven : (m : vast.Module) (flat : Flat) (b : ℕ) → IsFlat m flat → IsInput flat b → Undriven (events_of flat) b
input_undriven m flat b f input j dr = not_both (sym (input output_port) ∙ drives_output flat.objects flat.items j b f.driven dr output_port)

named_input : (flat : Flat) (ws : List (ℕ × V4)) (b : ℕ) → InputsOnly flat ws → has (changed_bits ws) b ≡ true → IsInput flat b
named_input flat [] b h m = absurd (true≢false (sym m))
named_input flat (w ∷ ws) b h m = ⊎_elim (λ e. subst (IsInput flat) (eqb-true w.0 b e) h.0) (λ r. named_input flat ws b h.1 r) (or_cases (nat_eq w.0 b) (has (changed_bits ws) b) m)

no_wire : (m : vast.Module) (flat : Flat) (ws : List (ℕ × V4)) → IsFlat m flat → InputsOnly flat ws → NoWire (events_of flat) ws
no_wire m flat ws f h b w =
    ⊎_elim (λ t. absurd (not_both (sym (named_input flat ws b h t output_port) ∙ wire_output flat.objects flat.items b f.driven w output_port))) (λ n. n) (cases_Bool (has (changed_bits ws) b))

input_start : (d : List Item) (n : ℕ) (ps : List vast.Port) (b : ℕ) → HoldsAt (λ p. p.direction ≡ vast.input) ps b → slice_index_or (start_bits d n (declared_in ps)) b Z ≡ X
input_start d n [] b h = absurd (not_both (sym (h (record { direction = vast.output; name = [] }))))
input_start d n (p ∷ ps) zero h = ap (λ k. start_bit d n (kind_of k)) (h p)
input_start d n (p ∷ ps) (suc b) h = input_start d (suc n) ps b h

input_within : (ps : List vast.Port) (b : ℕ) → HoldsAt (λ p. p.direction ≡ vast.input) ps b → b < length ps
input_within [] b h = absurd (not_both (sym (h (record { direction = vast.output; name = [] }))))
input_within (p ∷ ps) zero h = omega arith
input_within (p ∷ ps) (suc b) h = let l : b < length ps = input_within ps b h in omega arith

write_at : (d : List Item) (s : State) (w : ℕ × V4) (b : ℕ) → b < length s.bits → bit (write d s w) b ≡ cond (nat_eq w.0 b) w.1 (bit s b)
write_at d s w b l =
    ⊎_elim
    (λ e. let q : w.0 ≡ b = eqb-true w.0 b e in (subst (λ c. bit (write d s w) c ≡ w.1) q (write_here d s w (subst (λ c. c < length s.bits) (sym q) l))) ∙ sym (ap (λ c. cond c w.1 (bit s b)) e))
    (λ n. write_other d s w b (λ q. true≢false (sym (eq-eqb w.0 b (sym q)) ∙ n)) ∙ sym (ap (λ c. cond c w.1 (bit s b)) n))
    (cases_Bool (nat_eq w.0 b))

row_at : (d : List Item) (s : State) (ws : List (ℕ × V4)) (b : ℕ) → b < length s.bits → bit (row d s ws) b ≡ last_or ws b (bit s b)
row_at d s [] b l = refl
row_at d s (w ∷ ws) b l = row_at d (write d s w) ws b (subst (λ n. b < n) (sym (write_length d s w)) l) ∙ ap (last_or ws b) (write_at d s w b l)

row_owned : (d : List Item) (s : State) (ws : List (ℕ × V4)) → Quiet s → Owned d (row d s ws).updates
row_owned d s ws q = subst (Owned d) (sym (writes_updates d s ws ∙ q.1)) tt

pub steps_keep : (m : vast.Module) (flat : Flat) (s : State) (cs : List Choice) (b : ℕ) → IsFlat m flat → IsAcyclic flat → s.updates ≡ [] → CanRun (events_of flat) s cs → Undriven (events_of flat) b → bit (run (events_of flat) s cs) b ≡ bit s b
steps_keep m flat s cs b f a none can free = let l = lawful_flat m flat f a in run_stays (events_of flat) l.order s cs b l.lawful (subst (Owned (events_of flat)) (sym none) tt) can free

pub power_on_inputs : (m : vast.Module) (flat : Flat) (cs : List Choice) (b : ℕ) → IsFlat m flat → IsAcyclic flat → CanRun (events_of flat) (start_of flat) cs → IsInput flat b → bit (run (events_of flat) (start_of flat) cs) b ≡ X
power_on_inputs m flat cs b f a can input =
    steps_keep m flat (start_of flat) cs b f a refl can (input_undriven m flat b f input) ∙ input_start (events_of flat) 0 flat.objects b input

pub row_inputs : (m : vast.Module) (flat : Flat) (s : State) (inputs : List (ℕ × V4)) (cs : List Choice) (b : ℕ) → IsFlat m flat → IsAcyclic flat → AtRest flat s → CanRun (events_of flat) (row (events_of flat) s inputs) cs → IsInput flat b → bit (run (events_of flat) (row (events_of flat) s inputs) cs) b ≡ last_or inputs b (bit s b)
row_inputs m flat s inputs cs b f a rest can input =
    steps_keep m flat (row (events_of flat) s inputs) cs b f a (writes_updates (events_of flat) s inputs ∙ rest.quiet.1) can (input_undriven m flat b f input)
    ∙ row_at (events_of flat) s inputs b (subst (λ n. b < n) (sym rest.size) (input_within flat.objects b input))

-- ---- the ends

events_length : (items : List (vast.Item ℕ)) → length (events_in items) ≡ length items
events_length [] = refl
events_length (item ∷ items) = ap suc (events_length items)

pub power_on_bound : (m : vast.Module) (flat : Flat) (cs : List Choice) → IsFlat m flat → IsAcyclic flat → CanRun (events_of flat) (start_of flat) cs → length cs ≤ 3 ^ length flat.items
power_on_bound m flat cs f a can =
    let l = lawful_flat m flat f a in
    subst (λ n. length cs ≤ 3 ^ n) (events_length flat.items) (power_on_ends (events_of flat) l.order (declared_of flat) cs l.lawful can)

pub row_bound : (m : vast.Module) (flat : Flat) (s : State) (inputs : List (ℕ × V4)) (cs : List Choice) → IsFlat m flat → IsAcyclic flat → Quiet s → CanRun (events_of flat) (row (events_of flat) s inputs) cs → length cs ≤ 3 ^ length flat.items
row_bound m flat s inputs cs f a q can =
    let l = lawful_flat m flat f a in
    subst (λ n. length cs ≤ 3 ^ n) (events_length flat.items) (row_ends (events_of flat) l.order s inputs cs l.lawful q can)

power_on_run : (m : vast.Module) (flat : Flat) (cs : List Choice) → IsFlat m flat → IsAcyclic flat → CanRun (events_of flat) (start_of flat) cs → Holds (events_of flat) (run (events_of flat) (start_of flat) cs)
power_on_run m flat cs f a can =
    let l = lawful_flat m flat f a in
    run_holds (events_of flat) l.order (start_of flat) cs l.lawful l.local tt (power_on_holds (events_of flat) (declared_of flat) l.fits) can

row_run : (m : vast.Module) (flat : Flat) (s : State) (inputs : List (ℕ × V4)) (cs : List Choice) → IsFlat m flat → IsAcyclic flat → AtRest flat s → InputsOnly flat inputs → CanRun (events_of flat) (row (events_of flat) s inputs) cs → Holds (events_of flat) (run (events_of flat) (row (events_of flat) s inputs) cs)
row_run m flat s inputs cs f a rest only can =
    let l = lawful_flat m flat f a in
    run_holds (events_of flat) l.order (row (events_of flat) s inputs) cs l.lawful l.local (row_owned (events_of flat) s inputs rest.quiet)
    (row_holds (events_of flat) s inputs l.local (no_wire m flat inputs f only) rest.holds) can

pub power_on_stuck : (m : vast.Module) (flat : Flat) (cs : List Choice) → IsFlat m flat → IsAcyclic flat → CanRun (events_of flat) (start_of flat) cs → ((c : Choice) → CanStep (events_of flat) (run (events_of flat) (start_of flat) cs) c → ⊥) → Quiet (run (events_of flat) (start_of flat) cs)
power_on_stuck m flat cs f a can stuck = let h = power_on_run m flat cs f a can in stuck_quiet (events_of flat) (run (events_of flat) (start_of flat) cs) h.flags stuck

pub row_stuck : (m : vast.Module) (flat : Flat) (s : State) (inputs : List (ℕ × V4)) (cs : List Choice) → IsFlat m flat → IsAcyclic flat → AtRest flat s → InputsOnly flat inputs → CanRun (events_of flat) (row (events_of flat) s inputs) cs → ((c : Choice) → CanStep (events_of flat) (run (events_of flat) (row (events_of flat) s inputs) cs) c → ⊥) → Quiet (run (events_of flat) (row (events_of flat) s inputs) cs)
row_stuck m flat s inputs cs f a rest only can stuck =
    let h = row_run m flat s inputs cs f a rest only can in stuck_quiet (events_of flat) (run (events_of flat) (row (events_of flat) s inputs) cs) h.flags stuck

-- ---- what driven objects hold

value_here : (u : ℕ) (e : vast.Expr ℕ) (es : List (vast.Expr ℕ)) (bits r : List V4) (c : Bool) → r ≡ bit_values es bits → cond c (bit_value e bits ∷ []) [] ++ r ≡ bit_values (cond c (e ∷ es) es) bits
value_here u e es bits r true h = ap (λ vs. bit_value e bits ∷ vs) h
value_here u e es bits r false h = h

values_for : (items : List (vast.Item ℕ)) (bits : List V4) (t : ℕ) → values_of (events_in items) bits t ≡ bit_values (expressions_for items t) bits
values_for [] bits t = refl
values_for (vast.assign u e ∷ items) bits t =
    ap (λ vs. pick (u ∷ []) vs t ++ values_of (events_in items) bits t) (value_bit e bits)
    ∙ value_here u e (expressions_for items t) bits (values_of (events_in items) bits t) (nat_eq u t) (values_for items bits t)

wire_here : (g e : vast.Expr ℕ) (l es : List (vast.Expr ℕ)) (c r : Bool) → (l ≡ e ∷ es → r ≡ true) → cond c (g ∷ l) l ≡ e ∷ es → ((c || false) || r) ≡ true
wire_here g e l es true r h q = refl
wire_here g e l es false r h q = h q

wire_for : (items : List (vast.Item ℕ)) (t : ℕ) (e : vast.Expr ℕ) (es : List (vast.Expr ℕ)) → expressions_for items t ≡ e ∷ es → is_wire (events_in items) t ≡ true
wire_for [] t e es q = absurd (nil_cons q)
  where
    nil_cons : [] ≡ e ∷ es → ⊥
    nil_cons r = cc
wire_for (vast.assign u g ∷ items) t e es q = wire_here g e (expressions_for items t) es (nat_eq u t) (is_wire (events_in items) t) (λ r. wire_for items t e es r) q

resolve_one : (v : V4) → resolve4_rule (v ∷ []) ≡ v
resolve_one Zero = refl
resolve_one One = refl
resolve_one X = refl
resolve_one Z = refl

solved_each : (flat : Flat) (bits : List V4) → Solves (events_of flat) bits → (t : ℕ) (e : vast.Expr ℕ) (es : List (vast.Expr ℕ)) → expressions_for flat.items t ≡ e ∷ es → at bits t ≡ resolve4_rule (bit_values (e ∷ es) bits)
solved_each flat bits s t e es q =
    s t (wire_for flat.items t e es q) ∙ (ap resolve4_rule (values_for flat.items bits t) ∙ ap (λ l. resolve4_rule (bit_values l bits)) q)

solved : (flat : Flat) (bits : List V4) → Solves (events_of flat) bits → Solved flat bits
solved flat bits s = record { alone = λ t e q. solved_each flat bits s t e [] q ∙ resolve_one (bit_value e bits); each = solved_each flat bits s }

start_size : (d : List Item) (n : ℕ) (ps : List vast.Port) → length (start_bits d n (declared_in ps)) ≡ length ps
start_size d n [] = refl
start_size d n (p ∷ ps) = ap suc (start_size d (suc n) ps)

drives_wire : (items : List (vast.Item ℕ)) (i b : ℕ) → Drives (events_in items) i b → is_wire (events_in items) b ≡ true
drives_wire [] i b dr = absurd (true≢false (sym dr))
drives_wire (vast.assign t e ∷ items) zero b dr = or_left (has (t ∷ []) b) (is_wire (events_in items) b) dr
drives_wire (vast.assign t e ∷ items) (suc i) b dr = or_true (has (t ∷ []) b) (is_wire (events_in items) b) (drives_wire items i b dr)

no_wire_free : (flat : Flat) (b : ℕ) → is_wire (events_of flat) b ≡ false → Undriven (events_of flat) b
no_wire_free flat b n j dr = true≢false (sym (drives_wire flat.items j b dr) ∙ n)

-- ---- an output that no item drives

unnamed_here : (g : vast.Expr ℕ) (l : List (vast.Expr ℕ)) (c r : Bool) → (l ≡ [] → r ≡ false) → cond c (g ∷ l) l ≡ [] → ((c || false) || r) ≡ false
unnamed_here g l true r h q = absurd (cons_nil q)
  where
    cons_nil : g ∷ l ≡ [] → ⊥
    cons_nil e = cc
unnamed_here g l false r h q = h q

unnamed : (items : List (vast.Item ℕ)) (b : ℕ) → expressions_for items b ≡ [] → is_wire (events_in items) b ≡ false
unnamed [] b q = refl
unnamed (vast.assign u g ∷ items) b q = unnamed_here g (expressions_for items b) (nat_eq u b) (is_wire (events_in items) b) (λ r. unnamed items b r) q

output_start : (d : List Item) (n : ℕ) (ps : List vast.Port) (b : ℕ) → HoldsAt (λ p. p.direction ≡ vast.output) ps b → is_wire d (n + b) ≡ false → slice_index_or (start_bits d n (declared_in ps)) b Z ≡ Z
output_start d n [] b h w = refl
output_start d n (p ∷ ps) zero h w = ap (λ k. start_bit d n (kind_of k)) (h p) ∙ ap (λ c. if c then X else Z) (subst (λ m. is_wire d m ≡ false) same w)
  where
    same : n + 0 ≡ n
    same = omega arith
output_start d n (p ∷ ps) (suc b) h w = output_start d (suc n) ps b h (subst (λ m. is_wire d m ≡ false) same w)
  where
    same : n + suc b ≡ suc n + b
    same = omega arith

power_on_floating : (m : vast.Module) (flat : Flat) (cs : List Choice) (b : ℕ) → IsFlat m flat → IsAcyclic flat → CanRun (events_of flat) (start_of flat) cs → IsOutput flat b → expressions_for flat.items b ≡ [] → bit (run (events_of flat) (start_of flat) cs) b ≡ Z
power_on_floating m flat cs b f a can output q =
    steps_keep m flat (start_of flat) cs b f a refl can (no_wire_free flat b (unnamed flat.items b q))
    ∙ output_start (events_of flat) 0 flat.objects b output (subst (λ k. is_wire (events_of flat) k ≡ false) same (unnamed flat.items b q))
  where
    same : b ≡ 0 + b
    same = omega arith

row_floating : (m : vast.Module) (flat : Flat) (s : State) (inputs : List (ℕ × V4)) (cs : List Choice) (b : ℕ) → IsFlat m flat → IsAcyclic flat → AtRest flat s → InputsOnly flat inputs → CanRun (events_of flat) (row (events_of flat) s inputs) cs → IsOutput flat b → expressions_for flat.items b ≡ [] → bit (run (events_of flat) (row (events_of flat) s inputs) cs) b ≡ Z
row_floating m flat s inputs cs b f a rest only can output q =
    steps_keep m flat (row (events_of flat) s inputs) cs b f a (writes_updates (events_of flat) s inputs ∙ rest.quiet.1) can (no_wire_free flat b (unnamed flat.items b q))
    ∙ (writes_outside (changed_bits inputs) (events_of flat) s inputs b (to_changed (changed_bits inputs) inputs (λ x h. h)) (⊎_elim (λ t. absurd (not_both (sym (named_input flat inputs b only t output_port) ∙ output output_port))) (λ n. n) (cases_Bool (has (changed_bits inputs) b)))
    ∙ rest.floating b output q)

pub power_on_rests : (m : vast.Module) (flat : Flat) (cs : List Choice) → IsFlat m flat → IsAcyclic flat → CanRun (events_of flat) (start_of flat) cs → Quiet (run (events_of flat) (start_of flat) cs) → AtRest flat (run (events_of flat) (start_of flat) cs) × Solved flat (run (events_of flat) (start_of flat) cs).bits
power_on_rests m flat cs f a can q =
    let l = lawful_flat m flat f a in
    let r = power_on_solves (events_of flat) l.order (declared_of flat) cs l.lawful l.local l.fits can q in
    (record { holds = r.0; quiet = q; size = run_size (events_of flat) (start_of flat) cs ∙ start_size (events_of flat) 0 flat.objects; floating = λ b o e. power_on_floating m flat cs b f a can o e }, solved flat (run (events_of flat) (start_of flat) cs).bits r.1)

pub row_rests : (m : vast.Module) (flat : Flat) (s : State) (inputs : List (ℕ × V4)) (cs : List Choice) → IsFlat m flat → IsAcyclic flat → AtRest flat s → InputsOnly flat inputs → CanRun (events_of flat) (row (events_of flat) s inputs) cs → Quiet (run (events_of flat) (row (events_of flat) s inputs) cs) → AtRest flat (run (events_of flat) (row (events_of flat) s inputs) cs) × Solved flat (run (events_of flat) (row (events_of flat) s inputs) cs).bits
row_rests m flat s inputs cs f a rest only can q =
    let l = lawful_flat m flat f a in
    let r = row_solves (events_of flat) l.order s inputs cs l.lawful l.local (no_wire m flat inputs f only) rest.holds rest.quiet can q in
    (record { holds = r.0; quiet = q; size = run_size (events_of flat) (row (events_of flat) s inputs) cs ∙ (writes_length (events_of flat) s inputs ∙ rest.size); floating = λ b o e. row_floating m flat s inputs cs b f a rest only can o e }, solved flat (run (events_of flat) (row (events_of flat) s inputs) cs).bits r.1)

-- ---- there is an end, and it is one

alike : (flat : Flat) (l : LawfulFlat flat) (s : State) (cs es : List Choice) → s.updates ≡ [] → Holds (events_of flat) s → CanRun (events_of flat) s cs → CanRun (events_of flat) s es → Quiet (run (events_of flat) s cs) → Quiet (run (events_of flat) s es) → (b : ℕ) → bit (run (events_of flat) s cs) b ≡ bit (run (events_of flat) s es) b
alike flat l s cs es none h can can' q q' =
    ends_agree (events_of flat) l.order s cs es l.lawful l.local owned h can can' q q'
    (λ b n. run_stays (events_of flat) l.order s cs b l.lawful owned can (no_wire_free flat b n) ∙ sym (run_stays (events_of flat) l.order s es b l.lawful owned can' (no_wire_free flat b n)))
  where
    owned : Owned (events_of flat) s.updates
    owned = subst (Owned (events_of flat)) (sym none) tt

pub power_on_alike : (m : vast.Module) (flat : Flat) (cs es : List Choice) → IsFlat m flat → IsAcyclic flat → CanRun (events_of flat) (start_of flat) cs → CanRun (events_of flat) (start_of flat) es → Quiet (run (events_of flat) (start_of flat) cs) → Quiet (run (events_of flat) (start_of flat) es) → (b : ℕ) → bit (run (events_of flat) (start_of flat) cs) b ≡ bit (run (events_of flat) (start_of flat) es) b
power_on_alike m flat cs es f a can can' q q' =
    let l = lawful_flat m flat f a in
    alike flat l (start_of flat) cs es refl (power_on_holds (events_of flat) (declared_of flat) l.fits) can can' q q'

pub row_alike : (m : vast.Module) (flat : Flat) (s : State) (inputs : List (ℕ × V4)) (cs es : List Choice) → IsFlat m flat → IsAcyclic flat → AtRest flat s → InputsOnly flat inputs → CanRun (events_of flat) (row (events_of flat) s inputs) cs → CanRun (events_of flat) (row (events_of flat) s inputs) es → Quiet (run (events_of flat) (row (events_of flat) s inputs) cs) → Quiet (run (events_of flat) (row (events_of flat) s inputs) es) → (b : ℕ) → bit (run (events_of flat) (row (events_of flat) s inputs) cs) b ≡ bit (run (events_of flat) (row (events_of flat) s inputs) es) b
row_alike m flat s inputs cs es f a rest only can can' q q' =
    let l = lawful_flat m flat f a in
    alike flat l (row (events_of flat) s inputs) cs es (writes_updates (events_of flat) s inputs ∙ rest.quiet.1) (row_holds (events_of flat) s inputs l.local (no_wire m flat inputs f only) rest.holds) can can' q q'

settles : (flat : Flat) (l : LawfulFlat flat) (s : State) → s.updates ≡ [] → Holds (events_of flat) s → CanRun (events_of flat) s (ordered_steps (3 ^ length (events_of flat)) (events_of flat) s) × Quiet (run (events_of flat) s (ordered_steps (3 ^ length (events_of flat)) (events_of flat) s))
settles flat l s none h = ordered_settles (events_of flat) l.order s l.lawful (subst (Owned (events_of flat)) (sym none) tt) h.flags

pub power_on_settles : (m : vast.Module) (flat : Flat) → IsFlat m flat → IsAcyclic flat → (cs : List Choice) × CanRun (events_of flat) (start_of flat) cs × Quiet (run (events_of flat) (start_of flat) cs)
power_on_settles m flat f a =
    let l = lawful_flat m flat f a in
    let r = settles flat l (start_of flat) refl (power_on_holds (events_of flat) (declared_of flat) l.fits) in
    (ordered_steps (3 ^ length (events_of flat)) (events_of flat) (start_of flat), r.0, r.1)

pub row_settles : (m : vast.Module) (flat : Flat) (s : State) (inputs : List (ℕ × V4)) → IsFlat m flat → IsAcyclic flat → AtRest flat s → InputsOnly flat inputs → (cs : List Choice) × CanRun (events_of flat) (row (events_of flat) s inputs) cs × Quiet (run (events_of flat) (row (events_of flat) s inputs) cs)
row_settles m flat s inputs f a rest only =
    let l = lawful_flat m flat f a in
    let r = settles flat l (row (events_of flat) s inputs) (writes_updates (events_of flat) s inputs ∙ rest.quiet.1) (row_holds (events_of flat) s inputs l.local (no_wire m flat inputs f only) rest.holds) in
    (ordered_steps (3 ^ length (events_of flat)) (events_of flat) (row (events_of flat) s inputs), r.0, r.1)

-- ---- one solution

solves_at : (flat : Flat) (bits : List V4) (b : ℕ) (es : List (vast.Expr ℕ)) → Solved flat bits → is_wire (events_of flat) b ≡ true → expressions_for flat.items b ≡ es → at bits b ≡ resolve4_rule (values_of (events_of flat) bits b)
solves_at flat bits b [] s w q = absurd (true≢false (sym w ∙ unnamed flat.items b q))
solves_at flat bits b (e ∷ es) s w q =
    s.each b e es q ∙ sym (ap resolve4_rule (values_for flat.items bits b) ∙ ap (λ l. resolve4_rule (bit_values l bits)) q)

free_at : (flat : Flat) (b : ℕ) (es : List (vast.Expr ℕ)) → is_wire (events_of flat) b ≡ false → expressions_for flat.items b ≡ es → expressions_for flat.items b ≡ []
free_at flat b [] w q = q
free_at flat b (e ∷ es) w q = absurd (true≢false (sym (wire_for flat.items b e es q) ∙ w))

pub one_end : (m : vast.Module) (flat : Flat) (x y : List V4) → IsFlat m flat → IsAcyclic flat → Solved flat x → Solved flat y → ((b : ℕ) → expressions_for flat.items b ≡ [] → at x b ≡ at y b) → (b : ℕ) → at x b ≡ at y b
one_end m flat x y f a p q same =
    let l = lawful_flat m flat f a in
    one_solution (events_of flat) l.order x y l.lawful l.local (λ b w. solves_at flat x b (expressions_for flat.items b) p w refl) (λ b w. solves_at flat y b (expressions_for flat.items b) q w refl)
    (λ b w. same b (free_at flat b (expressions_for flat.items b) w refl))
