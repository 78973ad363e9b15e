-- The values of a run stay among the six.
use Rattle.std.proofs.Common.{◌≡◌, ℕ, zero, suc, nat_eq, Bool, true, false, ◌||◌, ◌&&◌, cond, if◌then◌else◌, List, [], ◌∷◌, ◌++◌, map, Option, Some, None, slice_get, slice_set, refl, sym, ap, subst, ◌∙◌}
use Rattle.std.proofs.lemmas.Bool.{or_from, false_from_ne_true, and_left}
use Rattle.vv_bits.specs.declared.nine.S9.{S9}
use Rattle.vv_bits.specs.declared.nine.S9.TheVariants.{U, X, Zero, One, Z, W, L, H, Dash}
use Rattle.vv_bits.specs.Nine.{same, one_is, plain, and_plain, or_plain, xor_plain, not_rule, IsSix, AllSix}
use Rattle.vv_bits.specs.Resolution.{has, resolve_several, resolve_rule}
use Rattle.vv_bits.proofs.Finite.{same_law}
use Rattle.vv_gate.specs.Tree.{Operand, low, high, port, Term, Assignment, GateFile, Port, ports_of}
use Rattle.vv_gate.specs.declared.tree.Operator.{Operator}
use Rattle.vv_gate.specs.declared.tree.Operator.TheVariants.{And, Or, Xor}
use Rattle.vv_cycle.specs.Processes.{Nets, Value, Ran, Process, Class, Clock, Control, Data, Input, Part, Design, at, pick, drivers_of, constants_of, sources_of, has_source}
use Rattle.vv_cycle.specs.Turns.{VState, part_after, with_part, resume_at, resolutions, new_values, changes, readied, Turn, Resume, Update, turn}
use Rattle.vv_cycle.specs.Rows.{first_parts, Entry, put, put_input, entered, IsKnown, IsDigit, AllDigits, Fits, AllFit, InRun}
use Rattle.vv_cycle.proofs.Bound.{some_eq, none_eq}
use Rattle.vv_cycle.proofs.Runs.{in_run}
use Rattle.vv_gate_vhdl.specs.Design.{net_of, operand_value, term_value, combine, chain_from, chain_value, gate_process, gate_design, is_assigned, undriven}
use Rattle.vv_gate_vhdl.proofs.Ranks.{gate_at}

-- ---- operators and resolution

if_six : (b : Bool) (x y : S9) → IsSix x → IsSix y → IsSix (if b then x else y)
if_six true x y h g = h
if_six false x y h g = g

skip_six : (b : Bool) (x y : S9) → b ≡ false → IsSix y → IsSix (if b then x else y)
skip_six b x y e h = subst (λ c. IsSix (if c then x else y)) (sym e) h

cond_six : (b : Bool) (x y : S9) → IsSix x → IsSix y → IsSix (cond b x y)
cond_six true x y h g = h
cond_six false x y h g = g

and_six : (a b : S9) → IsSix (and_plain a b)
and_six a b = if_six (one_is Zero a b) Zero _ tt (if_six (one_is U a b) U _ tt (if_six (one_is X a b) X One tt tt))

or_six : (a b : S9) → IsSix (or_plain a b)
or_six a b = if_six (one_is One a b) One _ tt (if_six (one_is U a b) U _ tt (if_six (one_is X a b) X Zero tt tt))

xor_six : (a b : S9) → IsSix (xor_plain a b)
xor_six a b = if_six (one_is U a b) U _ tt (if_six (one_is X a b) X _ tt (if_six (same a b) Zero One tt tt))

not_six : (a : S9) → IsSix (not_rule a)
not_six a = if_six (same (plain a) U) U _ tt (if_six (same (plain a) X) X _ tt (if_six (same (plain a) Zero) One Zero tt tt))

combine_six : (o : Operator) (a b : S9) → IsSix (combine o a b)
combine_six And a b = and_six (plain a) (plain b)
combine_six Or a b = or_six (plain a) (plain b)
combine_six Xor a b = xor_six (plain a) (plain b)

lacks : (v : S9) (xs : List S9) → (IsSix v → ⊥) → AllSix xs → has v xs ≡ false
lacks v [] out h = refl
lacks v (x ∷ xs) out h = or_from (same x v) (has v xs) (false_from_ne_true (same x v) (λ e. out (subst IsSix (same_law x v e) h.0))) (lacks v xs out h.1)

several_six : (xs : List S9) → AllSix xs → IsSix (resolve_several xs)
several_six xs h =
    if_six (has U xs) U _ tt
    (if_six ((has X xs || has Dash xs) || (has Zero xs && has One xs)) X _ tt
    (if_six (has Zero xs) Zero _ tt
    (if_six (has One xs) One _ tt
    (skip_six (has W xs || (has L xs && has H xs)) W _ (or_from (has W xs) (has L xs && has H xs) (lacks W xs (λ w. w) h) (and_left (has L xs) (has H xs) (lacks L xs (λ w. w) h)))
    (skip_six (has L xs) L _ (lacks L xs (λ w. w) h)
    (skip_six (has H xs) H Z (lacks H xs (λ w. w) h) tt))))))

resolve_six : (xs : List S9) → AllSix xs → IsSix (resolve_rule xs)
resolve_six [] h = tt
resolve_six (x ∷ []) h = h.0
resolve_six (x ∷ y ∷ more) h = several_six (x ∷ y ∷ more) h

-- ---- chains

at_six : (values : List S9) (k : ℕ) → AllSix values → IsSix (at values k)
at_six [] k h = tt
at_six (v ∷ values) zero h = h.0
at_six (v ∷ values) (suc k) h = at_six values k h.1

operand_six : (ports : List Port) (values : List S9) (o : Operand) → AllSix values → IsSix (operand_value ports values o)
operand_six ports values low h = tt
operand_six ports values high h = tt
operand_six ports values (port i) h = at_six values (net_of ports i.text) h

term_six : (ports : List Port) (values : List S9) (t : Term) → AllSix values → IsSix (term_value ports values t)
term_six ports values t h = cond_six t.negated (not_rule (operand_value ports values t.operand)) (operand_value ports values t.operand) (not_six (operand_value ports values t.operand)) (operand_six ports values t.operand h)

from_six : (ports : List Port) (o : Operator) (v : S9) (terms : List Term) (values : List S9) → IsSix v → IsSix (chain_from ports o v terms values)
from_six ports o v [] values h = h
from_six ports o v (t ∷ terms) values h = from_six ports o (combine o v (term_value ports values t)) terms values (combine_six o v (term_value ports values t))

chain_six : (ports : List Port) (o : Operator) (terms : List Term) (values : List S9) → AllSix values → IsSix (chain_value ports o terms values)
chain_six ports o [] values h = tt
chain_six ports o (t ∷ terms) values h = from_six ports o (term_value ports values t) terms values (term_six ports values t h)

-- ---- designs

abbrev SixParts : List Part → Type 0
SixParts [] = Unit {0}
SixParts (q ∷ parts) = AllSix q.drivers × SixParts parts

abbrev SixConstants : List (ℕ × S9) → Type 0
SixConstants [] = Unit {0}
SixConstants (c ∷ cs) = IsSix c.1 × SixConstants cs

record SixDesign (d : Design) : Type 0 where
  body : (i : ℕ) (p : Process) (nets : Nets) (drivers : List S9) (variables : List Value) (r : Ran) → slice_get d.processes i ≡ Some p → AllSix nets.values → p.body nets drivers variables ≡ Some r → AllSix r.drivers
  constants : SixConstants d.constants
  initial : AllSix d.initial
  first : SixParts (first_parts d.processes)

record Six (s : VState) : Type 0 where
  values : AllSix s.nets.values
  parts : SixParts s.parts

append_six : (xs ys : List S9) → AllSix xs → AllSix ys → AllSix (xs ++ ys)
append_six [] ys h g = g
append_six (x ∷ xs) ys h g = (h.0, append_six xs ys h.1 g)

pick_six : (ts : List ℕ) (drivers : List S9) (k : ℕ) → AllSix drivers → AllSix (pick ts drivers k)
pick_six [] drivers k h = tt
pick_six (t ∷ ts) [] k h = tt
pick_six (t ∷ ts) (v ∷ drivers) k h = go (pick_six ts drivers k h.1) (nat_eq t k)
  where
    go : AllSix (pick ts drivers k) → (b : Bool) → AllSix (cond b (v ∷ pick ts drivers k) (pick ts drivers k))
    go more true = (h.0, more)
    go more false = more

drivers_six : (ps : List Process) (parts : List Part) (k : ℕ) → SixParts parts → AllSix (drivers_of ps parts k)
drivers_six [] parts k h = tt
drivers_six (p ∷ ps) [] k h = tt
drivers_six (p ∷ ps) (q ∷ parts) k h = append_six (pick p.targets q.drivers k) (drivers_of ps parts k) (pick_six p.targets q.drivers k h.0) (drivers_six ps parts k h.1)

constants_six : (cs : List (ℕ × S9)) (k : ℕ) → SixConstants cs → AllSix (constants_of cs k)
constants_six [] k h = tt
constants_six (c ∷ cs) k h = go (constants_six cs k h.1) (nat_eq c.0 k)
  where
    go : AllSix (constants_of cs k) → (b : Bool) → AllSix (cond b (c.1 ∷ constants_of cs k) (constants_of cs k))
    go more true = (h.0, more)
    go more false = more

resolutions_six : (d : Design) (parts : List Part) (n : ℕ) (vs : List S9) → SixConstants d.constants → SixParts parts → AllSix vs → AllSix (resolutions d parts n vs)
resolutions_six d parts n [] c p h = tt
resolutions_six d parts n (v ∷ vs) c p h =
    (cond_six (has_source d n) (resolve_rule (sources_of d parts n)) v (resolve_six (sources_of d parts n) (append_six (drivers_of d.processes parts n) (constants_of d.constants n) (drivers_six d.processes parts n p) (constants_six d.constants n c))) h.0, resolutions_six d parts (suc n) vs c p h.1)

readied_six : (ps : List Process) (events : List Bool) (parts : List Part) → SixParts parts → SixParts (readied ps events parts)
readied_six [] events parts h = h
readied_six (p ∷ ps) events [] h = tt
readied_six (p ∷ ps) events (q ∷ parts) h = (h.0, readied_six ps events parts h.1)

set_part_six : (parts : List Part) (i : ℕ) (q : Part) → SixParts parts → AllSix q.drivers → SixParts (slice_set parts i q)
set_part_six [] i q h g = tt
set_part_six (x ∷ parts) zero q h g = (g, h.1)
set_part_six (x ∷ parts) (suc i) q h g = (h.0, set_part_six parts i q h.1 g)

set_six : (values : List S9) (k : ℕ) (v : S9) → AllSix values → IsSix v → AllSix (slice_set values k v)
set_six [] k v h g = tt
set_six (x ∷ values) zero v h g = (g, h.1)
set_six (x ∷ values) (suc k) v h g = (h.0, set_six values k v h.1 g)

known_six : (v : S9) → IsKnown v → IsSix v
known_six U h = absurd h
known_six X h = absurd h
known_six Zero h = tt
known_six One h = tt
known_six Z h = absurd h
known_six W h = absurd h
known_six L h = absurd h
known_six H h = absurd h
known_six Dash h = absurd h

digit_six : (c : Class) (v : S9) → IsDigit c v → IsSix v
digit_six Clock v h = known_six v h
digit_six Control v h = known_six v h
digit_six Data v h = h

put_six : (c : Class) (ns : List ℕ) (bits values : List S9) → AllDigits c bits → AllSix values → AllSix (put ns bits values)
put_six c [] bits values g h = h
put_six c (n ∷ ns) [] values g h = h
put_six c (n ∷ ns) (b ∷ bits) values g h = put_six c ns bits (slice_set values n b) g.1 (set_six values n b h (digit_six c b g.0))

put_input_six : (o : Option Input) (bits values : List S9) → Fits o bits → AllSix values → AllSix (put_input o bits values)
put_input_six None bits values g h = h
put_input_six (Some i) bits values g h = put_six i.class i.nets bits values g.1 h

entered_six : (d : Design) (es : List Entry) (values : List S9) → AllFit d es → AllSix values → AllSix (entered d es values)
entered_six d [] values g h = h
entered_six d (e ∷ es) values g h = entered_six d es (put_input (slice_get d.inputs e.input) e.bits values) g.1 (put_input_six (slice_get d.inputs e.input) e.bits values g.0 h)

turn_six : (d : Design) → SixDesign d → (s t : VState) (u : Turn) → Six s → turn d s u ≡ Some t → Six t
turn_six d six s t (Resume i) h to = go (slice_get d.processes i) (slice_get s.parts i) refl to
  where
    ran : (p : Process) (q : Part) → slice_get d.processes i ≡ Some p → (o : Option Ran) → p.body s.nets q.drivers q.variables ≡ o → with_part s i (part_after q o) ≡ Some t → Six t
    ran p q hp None e k = absurd (none_eq t k)
    ran p q hp (Some r) e k = subst Six (some_eq _ t k) (record { values = h.values; parts = set_part_six s.parts i _ h.parts (six.body i p s.nets q.drivers q.variables r hp h.values e) })

    go : (op : Option Process) (oq : Option Part) → slice_get d.processes i ≡ op → resume_at s i op oq ≡ Some t → Six t
    go None oq hp e = subst Six (some_eq s t e) h
    go (Some p) None hp e = subst Six (some_eq s t e) h
    go (Some p) (Some q) hp e = ran p q hp (p.body s.nets q.drivers q.variables) refl e
turn_six d six s t Update h to =
    subst Six (some_eq _ t to) (record { values = resolutions_six d s.parts 0 s.nets.values six.constants h.parts h.values; parts = readied_six d.processes (changes s.nets.values (new_values d s)) s.parts h.parts })

run_six : (d : Design) → SixDesign d → (s : VState) → InRun d s → Six s
run_six d six s r =
    in_run d Six (record { values = resolutions_six d (first_parts d.processes) 0 d.initial six.constants six.first six.initial; parts = six.first })
    (λ a b u h can to. turn_six d six a b u h to)
    (λ a es h end lawful. record { values = entered_six d es a.nets.values lawful.fit h.values; parts = readied_six d.processes (changes a.nets.values (entered d es a.nets.values)) a.parts h.parts })
    s r

-- ---- gates

initial_six : (ports : List Port) → AllSix (map (λ p. U) ports)
initial_six [] = tt
initial_six (p ∷ ports) = (tt, initial_six ports)

first_six : (ports : List Port) (gs : List Assignment) → SixParts (first_parts (map (gate_process ports) gs))
first_six ports [] = tt
first_six ports (a ∷ gs) = ((tt, tt), first_six ports gs)

undriven_six : (taken : ℕ → Bool) (ports : List Port) (k : ℕ) → SixConstants (undriven taken ports k)
undriven_six taken [] k = tt
undriven_six taken (p ∷ ports) k = go (undriven_six taken ports (suc k)) (p.input || taken k)
  where
    go : SixConstants (undriven taken ports (suc k)) → (b : Bool) → SixConstants (cond b (undriven taken ports (suc k)) ((k, U) ∷ undriven taken ports (suc k)))
    go more true = more
    go more false = (tt, more)

gate_six : (f : GateFile) → SixDesign (gate_design f)
gate_six f = record { body = body; constants = undriven_six (is_assigned (ports_of f) f.assignments) (ports_of f) 0; initial = initial_six (ports_of f); first = first_six (ports_of f) f.assignments }
  where
    body : (i : ℕ) (p : Process) (nets : Nets) (drivers : List S9) (variables : List Value) (r : Ran) → slice_get (gate_design f).processes i ≡ Some p → AllSix nets.values → p.body nets drivers variables ≡ Some r → AllSix r.drivers
    body i p nets drivers variables r hp h ran =
        let g = gate_at (ports_of f) f.assignments i p hp in
        let k : (gate_process (ports_of f) g.a).body nets drivers variables ≡ Some r = ap (λ (o : Process). o.body nets drivers variables) (sym g.is) ∙ ran in
        subst (λ (o : Ran). AllSix o.drivers) (some_eq _ r k) (chain_six (ports_of f) g.a.operator g.a.terms nets.values h, tt)

pub gate_stays_six : (f : GateFile) (s : VState) → InRun (gate_design f) s → AllSix s.nets.values
gate_stays_six f s r = (run_six (gate_design f) (gate_six f) s r).values
