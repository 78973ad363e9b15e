-- What the sources of a port are.
use Rattle.std.proofs.Common.{◌≡◌, ℕ, zero, suc, ◌+◌, ◌<◌, nat_eq, Bool, true, false, ◌||◌, not, cond, List, [], ◌∷◌, ◌++◌, map, length, Some, slice_get, ⊎_elim, refl, sym, ap, subst, ◌∙◌, arith, true≢false, eqb-true, ne_eqb, eq-eqb}
use Rattle.std.proofs.lemmas.Bool.{cases_Bool, or_left, or_parts, or_from}
use Rattle.vv_bits.specs.declared.nine.S9.{S9}
use Rattle.vv_bits.specs.declared.nine.S9.TheVariants.{U}
use Rattle.vv_gate.specs.Tree.{Assignment, Port}
use Rattle.vv_cycle.specs.Processes.{Part, pick, drivers_of, constants_of, is_driven, is_constant}
use Rattle.vv_gate_vhdl.specs.Design.{is_port, target_net, assigned_value, output_among, gate_process, is_assigned, undriven, OnceAssigned, AllPlaced}
use Rattle.vv_gate_vhdl.proofs.Ranks.{one_way}

-- ---- the drivers

pub driven_same : (ports : List Port) (gs : List Assignment) (k : ℕ) → is_driven (map (gate_process ports) gs) k ≡ is_assigned ports gs k
driven_same ports [] k = refl
driven_same ports (a ∷ gs) k = drop (nat_eq (target_net ports a) k) ∙ ap (λ b. nat_eq (target_net ports a) k || b) (driven_same ports gs k)
  where
    drop : (b : Bool) → ((b || false) || is_driven (map (gate_process ports) gs) k) ≡ (b || is_driven (map (gate_process ports) gs) k)
    drop true = refl
    drop false = refl

-- no in port is assigned
pub in_unassigned : (ports : List Port) (gs : List Assignment) (k : ℕ) → AllPlaced ports gs → is_port true ports k ≡ true → is_assigned ports gs k ≡ false
in_unassigned ports [] k h e = refl
in_unassigned ports (a ∷ gs) k h e =
    or_from (nat_eq (target_net ports a) k) (is_assigned ports gs k)
    (⊎_elim (λ t. absurd (true≢false (sym (ap (is_port true ports) (eqb-true (target_net ports a) k t) ∙ e) ∙ one_way ports (target_net ports a) h.0))) (λ n. n) (cases_Bool (nat_eq (target_net ports a) k)))
    (in_unassigned ports gs k h.1.1 e)

abbrev pub driver : List Port → Assignment → List S9 → ℕ → List S9
driver ports a values k = pick (target_net ports a ∷ []) (assigned_value ports a values ∷ []) k

abbrev pub drivers_by : List Port → List Assignment → List S9 → ℕ → List S9
drivers_by ports [] values k = []
drivers_by ports (a ∷ gs) values k = driver ports a values k ++ drivers_by ports gs values k

pub drivers_are : (ports : List Port) (gs : List Assignment) (parts : List Part) (values : List S9) (k : ℕ) → length parts ≡ length gs → ((i : ℕ) (a : Assignment) (q : Part) → slice_get gs i ≡ Some a → slice_get parts i ≡ Some q → pick (target_net ports a ∷ []) q.drivers k ≡ driver ports a values k) → drivers_of (map (gate_process ports) gs) parts k ≡ drivers_by ports gs values k
drivers_are ports [] parts values k len h = refl
drivers_are ports (a ∷ gs) [] values k len h = absurd (omega arith)
drivers_are ports (a ∷ gs) (q ∷ parts) values k len h =
    ap (λ (vs : List S9). vs ++ drivers_of (map (gate_process ports) gs) parts k) (h 0 a q refl refl)
    ∙ ap (λ (vs : List S9). driver ports a values k ++ vs) (drivers_are ports gs parts values k (omega arith) (λ i b r hb hr. h (suc i) b r hb hr))

by_none : (ports : List Port) (gs : List Assignment) (values : List S9) (k : ℕ) → is_assigned ports gs k ≡ false → drivers_by ports gs values k ≡ []
by_none ports [] values k h = refl
by_none ports (a ∷ gs) values k h =
    let w = or_parts (nat_eq (target_net ports a) k) (is_assigned ports gs k) h in
    ap (λ b. cond b (assigned_value ports a values ∷ []) [] ++ drivers_by ports gs values k) w.0 ∙ by_none ports gs values k w.1

by_one : (ports : List Port) (gs : List Assignment) (values : List S9) (k : ℕ) → OnceAssigned ports gs → is_assigned ports gs k ≡ true → drivers_by ports gs values k ≡ output_among ports gs values k ∷ []
by_one ports [] values k once h = absurd (true≢false (sym h))
by_one ports (a ∷ gs) values k once h =
    ⊎_elim
    (λ t. ap (λ b. cond b (assigned_value ports a values ∷ []) [] ++ drivers_by ports gs values k) t
    ∙ (ap (λ (vs : List S9). assigned_value ports a values ∷ vs) (by_none ports gs values k (ap (is_assigned ports gs) (sym (eqb-true (target_net ports a) k t)) ∙ once.0))
    ∙ ap (λ b. cond b (assigned_value ports a values) (output_among ports gs values k) ∷ []) (sym t)))
    (λ n. ap (λ b. cond b (assigned_value ports a values ∷ []) [] ++ drivers_by ports gs values k) n
    ∙ (by_one ports gs values k once.1 (ap (λ b. b || is_assigned ports gs k) (sym n) ∙ h)
    ∙ ap (λ b. cond b (assigned_value ports a values) (output_among ports gs values k) ∷ []) (sym n)))
    (cases_Bool (nat_eq (target_net ports a) k))

among_none : (ports : List Port) (gs : List Assignment) (values : List S9) (k : ℕ) → is_assigned ports gs k ≡ false → output_among ports gs values k ≡ U
among_none ports [] values k h = refl
among_none ports (a ∷ gs) values k h =
    let w = or_parts (nat_eq (target_net ports a) k) (is_assigned ports gs k) h in
    ap (λ b. cond b (assigned_value ports a values) (output_among ports gs values k)) w.0 ∙ among_none ports gs values k w.1

-- ---- the constants

cond_same : {A : Type 0} (b : Bool) (x : A) → cond b x x ≡ x
cond_same true x = refl
cond_same false x = refl

differ : (n k : ℕ) → k < n → nat_eq n k ≡ false
differ n k l = ne_eqb n k (λ e. let g : n ≡ k = e in absurd (omega arith))

pub const_below : (taken : ℕ → Bool) (ports : List Port) (n k : ℕ) → k < n → (constants_of (undriven taken ports n) k ≡ []) × (is_constant (undriven taken ports n) k ≡ false)
const_below taken [] n k l = (refl, refl)
const_below taken (p ∷ ports) n k l = go (const_below taken ports (suc n) k (omega arith)) (p.input || taken n)
  where
    go : (constants_of (undriven taken ports (suc n)) k ≡ []) × (is_constant (undriven taken ports (suc n)) k ≡ false) → (b : Bool) → (constants_of (cond b (undriven taken ports (suc n)) ((n, U) ∷ undriven taken ports (suc n))) k ≡ []) × (is_constant (cond b (undriven taken ports (suc n)) ((n, U) ∷ undriven taken ports (suc n))) k ≡ false)
    go more true = more
    go more false = (ap (λ b. cond b (U ∷ constants_of (undriven taken ports (suc n)) k) (constants_of (undriven taken ports (suc n)) k)) (differ n k l) ∙ more.0, or_from (nat_eq n k) (is_constant (undriven taken ports (suc n)) k) (differ n k l) more.1)

-- in ports have no constant source
pub const_in : (taken : ℕ → Bool) (ports : List Port) (n j k : ℕ) → k ≡ n + j → is_port true ports j ≡ true → is_constant (undriven taken ports n) k ≡ false
const_in taken [] n j k e h = refl
const_in taken (p ∷ ports) n zero k e h =
    ap (λ b. is_constant (cond (b || taken n) (undriven taken ports (suc n)) ((n, U) ∷ undriven taken ports (suc n))) k) h ∙ (const_below taken ports (suc n) k (omega arith)).1
const_in taken (p ∷ ports) n (suc j) k e h = go (const_in taken ports (suc n) j k (omega arith) h) (p.input || taken n)
  where
    go : is_constant (undriven taken ports (suc n)) k ≡ false → (b : Bool) → is_constant (cond b (undriven taken ports (suc n)) ((n, U) ∷ undriven taken ports (suc n))) k ≡ false
    go more true = more
    go more false = or_from (nat_eq n k) (is_constant (undriven taken ports (suc n)) k) (ne_eqb n k (λ q. let g : n ≡ k = q in absurd (omega arith))) more

-- an out port has one where it isn't taken
pub const_out : (taken : ℕ → Bool) (ports : List Port) (n j k : ℕ) → k ≡ n + j → is_port false ports j ≡ true → (constants_of (undriven taken ports n) k ≡ cond (taken k) [] (U ∷ [])) × (is_constant (undriven taken ports n) k ≡ not (taken k))
const_out taken [] n j k e h = absurd (true≢false (sym h))
const_out taken (p ∷ ports) n zero k e h = subst (λ m. (constants_of (undriven taken (p ∷ ports) n) m ≡ cond (taken m) [] (U ∷ [])) × (is_constant (undriven taken (p ∷ ports) n) m ≡ not (taken m))) here (go p.input (taken n) h)
  where
    here : n ≡ k
    here = omega arith

    past : (constants_of (undriven taken ports (suc n)) n ≡ []) × (is_constant (undriven taken ports (suc n)) n ≡ false)
    past = const_below taken ports (suc n) n (omega arith)

    self : nat_eq n n ≡ true
    self = eq-eqb n n refl

    go : (b t : Bool) → not b ≡ true → (constants_of (cond (b || t) (undriven taken ports (suc n)) ((n, U) ∷ undriven taken ports (suc n))) n ≡ cond t [] (U ∷ [])) × (is_constant (cond (b || t) (undriven taken ports (suc n)) ((n, U) ∷ undriven taken ports (suc n))) n ≡ not t)
    go true t q = absurd (true≢false (sym q))
    go false true q = past
    go false false q = (ap (λ b. cond b (U ∷ constants_of (undriven taken ports (suc n)) n) (constants_of (undriven taken ports (suc n)) n)) self ∙ ap (λ (vs : List S9). U ∷ vs) past.0, or_left (nat_eq n n) (is_constant (undriven taken ports (suc n)) n) self)
const_out taken (p ∷ ports) n (suc j) k e h = go (const_out taken ports (suc n) j k (omega arith) h) (p.input || taken n)
  where
    other : nat_eq n k ≡ false
    other = ne_eqb n k (λ q. let g : n ≡ k = q in absurd (omega arith))

    go : (constants_of (undriven taken ports (suc n)) k ≡ cond (taken k) [] (U ∷ [])) × (is_constant (undriven taken ports (suc n)) k ≡ not (taken k)) → (b : Bool) → (constants_of (cond b (undriven taken ports (suc n)) ((n, U) ∷ undriven taken ports (suc n))) k ≡ cond (taken k) [] (U ∷ [])) × (is_constant (cond b (undriven taken ports (suc n)) ((n, U) ∷ undriven taken ports (suc n))) k ≡ not (taken k))
    go more true = more
    go more false = (ap (λ b. cond b (U ∷ constants_of (undriven taken ports (suc n)) k) (constants_of (undriven taken ports (suc n)) k)) other ∙ more.0, ap (λ b. b || is_constant (undriven taken ports (suc n)) k) other ∙ more.1)

-- ---- both together

-- the one source of an out port
pub one_source : (ports : List Port) (gs : List Assignment) (values : List S9) (k : ℕ) → OnceAssigned ports gs → is_port false ports k ≡ true → drivers_by ports gs values k ++ constants_of (undriven (is_assigned ports gs) ports 0) k ≡ output_among ports gs values k ∷ []
one_source ports gs values k once h =
    let c = (const_out (is_assigned ports gs) ports 0 k k (omega arith) h).0 in
    ⊎_elim
    (λ t. ap (λ (vs : List S9). vs ++ constants_of (undriven (is_assigned ports gs) ports 0) k) (by_one ports gs values k once t) ∙ ap (λ (vs : List S9). output_among ports gs values k ∷ vs) (c ∙ ap (λ b. cond b [] (U ∷ [])) t))
    (λ n. ap (λ (vs : List S9). vs ++ constants_of (undriven (is_assigned ports gs) ports 0) k) (by_none ports gs values k n) ∙ ((c ∙ ap (λ b. cond b [] (U ∷ [])) n) ∙ ap (λ (v : S9). v ∷ []) (sym (among_none ports gs values k n))))
    (cases_Bool (is_assigned ports gs k))

pub has_one : (ports : List Port) (gs : List Assignment) (k : ℕ) → is_port false ports k ≡ true → (is_driven (map (gate_process ports) gs) k || is_constant (undriven (is_assigned ports gs) ports 0) k) ≡ true
has_one ports gs k h =
    ap (λ b. b || is_constant (undriven (is_assigned ports gs) ports 0) k) (driven_same ports gs k) ∙ (ap (λ b. is_assigned ports gs k || b) (const_out (is_assigned ports gs) ports 0 k k (omega arith) h).1 ∙ either (is_assigned ports gs k))
  where
    either : (b : Bool) → (b || not b) ≡ true
    either true = refl
    either false = refl

pub has_none : (ports : List Port) (gs : List Assignment) (k : ℕ) → AllPlaced ports gs → is_port true ports k ≡ true → (is_driven (map (gate_process ports) gs) k || is_constant (undriven (is_assigned ports gs) ports 0) k) ≡ false
has_none ports gs k placed h =
    or_from (is_driven (map (gate_process ports) gs) k) (is_constant (undriven (is_assigned ports gs) ports 0) k) (driven_same ports gs k ∙ in_unassigned ports gs k placed h) (const_in (is_assigned ports gs) ports 0 k k (omega arith) h)
