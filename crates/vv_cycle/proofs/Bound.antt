-- No row has more updates than there are ranks.
use Rattle.std.proofs.Common.{◌≡◌, ◌≢◌, ℕ, zero, suc, ◌+◌, ◌*◌, ◌<◌, ◌≤◌, nat_eq, Bool, true, false, ◌||◌, not, cond, List, [], ◌∷◌, ◌++◌, length, Option, Some, None, slice_get, slice_set, slice_index_or, ⊎_elim, refl, sym, ap, subst, ◌∙◌, arith, true≢false, eqb-true, length-set, mul-le-mul_right}
use Rattle.std.proofs.lemmas.Bool.{or_parts, or_cases, cases_Bool, cases_eq, cases_lt}
use Rattle.std.proofs.lemmas.List.{get_or_past, get_or_default, same_lists}
use Rattle.std.proofs.lemmas.Option.{slice_get_within, slice_get-get_or}
use Rattle.vv_bits.specs.declared.nine.S9.{S9}
use Rattle.vv_bits.specs.declared.nine.S9.TheVariants.{U, X, Zero, One, Z, W, L, H, Dash}
use Rattle.vv_bits.specs.Nine.{same}
use Rattle.vv_bits.specs.Resolution.{resolve_rule}
use Rattle.vv_bits.proofs.Finite.{same_law}
use Rattle.vv_cycle.specs.Processes.{Ran, Process, Design, Part, at, has, pick, drivers_of, constants_of, sources_of, has_source}
use Rattle.vv_cycle.specs.Turns.{VState, rested, part_after, with_part, resume_at, resume, resolutions, new_values, changes, any_true, any_at, readied, moved, update, any_ready, differs, Turn, Resume, Update, IsReady, CanTurn, turn, CanTurns}
use Rattle.vv_cycle.specs.Ranks.{Reached, First, Then, SameInputs, SameSensed, Ranked, Rested, InputsRest}

pub get_set_same : {A : Type 0} (xs : List A) (i : ℕ) (a : A) → i < length xs → slice_get (slice_set xs i a) i ≡ Some a
get_set_same [] i a l = absurd (omega arith)
get_set_same (x ∷ xs) zero a l = refl
get_set_same (x ∷ xs) (suc i) a l = get_set_same xs i a (omega arith)

pub get_set_other : {A : Type 0} (xs : List A) (i j : ℕ) (a : A) → j ≢ i → slice_get (slice_set xs i a) j ≡ slice_get xs j
get_set_other [] zero j a n = refl
get_set_other [] (suc i) j a n = refl
get_set_other (x ∷ xs) zero zero a n = absurd (n refl)
get_set_other (x ∷ xs) zero (suc j) a n = refl
get_set_other (x ∷ xs) (suc i) zero a n = refl
get_set_other (x ∷ xs) (suc i) (suc j) a n = get_set_other xs i j a (λ q. n (ap suc q))

same_refl : (a : S9) → same a a ≡ true
same_refl U = refl
same_refl X = refl
same_refl Zero = refl
same_refl One = refl
same_refl Z = refl
same_refl W = refl
same_refl L = refl
same_refl H = refl
same_refl Dash = refl

pub some_eq : {A : Type 0} (a b : A) → Some a ≡ Some b → a ≡ b
some_eq a b q = cc

pub none_eq : {A : Type 0} (a : A) → None ≡ Some a → ⊥
none_eq a q = cc

-- ---- changes

no_changes : (vs : List S9) → any_true (changes vs vs) ≡ false
no_changes [] = refl
no_changes (v ∷ vs) = ap (λ b. not b || any_true (changes vs vs)) (same_refl v) ∙ no_changes vs

unchanged_at : (vs ws : List S9) (y : ℕ) → length vs ≡ length ws → slice_index_or (changes vs ws) y false ≡ false → at vs y ≡ at ws y
unchanged_at [] [] y len h = refl
unchanged_at [] (w ∷ ws) y len h = absurd (omega arith)
unchanged_at (v ∷ vs) [] y len h = absurd (omega arith)
unchanged_at (v ∷ vs) (w ∷ ws) zero len h = same_law v w (not_false (same v w) h)
  where
    not_false : (b : Bool) → not b ≡ false → b ≡ true
    not_false true q = refl
    not_false false q = absurd (true≢false q)
unchanged_at (v ∷ vs) (w ∷ ws) (suc y) len h = unchanged_at vs ws y (omega arith) h

pub changes_at : (vs ws : List S9) (y : ℕ) → at vs y ≡ at ws y → slice_index_or (changes vs ws) y false ≡ false
changes_at [] ws y h = refl
changes_at (v ∷ vs) [] y h = refl
changes_at (v ∷ vs) (w ∷ ws) zero h = ap not (ap (same v) (sym h) ∙ same_refl v)
changes_at (v ∷ vs) (w ∷ ws) (suc y) h = changes_at vs ws y h

unchanged_of : (ks : List ℕ) (events : List Bool) (y : ℕ) → any_at ks events ≡ false → has ks y ≡ true → slice_index_or events y false ≡ false
unchanged_of [] events y h k = absurd (true≢false (sym k))
unchanged_of (x ∷ ks) events y h k =
    let p = or_parts (slice_index_or events x false) (any_at ks events) h in
    ⊎_elim (λ e. subst (λ z. slice_index_or events z false ≡ false) (eqb-true x y e) p.0) (λ r. unchanged_of ks events y p.1 r) (or_cases (nat_eq x y) (has ks y) k)

-- ---- resolutions

pub resolutions_length : (d : Design) (parts : List Part) (n : ℕ) (vs : List S9) → length (resolutions d parts n vs) ≡ length vs
resolutions_length d parts n [] = refl
resolutions_length d parts n (v ∷ vs) = ap suc (resolutions_length d parts (suc n) vs)

resolutions_at : (d : Design) (parts : List Part) (n : ℕ) (vs : List S9) (k j : ℕ) (z : S9) → j ≡ n + k → k < length vs → slice_index_or (resolutions d parts n vs) k z ≡ cond (has_source d j) (resolve_rule (sources_of d parts j)) (slice_index_or vs k z)
resolutions_at d parts n [] k j z q l = absurd (omega arith)
resolutions_at d parts n (v ∷ vs) zero j z q l = ap (λ m. cond (has_source d m) (resolve_rule (sources_of d parts m)) v) e
  where
    e : n ≡ j
    e = omega arith
resolutions_at d parts n (v ∷ vs) (suc k) j z q l = resolutions_at d parts (suc n) vs k j z (omega arith) (omega arith)

drivers_set : (d : List Process) (parts : List Part) (i : ℕ) (p : Process) (q r : Part) (k : ℕ) → slice_get d i ≡ Some p → slice_get parts i ≡ Some q → pick p.targets r.drivers k ≡ pick p.targets q.drivers k → drivers_of d (slice_set parts i r) k ≡ drivers_of d parts k
drivers_set [] parts i p q r k hp hq same = absurd (none_eq p hp)
drivers_set (x ∷ d) [] i p q r k hp hq same = absurd (none_eq q hq)
drivers_set (x ∷ d) (y ∷ parts) zero p q r k hp hq same = ap (λ vs. vs ++ drivers_of d parts k) (ap (λ o. pick o.targets r.drivers k) (some_eq x p hp) ∙ (same ∙ (ap (λ o. pick o.targets q.drivers k) (sym (some_eq x p hp)) ∙ ap (λ o. pick x.targets o.drivers k) (sym (some_eq y q hq)))))
drivers_set (x ∷ d) (y ∷ parts) (suc i) p q r k hp hq same = ap (λ vs. pick x.targets y.drivers k ++ vs) (drivers_set d parts i p q r k hp hq same)

drivers_readied : (d ps : List Process) (events : List Bool) (parts : List Part) (k : ℕ) → drivers_of d (readied ps events parts) k ≡ drivers_of d parts k
drivers_readied [] ps events parts k = refl
drivers_readied (p ∷ d) [] events parts k = refl
drivers_readied (p ∷ d) (x ∷ ps) events [] k = refl
drivers_readied (p ∷ d) (x ∷ ps) events (part ∷ parts) k = ap (λ vs. pick p.targets part.drivers k ++ vs) (drivers_readied d ps events parts k)

sources_set : (d : Design) (parts : List Part) (i : ℕ) (p : Process) (q r : Part) (k : ℕ) → slice_get d.processes i ≡ Some p → slice_get parts i ≡ Some q → pick p.targets r.drivers k ≡ pick p.targets q.drivers k → sources_of d (slice_set parts i r) k ≡ sources_of d parts k
sources_set d parts i p q r k hp hq same = ap (λ vs. vs ++ constants_of d.constants k) (drivers_set d.processes parts i p q r k hp hq same)

sources_readied : (d : Design) (events : List Bool) (parts : List Part) (k : ℕ) → sources_of d (readied d.processes events parts) k ≡ sources_of d parts k
sources_readied d events parts k = ap (λ vs. vs ++ constants_of d.constants k) (drivers_readied d.processes d.processes events parts k)

-- the part before it was made ready
pub record Was (p : Process) (events : List Bool) (parts : List Part) (i : ℕ) (q : Part) : Type 0 where
  pub part : Part
  pub is : slice_get parts i ≡ Some part
  pub drivers : q.drivers ≡ part.drivers
  pub idle : q.ready ≡ false → (part.ready ≡ false) × (any_at p.sensitive events ≡ false)

pub was_part : (d : List Process) (events : List Bool) (parts : List Part) (i : ℕ) (p : Process) (q : Part) → slice_get d i ≡ Some p → slice_get (readied d events parts) i ≡ Some q → Was p events parts i q
was_part [] events parts i p q hp hq = absurd (none_eq p hp)
was_part (x ∷ d) events [] i p q hp hq = absurd (none_eq q hq)
was_part (x ∷ d) events (y ∷ parts) zero p q hp hq =
    record {
      part = y;
      is = refl;
      drivers = sym (ap (λ o. o.drivers) (some_eq _ q hq));
      idle = λ h. or_parts y.ready (any_at p.sensitive events) (ap (λ o. y.ready || any_at o.sensitive events) (sym (some_eq x p hp)) ∙ (ap (λ o. o.ready) (some_eq _ q hq) ∙ h));
    }
was_part (x ∷ d) events (y ∷ parts) (suc i) p q hp hq =
    let w = was_part d events parts i p q hp hq in record { part = w.part; is = w.is; drivers = w.drivers; idle = w.idle }

-- ---- the invariant

-- turns keep what holds
abbrev pub Kept : Design → (VState → Type 0) → Type 0
Kept d Holds = (s t : VState) (u : Turn) → Holds s → CanTurn d s u → turn d s u ≡ Some t → Holds t

-- what has a rank below m changes no more
pub record Calm (d : Design) (Holds : VState → Type 0) (rank : ℕ → ℕ) (held : List S9 → ℕ → Bool) (give : ℕ → ℕ → List S9 → List S9) (m : ℕ) (s : VState) : Type 0 where
  pub known : Holds s
  pub rested : Rested d held give s
  pub later : 0 < m → InputsRest d s.nets
  pub locked : (i : ℕ) (p : Process) (q : Part) (x : ℕ) → held s.nets.values i ≡ false → slice_get d.processes i ≡ Some p → slice_get s.parts i ≡ Some q → rank x < m → pick p.targets q.drivers x ≡ give i x s.nets.values
  pub still : (k : ℕ) → has_source d k ≡ true → rank k < m → k < length s.nets.values → at s.nets.values k ≡ resolve_rule (sources_of d s.parts k)

pub start_calm : (d : Design) (Holds : VState → Type 0) (rank : ℕ → ℕ) (held : List S9 → ℕ → Bool) (give : ℕ → ℕ → List S9 → List S9) (s : VState) → Holds s → Rested d held give s → Calm d Holds rank held give 0 s
start_calm d Holds rank held give s kn r = record { known = kn; rested = r; later = λ l. absurd (omega arith); locked = λ i p q x hf hp hq l. absurd (omega arith); still = λ k h l w. absurd (omega arith) }

resume_calm : (d : Design) (Holds : VState → Type 0) (rank : ℕ → ℕ) (e : ℕ) (held : List S9 → ℕ → Bool) (give : ℕ → ℕ → List S9 → List S9) (m : ℕ) (s : VState) (i : ℕ) (p : Process) (q : Part) (r : Ran) → Ranked d Holds rank e held give → Calm d Holds rank held give m s → slice_get d.processes i ≡ Some p → slice_get s.parts i ≡ Some q → q.ready ≡ true → p.body s.nets q.drivers q.variables ≡ Some r → Holds (record { nets = s.nets; parts = slice_set s.parts i (rested q r) }) → Calm d Holds rank held give m (record { nets = s.nets; parts = slice_set s.parts i (rested q r) })
resume_calm d Holds rank e held give m s i p q r ranked h hp hq on ran kn =
    record {
      known = kn;
      rested = record { each = λ j p' q' x hf hp' hq' idle. ⊎_elim (λ z. here j p' q' x z hf hp' hq') (λ n. h.rested.each j p' q' x hf hp' (sym (get_set_other s.parts i j next n) ∙ hq') idle) (cases_eq j i) };
      later = h.later;
      locked = λ j p' q' x hf hp' hq' l. ⊎_elim (λ z. here j p' q' x z hf hp' hq') (λ n. h.locked j p' q' x hf hp' (sym (get_set_other s.parts i j next n) ∙ hq') l) (cases_eq j i);
      still = λ k src l w. h.still k src l w ∙ ap resolve_rule (sym (sources_set d s.parts i p q next k hp hq (⊎_elim (λ hh. ranked.keeps s i p q r h.known hh (record { process = hp; part = hq; ready = on; ran = ran }) (h.later (omega arith)) k) (λ hf. new hf k ∙ sym (h.locked i p q k hf hp hq l)) (cases_Bool (held s.nets.values i)))));
    }
  where
    next : Part
    next = rested q r

    new : held s.nets.values i ≡ false → (x : ℕ) → pick p.targets r.drivers x ≡ give i x s.nets.values
    new hf x = ranked.gives s i p q r h.known hf (record { process = hp; part = hq; ready = on; ran = ran }) x

    here : (j : ℕ) (p' : Process) (q' : Part) (x : ℕ) → j ≡ i → held s.nets.values j ≡ false → slice_get d.processes j ≡ Some p' → slice_get (slice_set s.parts i next) j ≡ Some q' → pick p'.targets q'.drivers x ≡ give j x s.nets.values
    here j p' q' x z hf hp' hq' =
        let ep : p ≡ p' = some_eq p p' (sym hp ∙ (ap (slice_get d.processes) (sym z) ∙ hp')) in
        let eq : next ≡ q' = some_eq next q' (sym (get_set_same s.parts i next (slice_get_within s.parts i q hq)) ∙ (ap (slice_get (slice_set s.parts i next)) (sym z) ∙ hq')) in
        ap (λ o. pick o.targets q'.drivers x) (sym ep) ∙ (ap (λ o. pick p.targets o.drivers x) (sym eq) ∙ (new (ap (held s.nets.values) (sym z) ∙ hf) x ∙ ap (λ n. give n x s.nets.values) (sym z)))

pub ready_none : (parts : List Part) (i : ℕ) (q : Part) → any_ready parts ≡ false → slice_get parts i ≡ Some q → q.ready ≡ false
ready_none [] i q h k = absurd (none_eq q k)
ready_none (x ∷ parts) zero q h k = ap (λ o. o.ready) (sym (some_eq x q k)) ∙ (or_parts x.ready (any_ready parts) h).0
ready_none (x ∷ parts) (suc i) q h k = ready_none parts i q (or_parts x.ready (any_ready parts) h).1 k

pub new_at : (d : Design) (s : VState) (k : ℕ) → k < length s.nets.values → at (new_values d s) k ≡ cond (has_source d k) (resolve_rule (sources_of d s.parts k)) (at s.nets.values k)
new_at d s k l = resolutions_at d s.parts 0 s.nets.values k k U (omega arith) l

-- the update changes nothing below m
same_below : (d : Design) (Holds : VState → Type 0) (rank : ℕ → ℕ) (held : List S9 → ℕ → Bool) (give : ℕ → ℕ → List S9 → List S9) (m : ℕ) (s : VState) → Calm d Holds rank held give m s → (k : ℕ) → rank k < m → at s.nets.values k ≡ at (new_values d s) k
same_below d Holds rank held give m s h k l =
    ⊎_elim
    (λ w. ⊎_elim (λ src. h.still k src l w ∙ sym (new_at d s k w ∙ ap (λ b. cond b (resolve_rule (sources_of d s.parts k)) (at s.nets.values k)) src)) (λ non. sym (new_at d s k w ∙ ap (λ b. cond b (resolve_rule (sources_of d s.parts k)) (at s.nets.values k)) non)) (cases_Bool (has_source d k)))
    (λ o. get_or_past s.nets.values k U o ∙ sym (get_or_past (new_values d s) k U (subst (λ n. n ≤ k) (sym (resolutions_length d s.parts 0 s.nets.values)) o)))
    (cases_lt k (length s.nets.values))

-- an idle process still has run on the present values when the nets have moved
pub moved_rested : (d : Design) (Holds : VState → Type 0) (rank : ℕ → ℕ) (e : ℕ) (held : List S9 → ℕ → Bool) (give : ℕ → ℕ → List S9 → List S9) (s : VState) (values : List S9) → Ranked d Holds rank e held give → Rested d held give s → length s.nets.values ≡ length values → Rested d held give (moved d s values)
moved_rested d Holds rank e held give s values ranked h len =
    record { each = λ i p q x hf hp hq off. let w = was_part d.processes (changes s.nets.values values) s.parts i p q hp hq in ap (λ ds. pick p.targets ds x) w.drivers ∙ (h.each i p w.part x (before i p hf hp (w.idle off).1) hp w.is (w.idle off).0 ∙ ranked.senses i p s.nets.values values (before i p hf hp (w.idle off).1) hp x (sensed p (w.idle off).1)) }
  where
    sensed : (p : Process) → any_at p.sensitive (changes s.nets.values values) ≡ false → SameSensed p s.nets.values values
    sensed p quiet y sy = unchanged_at s.nets.values values y len (unchanged_of p.sensitive (changes s.nets.values values) y quiet sy)

    before : (i : ℕ) (p : Process) → held values i ≡ false → slice_get d.processes i ≡ Some p → any_at p.sensitive (changes s.nets.values values) ≡ false → held s.nets.values i ≡ false
    before i p hf hp quiet = ranked.by_sensed i p s.nets.values values hp (sensed p quiet) ∙ hf

-- the update changes no net without a source
pub update_inputs : (d : Design) (s : VState) → SameInputs d s.nets.values (new_values d s)
update_inputs d s k non =
    ⊎_elim (λ w. sym (new_at d s k w ∙ ap (λ b. cond b (resolve_rule (sources_of d s.parts k)) (at s.nets.values k)) non)) (λ o. get_or_past s.nets.values k U o ∙ sym (get_or_past (new_values d s) k U (subst (λ n. n ≤ k) (sym (resolutions_length d s.parts 0 s.nets.values)) o))) (cases_lt k (length s.nets.values))

update_calm : (d : Design) (Holds : VState → Type 0) (rank : ℕ → ℕ) (e : ℕ) (held : List S9 → ℕ → Bool) (give : ℕ → ℕ → List S9 → List S9) (m : ℕ) (s : VState) → Ranked d Holds rank e held give → Calm d Holds rank held give m s → any_ready s.parts ≡ false → Holds (update d s) → Calm d Holds rank held give (suc m) (update d s)
update_calm d Holds rank e held give m s ranked h idle kn =
    record {
      known = kn;
      rested = moved_rested d Holds rank e held give s (new_values d s) ranked h.rested (sym (resolutions_length d s.parts 0 s.nets.values));
      later = λ l k non. changes_at s.nets.values (new_values d s) k (update_inputs d s k non);
      locked = λ i p q x hf hp hq l. let w = was_part d.processes events s.parts i p q hp hq in ap (λ ds. pick p.targets ds x) w.drivers ∙ (before i p w.part x (was i hf) hp w.is ∙ ranked.lower i p s.nets.values (new_values d s) (was i hf) hp x (update_inputs d s) (λ y ly. same_below d Holds rank held give m s h y (omega arith)));
      still = λ k src l w. new_at d s k (subst (λ n. k < n) (resolutions_length d s.parts 0 s.nets.values) w) ∙ (ap (λ b. cond b (resolve_rule (sources_of d s.parts k)) (at s.nets.values k)) src ∙ ap resolve_rule (sym (sources_readied d events s.parts k)));
    }
  where
    events : List Bool
    events = changes s.nets.values (new_values d s)

    was : (i : ℕ) → held (new_values d s) i ≡ false → held s.nets.values i ≡ false
    was i hf = ranked.by_inputs i s.nets.values (new_values d s) (update_inputs d s) ∙ hf

    before : (i : ℕ) (p : Process) (q : Part) (x : ℕ) → held s.nets.values i ≡ false → slice_get d.processes i ≡ Some p → slice_get s.parts i ≡ Some q → pick p.targets q.drivers x ≡ give i x s.nets.values
    before i p q x hf hp hq = h.rested.each i p q x hf hp hq (ready_none s.parts i q idle hq)

-- with all ranks below m nothing differs
calm_same : (d : Design) (Holds : VState → Type 0) (rank : ℕ → ℕ) (e : ℕ) (held : List S9 → ℕ → Bool) (give : ℕ → ℕ → List S9 → List S9) (m : ℕ) (s : VState) → Ranked d Holds rank e held give → Calm d Holds rank held give m s → e ≤ m → differs d s ≡ false
calm_same d Holds rank e held give m s ranked h le = ap (λ ws. any_true (changes s.nets.values ws)) (sym same) ∙ no_changes s.nets.values
  where
    at_any : (k : ℕ) (z : S9) → k < length s.nets.values → slice_index_or s.nets.values k z ≡ slice_index_or (new_values d s) k z
    at_any k z l =
        get_or_default s.nets.values k z U l ∙ (same_below d Holds rank held give m s h k (let b : rank k < e = ranked.bound k in omega arith)
        ∙ sym (get_or_default (new_values d s) k z U (subst (λ n. k < n) (sym (resolutions_length d s.parts 0 s.nets.values)) l)))

    same : s.nets.values ≡ new_values d s
    same = same_lists s.nets.values (new_values d s) (sym (resolutions_length d s.parts 0 s.nets.values)) at_any

-- ---- whole orders

abbrev pub updates : List Turn → ℕ
updates [] = 0
updates (Resume i ∷ ts) = updates ts
updates (Update ∷ ts) = suc (updates ts)

pub option_calm : (d : Design) (Holds : VState → Type 0) (rank : ℕ → ℕ) (e : ℕ) (held : List S9 → ℕ → Bool) (give : ℕ → ℕ → List S9 → List S9) (m : ℕ) (s : VState) (i : ℕ) (op : Option Process) (oq : Option Part) → Ranked d Holds rank e held give → Calm d Holds rank held give m s → slice_get d.processes i ≡ op → slice_get s.parts i ≡ oq → IsReady oq → (t : VState) → resume_at s i op oq ≡ Some t → Holds t → Calm d Holds rank held give m t
option_calm d Holds rank e held give m s i None oq ranked h hp hq on t to kn = subst (Calm d Holds rank held give m) (some_eq s t to) h
option_calm d Holds rank e held give m s i (Some p) None ranked h hp hq on t to kn = subst (Calm d Holds rank held give m) (some_eq s t to) h
option_calm d Holds rank e held give m s i (Some p) (Some q) ranked h hp hq on t to kn = go (p.body s.nets q.drivers q.variables) refl to
  where
    go : (o : Option Ran) → p.body s.nets q.drivers q.variables ≡ o → with_part s i (part_after q o) ≡ Some t → Calm d Holds rank held give m t
    go None ran k = absurd (none_eq t k)
    go (Some r) ran k = subst (Calm d Holds rank held give m) (some_eq _ t k) (resume_calm d Holds rank e held give m s i p q r ranked h hp hq on ran (subst Holds (sym (some_eq _ t k)) kn))

updates_few : (d : Design) (Holds : VState → Type 0) (rank : ℕ → ℕ) (e : ℕ) (held : List S9 → ℕ → Bool) (give : ℕ → ℕ → List S9 → List S9) (m : ℕ) (s : VState) (ts : List Turn) → Ranked d Holds rank e held give → Kept d Holds → Calm d Holds rank held give m s → m ≤ e → CanTurns d (Some s) ts → updates ts + m ≤ e
updates_few d Holds rank e held give m s [] ranked kept h le can = omega arith
updates_few d Holds rank e held give m s (Resume i ∷ ts) ranked kept h le can = go (λ t q c. updates_few d Holds rank e held give m t ts ranked kept (option_calm d Holds rank e held give m s i (slice_get d.processes i) (slice_get s.parts i) ranked h refl refl can.0 t q (kept s t (Resume i) h.known can.0 q)) le c) (resume d s i) refl can.1
  where
    go : ((t : VState) → resume d s i ≡ Some t → CanTurns d (Some t) ts → updates ts + m ≤ e) → (o : Option VState) → resume d s i ≡ o → CanTurns d o ts → updates ts + m ≤ e
    go more None q c = none ts c
      where
        none : (us : List Turn) → CanTurns d None us → updates us + m ≤ e
        none [] c' = omega arith
        none (u ∷ us) c' = absurd c'
    go more (Some t) q c = more t q c
updates_few d Holds rank e held give m s (Update ∷ ts) ranked kept h le can =
    ⊎_elim
    (λ lt. let rest : updates ts + suc m ≤ e = updates_few d Holds rank e held give (suc m) (update d s) ts ranked kept (update_calm d Holds rank e held give m s ranked h can.0.0 (kept s (update d s) Update h.known can.0 refl)) lt can.1 in omega arith)
    (λ ge. absurd (true≢false (sym can.0.1 ∙ calm_same d Holds rank e held give m s ranked h ge)))
    (cases_lt m e)

-- ---- the turns between updates

pub count_ready : List Part → ℕ
count_ready [] = 0
count_ready (q ∷ parts) = cond q.ready 1 0 + count_ready parts

count_le : (parts : List Part) → count_ready parts ≤ length parts
unfolding count_ready
count_le [] = omega arith
count_le (q ∷ parts) = let r : count_ready parts ≤ length parts = count_le parts in let o : cond q.ready 1 0 ≤ 1 = one q.ready in omega arith
  where
    one : (b : Bool) → cond b 1 0 ≤ 1
    one true = omega arith
    one false = omega arith

count_rest : (parts : List Part) (i : ℕ) (q r : Part) → slice_get parts i ≡ Some q → q.ready ≡ true → r.ready ≡ false → suc (count_ready (slice_set parts i r)) ≡ count_ready parts
unfolding count_ready
count_rest [] i q r h on off = absurd (none_eq q h)
count_rest (x ∷ parts) zero q r h on off =
    let a : cond {A = ℕ} x.ready 1 0 ≡ 1 = ap (λ (o : Part). cond {A = ℕ} o.ready 1 0) (some_eq x q h) ∙ ap (λ b. cond {A = ℕ} b 1 0) on in
    let b : cond {A = ℕ} r.ready 1 0 ≡ 0 = ap (λ c. cond {A = ℕ} c 1 0) off in
    omega arith
count_rest (x ∷ parts) (suc i) q r h on off = let e : suc (count_ready (slice_set parts i r)) ≡ count_ready parts = count_rest parts i q r h on off in omega arith

pub readied_length : (d : List Process) (events : List Bool) (parts : List Part) → length (readied d events parts) ≡ length parts
readied_length [] events parts = refl
readied_length (p ∷ d) events [] = refl
readied_length (p ∷ d) events (q ∷ parts) = ap suc (readied_length d events parts)

-- after a turn of a process one fewer is ready
pub resume_count : (d : Design) (s : VState) (i : ℕ) (op : Option Process) (oq : Option Part) → slice_get d.processes i ≡ op → slice_get s.parts i ≡ oq → length s.parts ≡ length d.processes → IsReady oq → (t : VState) → resume_at s i op oq ≡ Some t → (suc (count_ready t.parts) ≡ count_ready s.parts) × (length t.parts ≡ length s.parts)
resume_count d s i None None hp hq len on t to = absurd on
resume_count d s i None (Some q) hp hq len on t to = absurd (⊎_elim (λ w. missing (slice_get_within s.parts i q hq)) (λ w. missing (slice_get_within s.parts i q hq)) (cases_lt i (length d.processes)))
  where
    missing : i < length s.parts → ⊥
    missing l = let m : i < length d.processes = omega arith in none_eq _ (sym hp ∙ slice_get-get_or d.processes i (record { sensitive = []; targets = []; first_drivers = []; first_variables = []; body = λ a b c. None }) m)
resume_count d s i (Some p) None hp hq len on t to = absurd on
resume_count d s i (Some p) (Some q) hp hq len on t to = go (p.body s.nets q.drivers q.variables) to
  where
    go : (o : Option Ran) → with_part s i (part_after q o) ≡ Some t → (suc (count_ready t.parts) ≡ count_ready s.parts) × (length t.parts ≡ length s.parts)
    go None k = absurd (none_eq t k)
    go (Some r) k =
        let e = some_eq _ t k in
        subst (λ (u : VState). (suc (count_ready u.parts) ≡ count_ready s.parts) × (length u.parts ≡ length s.parts)) e
        (count_rest s.parts i q (rested q r) hq on refl, length-set s.parts i (rested q r))

count_some : (parts : List Part) (i : ℕ) (o : Option Part) → slice_get parts i ≡ o → IsReady o → 1 ≤ count_ready parts
count_some parts i None h on = absurd on
count_some parts i (Some q) h on =
    let e : suc (count_ready (slice_set parts i (record { ready = false; drivers = q.drivers; variables = q.variables; clash = q.clash }))) ≡ count_ready parts = count_rest parts i q (record { ready = false; drivers = q.drivers; variables = q.variables; clash = q.clash }) h on refl in
    omega arith

turns_few : (d : Design) (s : VState) (ts : List Turn) → length s.parts ≡ length d.processes → CanTurns d (Some s) ts → length ts ≤ count_ready s.parts + updates ts * (length d.processes + 1)
turns_few d s [] len can = omega arith
turns_few d s (Resume i ∷ ts) len can = go (λ t l c. turns_few d t ts l c) (resume d s i) refl can.1
  where
    at_range : (us : List Turn) → CanTurns d None us → 1 ≤ count_ready s.parts → suc (length us) ≤ count_ready s.parts + updates us * (length d.processes + 1)
    at_range [] c one = omega arith
    at_range (u ∷ us) c one = absurd c

    go : ((t : VState) → length t.parts ≡ length d.processes → CanTurns d (Some t) ts → length ts ≤ count_ready t.parts + updates ts * (length d.processes + 1)) → (o : Option VState) → resume d s i ≡ o → CanTurns d o ts → suc (length ts) ≤ count_ready s.parts + updates ts * (length d.processes + 1)
    go more None q c = at_range ts c (count_some s.parts i (slice_get s.parts i) refl can.0)
    go more (Some t) q c =
        let k = resume_count d s i (slice_get d.processes i) (slice_get s.parts i) refl refl len can.0 t q in
        let a : suc (count_ready t.parts) ≡ count_ready s.parts = k.0 in
        let b : length ts ≤ count_ready t.parts + updates ts * (length d.processes + 1) = more t (k.1 ∙ len) c in
        omega arith
turns_few d s (Update ∷ ts) len can =
    let l : length (update d s).parts ≡ length d.processes = readied_length d.processes (changes s.nets.values (new_values d s)) s.parts ∙ len in
    let a : length ts ≤ count_ready (update d s).parts + updates ts * (length d.processes + 1) = turns_few d (update d s) ts l can.1 in
    let b : count_ready (update d s).parts ≤ length (update d s).parts = count_le (update d s).parts in
    omega arith

pub few_from : (d : Design) (Holds : VState → Type 0) (rank : ℕ → ℕ) (e : ℕ) (held : List S9 → ℕ → Bool) (give : ℕ → ℕ → List S9 → List S9) (s : VState) (ts : List Turn) → Ranked d Holds rank e held give → Kept d Holds → Holds s → Rested d held give s → length s.parts ≡ length d.processes → CanTurns d (Some s) ts → length ts ≤ (length d.processes + 1) * (e + 1)
few_from d Holds rank e held give s ts ranked kept known rested len can =
    let u : updates ts + 0 ≤ e = updates_few d Holds rank e held give 0 s ts ranked kept (start_calm d Holds rank held give s known rested) (omega arith) can in
    let n : length ts ≤ count_ready s.parts + updates ts * (length d.processes + 1) = turns_few d s ts len can in
    let c : count_ready s.parts ≤ length s.parts = count_le s.parts in
    let m : updates ts * (length d.processes + 1) ≤ e * (length d.processes + 1) = mul-le-mul_right (length d.processes + 1) (omega arith) in
    omega arith

pub few_turns : (d : Design) (rank : ℕ → ℕ) (e : ℕ) (held : List S9 → ℕ → Bool) (give : ℕ → ℕ → List S9 → List S9) (s : VState) (ts : List Turn) → Ranked d (Reached d s) rank e held give → Rested d held give s → length s.parts ≡ length d.processes → CanTurns d (Some s) ts → length ts ≤ (length d.processes + 1) * (e + 1)
few_turns d rank e held give s ts ranked rested len can = few_from d (Reached d s) rank e held give s ts ranked (λ a b u r c q. Then a b u r c q) First rested len can
