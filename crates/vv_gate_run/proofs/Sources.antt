-- The sources of a net, which of them there are, and the lists over all nets, as the program goes over them.
use Rattle.std.proofs.Common.{◌≡◌, ℕ, zero, suc, ◌+◌, ◌<◌, ◌≤◌, nat_eq, ne_eqb, Bool, true, false, not, ◌&&◌, ◌||◌, cond, List, [], ◌∷◌, ◌++◌, map, length, drop, get_or, Option, Some, None, slice_get, ⊎_elim, inl, inr, ◌⊎◌, refl, ap, sym, ◌∙◌, arith, add-one, true≢false}
use Rattle.std.specs.Prelude.{min}
use Rattle.std.proofs.lemmas.Bool.{cases_Bool, cases_lt}
use Rattle.std.proofs.lemmas.List.{drop_all, length-map}
use Rattle.std.proofs.Math.ListN.{get_or-map}
use Rattle.vv_bits.specs.declared.nine.S9.{S9}
use Rattle.vv_bits.specs.declared.nine.S9.TheVariants.{U}
use Rattle.vv_gate.specs.Tree.{Port, Assignment}
use Rattle.vv_cycle.specs.Processes.{Process, Part, drivers_of, constants_of, is_constant, has_source, sources_of}
use Rattle.vv_cycle.specs.Turns.{changes, readied}
use Rattle.vv_gate_vhdl.specs.Design.{is_port, gate_process, is_assigned, undriven}
use Rattle.vv_gate_vhdl.proofs.Sources.{driven_same, const_below, const_out}
use Rattle.std.specs.Prelude.{option_map}
use Rattle.std.proofs.lemmas.Option.{slice_get-map, slice_get_read, slice_get_past}
use Rattle.vv_gate_run.specs.declared.ports.Port.{Port as OwnPort}
use Rattle.vv_gate_run.specs.declared.vhdl.Part.{Part as Own}
use Rattle.vv_gate_run.specs.Vhdl.{part_of}
use Rattle.vv_gate_run.proofs.Lists.{pushed, done}
use Rattle.vv_gate_run.specs.Circuit.{port_of, design_on, is_idle, is_woken, woken_part}

-- ---- ends of loops over two lists

-- one of the lists is at its end
pub at_end : {X Y : Type 0} (xs : List X) (ys : List Y) (n : ℕ) → n ≡ min (length xs) (length ys) → (drop n xs ≡ []) ⊎ (drop n ys ≡ [])
at_end xs ys n e = ⊎_elim (λ l. inl (drop_all n xs l)) (λ l. inr (drop_all n ys l)) (either (length xs) (length ys) n e)
  where
    either : (a b n : ℕ) → n ≡ min a b → (a ≤ n) ⊎ (b ≤ n)
    either a b n e = ⊎_elim (λ l. inl (omega arith)) (λ l. inr (omega arith)) (cases_lt a b)

changes_none : (vs : List S9) → changes vs [] ≡ []
changes_none [] = refl
changes_none (v ∷ vs) = refl

pub changes_end : (vs ws : List S9) (n : ℕ) → n ≡ min (length vs) (length ws) → changes (drop n vs) (drop n ws) ≡ []
changes_end vs ws n e =
    ⊎_elim (λ q. ap (λ l. changes l (drop n ws)) q) (λ q. ap (changes (drop n vs)) q ∙ changes_none (drop n vs)) (at_end vs ws n e)

drivers_none : (ps : List Process) (k : ℕ) → drivers_of ps [] k ≡ []
drivers_none [] k = refl
drivers_none (p ∷ ps) k = refl

pub drivers_end : {X Y W : Type 0} (f : W → Process) (h : X → W) (g : Y → Part) (xs : List X) (ys : List Y) (n k : ℕ) → n ≡ min (length xs) (length ys) → drivers_of (map f (map h (drop n xs))) (map g (drop n ys)) k ≡ []
drivers_end f h g xs ys n k e =
    ⊎_elim (λ q. ap (λ l. drivers_of (map f (map h l)) (map g (drop n ys)) k) q) (λ q. ap (λ l. drivers_of (map f (map h (drop n xs))) (map g l) k) q ∙ drivers_none (map f (map h (drop n xs))) k) (at_end xs ys n e)

-- ---- idle ports

-- whether port k is an in port, where it is there
abbrev way_at : Option Port → Bool
way_at None = true
way_at (Some p) = p.input

pub port_out : (ports : List Port) (k : ℕ) → is_port false ports k ≡ not (way_at (slice_get ports k))
port_out [] k = refl
port_out (p ∷ ports) zero = refl
port_out (p ∷ ports) (suc k) = port_out ports k

module _ (gs : List Assignment) (k : ℕ) where
  idle_by : (ports : List Port) (o : Option Port) → slice_get ports k ≡ o → is_idle ports gs k ≡ (not (way_at o) && not (is_assigned ports gs k))
  idle_by ports o e = ap (λ b. b && not (is_assigned ports gs k)) (port_out ports k ∙ ap (λ (q : Option Port). not (way_at q)) e)

  there : (xs all : List OwnPort) (x : OwnPort) → all ≡ xs → k < length all → x ≡ get_or all k x → slice_get (map port_of xs) k ≡ Some (port_of x)
  there xs all x s l e = slice_get-map port_of xs k ∙ ap (option_map port_of) (ap (λ q. slice_get q k) (sym s) ∙ slice_get_read all (length all) k x refl l e)

  pub idle_out : (xs all : List OwnPort) (x : OwnPort) → all ≡ xs → k < length all → x ≡ get_or all k x → x.input ≡ false → not (is_assigned (map port_of xs) gs k) ≡ is_idle (map port_of xs) gs k
  idle_out xs all x s l e w = sym (idle_by (map port_of xs) (Some (port_of x)) (there xs all x s l e) ∙ ap (λ b. not b && not (is_assigned (map port_of xs) gs k)) w)

  pub idle_in : (xs all : List OwnPort) (x : OwnPort) → all ≡ xs → k < length all → x ≡ get_or all k x → x.input ≡ true → false ≡ is_idle (map port_of xs) gs k
  idle_in xs all x s l e w = sym (idle_by (map port_of xs) (Some (port_of x)) (there xs all x s l e) ∙ ap (λ b. not b && not (is_assigned (map port_of xs) gs k)) w)

  pub idle_past : (xs all : List OwnPort) → all ≡ xs → length all ≤ k → false ≡ is_idle (map port_of xs) gs k
  idle_past xs all s l = sym (idle_by (map port_of xs) None (slice_get-map port_of xs k ∙ ap (option_map port_of) (ap (λ q. slice_get q k) (sym s) ∙ slice_get_past all k l)))

no_constant : (taken : ℕ → Bool) (ports : List Port) (n j k : ℕ) → k ≡ n + j → is_port false ports j ≡ false → (constants_of (undriven taken ports n) k ≡ []) × (is_constant (undriven taken ports n) k ≡ false)
no_constant taken [] n j k e h = (refl, refl)
no_constant taken (p ∷ ports) n zero k e h = go p.input h
  where
    go : (b : Bool) → not b ≡ false → (constants_of (cond (b || taken n) (undriven taken ports (suc n)) ((n, U) ∷ undriven taken ports (suc n))) k ≡ []) × (is_constant (cond (b || taken n) (undriven taken ports (suc n)) ((n, U) ∷ undriven taken ports (suc n))) k ≡ false)
    go true q = const_below taken ports (suc n) k (omega arith)
    go false q = absurd (true≢false q)
no_constant taken (p ∷ ports) n (suc j) k e h = go (no_constant taken ports (suc n) j k (omega arith) h) (p.input || taken n)
  where
    other : nat_eq n k ≡ false
    other = ne_eqb n k (λ q. let g : n ≡ k = q in absurd (omega arith))

    go : (constants_of (undriven taken ports (suc n)) k ≡ []) × (is_constant (undriven taken ports (suc n)) k ≡ false) → (b : Bool) → (constants_of (cond b (undriven taken ports (suc n)) ((n, U) ∷ undriven taken ports (suc n))) k ≡ []) × (is_constant (cond b (undriven taken ports (suc n)) ((n, U) ∷ undriven taken ports (suc n))) k ≡ false)
    go more true = more
    go more false = (ap (λ b. cond b (U ∷ constants_of (undriven taken ports (suc n)) k) (constants_of (undriven taken ports (suc n)) k)) other ∙ more.0, ap (λ b. b || is_constant (undriven taken ports (suc n)) k) other ∙ more.1)

-- the constant source of a net is there exactly where the net is idle
pub constant_of : (ports : List Port) (gs : List Assignment) (k : ℕ) → (constants_of (undriven (is_assigned ports gs) ports 0) k ≡ cond (is_idle ports gs k) (U ∷ []) []) × (is_constant (undriven (is_assigned ports gs) ports 0) k ≡ is_idle ports gs k)
constant_of ports gs k =
    ⊎_elim
    (λ t. let h = const_out (is_assigned ports gs) ports 0 k k (omega arith) t in
    (h.0 ∙ (turn (is_assigned ports gs k) ∙ ap (λ b. cond (b && not (is_assigned ports gs k)) (U ∷ []) []) (sym t)), h.1 ∙ ap (λ b. b && not (is_assigned ports gs k)) (sym t)))
    (λ n. let h = no_constant (is_assigned ports gs) ports 0 k k (omega arith) n in
    (h.0 ∙ ap (λ b. cond (b && not (is_assigned ports gs k)) (U ∷ []) []) (sym n), h.1 ∙ ap (λ b. b && not (is_assigned ports gs k)) (sym n)))
    (cases_Bool (is_port false ports k))
  where
    turn : (b : Bool) → cond b [] (U ∷ []) ≡ cond (not b) (U ∷ []) []
    turn true = refl
    turn false = refl

pub source_there : (ports : List Port) (gs : List Assignment) (k : ℕ) → has_source (design_on ports gs) k ≡ (is_assigned ports gs k || is_idle ports gs k)
source_there ports gs k =
    ap (λ b. b || is_constant (undriven (is_assigned ports gs) ports 0) k) (driven_same ports gs k) ∙ ap (λ b. is_assigned ports gs k || b) (constant_of ports gs k).1

pub sources_are : (ports : List Port) (gs : List Assignment) (parts : List Part) (k : ℕ) (b : Bool) → b ≡ is_idle ports gs k → sources_of (design_on ports gs) parts k ≡ drivers_of (map (gate_process ports) gs) parts k ++ cond b (U ∷ []) []
sources_are ports gs parts k b e =
    ap (λ (l : List S9). drivers_of (map (gate_process ports) gs) parts k ++ l) ((constant_of ports gs k).0 ∙ ap (λ c. cond c (U ∷ []) []) (sym e))

-- ---- ready processes

or_false : (b : Bool) → (b || false) ≡ b
or_false true = refl
or_false false = refl

never_woken : (part : Part) → part ≡ woken_part part false
never_woken part = ap (λ b. record { ready = b; drivers = part.drivers; variables = part.variables; clash = part.clash }) (sym (or_false part.ready))

unmoved : (parts : List Part) (i : ℕ) (d : Part) → i < length parts → drop i parts ≡ woken_part (get_or parts i d) false ∷ drop (suc i) parts
unmoved [] i d l = absurd (omega arith)
unmoved (part ∷ parts) zero d l = ap (λ (q : Part). q ∷ parts) (never_woken part)
unmoved (part ∷ parts) (suc i) d l = unmoved parts i d (omega arith)

readied_suc : (ps : List Process) (events : List Bool) (parts : List Part) (i : ℕ) (d : Part) → i < length parts → readied (drop i ps) events (drop i parts) ≡ woken_part (get_or parts i d) (is_woken (slice_get ps i) events) ∷ readied (drop (suc i) ps) events (drop (suc i) parts)
readied_suc ps events [] i d l = absurd (omega arith)
readied_suc [] events (part ∷ parts) zero d l = ap (λ (q : Part). q ∷ parts) (never_woken part)
readied_suc (p ∷ ps) events (part ∷ parts) zero d l = refl
readied_suc [] events (part ∷ parts) (suc i) d l = unmoved parts i d (omega arith)
readied_suc (p ∷ ps) events (part ∷ parts) (suc i) d l = readied_suc ps events parts i d (omega arith)

pub readied_more : (ps : List Process) (events : List Bool) (parts : List Part) (i : ℕ) (d : Part) → i < length parts → readied (drop i ps) events (drop i parts) ≡ woken_part (get_or parts i d) (is_woken (slice_get ps i) events) ∷ readied (drop (i + 1) ps) events (drop (i + 1) parts)
readied_more ps events parts i d l =
    readied_suc ps events parts i d l
    ∙ ap (λ n. woken_part (get_or parts i d) (is_woken (slice_get ps i) events) ∷ readied (drop n ps) events (drop n parts)) (sym (add-one i))

-- ---- ready processes in a loop

pub readied_next : (ps : List Process) (events : List Bool) (parts : List Own) (i : ℕ) (d : Own) (old new : List Own) (x : Own) (all : List Part) → i < length parts → new ≡ old ++ x ∷ [] → part_of x ≡ woken_part (part_of (get_or parts i d)) (is_woken (slice_get ps i) events) → map part_of old ++ readied (drop i ps) events (drop i (map part_of parts)) ≡ all → map part_of new ++ readied (drop (i + 1) ps) events (drop (i + 1) (map part_of parts)) ≡ all
readied_next ps events parts i d old new x all l n w h =
    let inside : i < length (map part_of parts) = rw length-map l in
    let rest : readied (drop i ps) events (drop i (map part_of parts)) ≡ part_of x ∷ readied (drop (i + 1) ps) events (drop (i + 1) (map part_of parts)) =
    readied_more ps events (map part_of parts) i (part_of d) inside
    ∙ ap (λ (q : Part). q ∷ readied (drop (i + 1) ps) events (drop (i + 1) (map part_of parts))) (ap (λ (q : Part). woken_part q (is_woken (slice_get ps i) events)) (get_or-map part_of parts i d) ∙ sym w) in
    pushed part_of old new x _ _ all n rest h

readied_none : (ps : List Process) (events : List Bool) → readied ps events [] ≡ []
readied_none [] events = refl
readied_none (p ∷ ps) events = refl

pub readied_end : (ps : List Process) (events : List Bool) (parts : List Own) (i : ℕ) (old : List Own) (all : List Part) → length parts ≤ i → map part_of old ++ readied (drop i ps) events (drop i (map part_of parts)) ≡ all → map part_of old ≡ all
readied_end ps events parts i old all l h =
    let past : length (map part_of parts) ≤ i = rw length-map l in
    done (map part_of old) _ all (ap (readied (drop i ps) events) (drop_all i (map part_of parts) past) ∙ readied_none (drop i ps) events) h
