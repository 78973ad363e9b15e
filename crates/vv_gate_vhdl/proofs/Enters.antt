-- What a row leaves on the ports, and what whole runs end in.
use Rattle.std.proofs.Common.{◌≡◌, ◌≢◌, ℕ, zero, suc, ◌+◌, ◌<◌, nat_eq, Bool, true, false, cond, List, [], ◌∷◌, length, Option, Some, None, slice_get, ⊎_elim, refl, sym, ap, subst, ◌∙◌, arith, true≢false, eqb-true, eq-eqb}
use Rattle.std.proofs.lemmas.Bool.{cases_Bool}
use Rattle.std.proofs.lemmas.List.{get_or-set_same, get_or-set_other}
use Rattle.vv_bits.specs.declared.nine.S9.{S9}
use Rattle.vv_bits.specs.declared.nine.S9.TheVariants.{U}
use Rattle.vv_gate.specs.Tree.{GateFile, Port, ports_of}
use Rattle.vv_cycle.specs.Processes.{Input, Data, Design, at}
use Rattle.vv_cycle.specs.Turns.{VState, Turn, IsSettled, IsEnd, after_turns}
use Rattle.vv_cycle.specs.Rows.{power_on, Entry, put, put_input, entered, row, InRun, Powered, Entered, LawfulRows, CanRows, after_rows, VhdlRun, end_of}
use Rattle.vv_cycle.proofs.Bound.{some_eq, none_eq}
use Rattle.vv_gate_vhdl.specs.Design.{is_port, inputs_from, gate_design, output_value, IsSoundGate}
use Rattle.vv_gate_vhdl.specs.Entered.{input_number, bit_or, new_bit}
use Rattle.vv_gate_vhdl.proofs.Ranks.{one_way}
use Rattle.vv_gate_vhdl.proofs.Settles.{run_length, initial_length, within, put_input_length, later, out_holds}

-- ---- inputs

-- input i is port j, which has number n + j
record InputIs (ports : List Port) (n i : ℕ) (inp : Input) : Type 0 where
  j : ℕ
  nets : inp.nets ≡ (n + j) ∷ []
  way : is_port true ports j ≡ true
  number : input_number ports j ≡ i

input_is : (ports : List Port) (n i : ℕ) (inp : Input) → slice_get (inputs_from ports n) i ≡ Some inp → InputIs ports n i inp
input_is [] n i inp h = absurd (none_eq inp h)
input_is (p ∷ ports) n i inp h = go p.input refl (λ i' g. input_is ports (suc n) i' inp g) i h
  where
    one : (j : ℕ) → ◌≡◌ {A = List ℕ} ((suc n + j) ∷ []) ((n + suc j) ∷ [])
    one j = ap (λ m. m ∷ []) e
      where
        e : suc n + j ≡ n + suc j
        e = omega arith

    self : ◌≡◌ {A = List ℕ} (n ∷ []) ((n + 0) ∷ [])
    self = ap (λ m. m ∷ []) e
      where
        e : n ≡ n + 0
        e = omega arith

    go : (b : Bool) → p.input ≡ b → ((i' : ℕ) → slice_get (inputs_from ports (suc n)) i' ≡ Some inp → InputIs ports (suc n) i' inp) → (i' : ℕ) → slice_get (cond b (record { class = Data; nets = n ∷ [] } ∷ inputs_from ports (suc n)) (inputs_from ports (suc n))) i' ≡ Some inp → InputIs (p ∷ ports) n i' inp
    go true e more zero g = record { j = 0; nets = ap (λ (x : Input). x.nets) (sym (some_eq _ inp g)) ∙ self; way = e; number = refl }
    go true e more (suc i') g = let r = more i' g in record { j = suc r.j; nets = r.nets ∙ one r.j; way = r.way; number = ap (λ b. cond b (suc (input_number ports r.j)) (input_number ports r.j)) e ∙ ap suc r.number }
    go false e more i' g = let r = more i' g in record { j = suc r.j; nets = r.nets ∙ one r.j; way = r.way; number = ap (λ b. cond b (suc (input_number ports r.j)) (input_number ports r.j)) e ∙ r.number }

input_at : (ports : List Port) (n j k : ℕ) → k ≡ n + j → is_port true ports j ≡ true → slice_get (inputs_from ports n) (input_number ports j) ≡ Some (record { class = Data; nets = k ∷ [] })
input_at [] n j k e h = absurd (true≢false (sym h))
input_at (p ∷ ports) n zero k e h = ap (λ b. slice_get (cond b (record { class = Data; nets = n ∷ [] } ∷ inputs_from ports (suc n)) (inputs_from ports (suc n))) 0) h ∙ ap (λ m. Some (record { class = Data; nets = m ∷ [] })) q
  where
    q : n ≡ k
    q = omega arith
input_at (p ∷ ports) n (suc j) k e h = go (input_at ports (suc n) j k (omega arith) h) p.input
  where
    go : slice_get (inputs_from ports (suc n)) (input_number ports j) ≡ Some (record { class = Data; nets = k ∷ [] }) → (b : Bool) → slice_get (cond b (record { class = Data; nets = n ∷ [] } ∷ inputs_from ports (suc n)) (inputs_from ports (suc n))) (cond b (suc (input_number ports j)) (input_number ports j)) ≡ Some (record { class = Data; nets = k ∷ [] })
    go more true = more
    go more false = more

-- ---- one entry

put_one : (k : ℕ) (bits values : List S9) → k < length values → at (put (k ∷ []) bits values) k ≡ bit_or bits (at values k)
put_one k [] values l = refl
put_one k (b ∷ bits) values l = get_or-set_same values k b U l

put_other : (m k : ℕ) (bits values : List S9) → m ≢ k → at (put (m ∷ []) bits values) k ≡ at values k
put_other m k [] values n = refl
put_other m k (b ∷ bits) values n = get_or-set_other values m k b U (λ q. n (sym q))

entry_other : (ports : List Port) (i k : ℕ) (bits values : List S9) → ((j : ℕ) → j ≡ k → is_port true ports j ≡ true → input_number ports j ≡ i → ⊥) → at (put_input (slice_get (inputs_from ports 0) i) bits values) k ≡ at values k
entry_other ports i k bits values none = go (slice_get (inputs_from ports 0) i) refl
  where
    clear : (j : ℕ) → 0 + j ≡ k → j ≡ k
    clear j q = omega (arith, q)

    go : (o : Option Input) → slice_get (inputs_from ports 0) i ≡ o → at (put_input o bits values) k ≡ at values k
    go None e = refl
    go (Some inp) e =
        let r = input_is ports 0 i inp e in
        ap (λ (ns : List ℕ). at (put ns bits values) k) r.nets ∙ put_other (0 + r.j) k bits values (λ q. none r.j (clear r.j q) r.way r.number)

entry_in : (ports : List Port) (e : Entry) (k : ℕ) (values : List S9) → k < length values → is_port true ports k ≡ true → at (put_input (slice_get (inputs_from ports 0) e.input) e.bits values) k ≡ cond (nat_eq e.input (input_number ports k)) (bit_or e.bits (at values k)) (at values k)
entry_in ports e k values l h =
    ⊎_elim
    (λ t. ap (λ i. at (put_input (slice_get (inputs_from ports 0) i) e.bits values) k) (eqb-true e.input (input_number ports k) t)
    ∙ (ap (λ o. at (put_input o e.bits values) k) (input_at ports 0 k k (omega arith) h)
    ∙ (put_one k e.bits values l ∙ ap (λ b. cond b (bit_or e.bits (at values k)) (at values k)) (sym t))))
    (λ n. entry_other ports e.input k e.bits values (λ j q w m. true≢false (sym (eq-eqb e.input (input_number ports k) (sym m ∙ ap (input_number ports) q)) ∙ n)) ∙ ap (λ b. cond b (bit_or e.bits (at values k)) (at values k)) (sym n))
    (cases_Bool (nat_eq e.input (input_number ports k)))

entered_in : (f : GateFile) (es : List Entry) (k : ℕ) (values : List S9) → k < length values → is_port true (ports_of f) k ≡ true → at (entered (gate_design f) es values) k ≡ new_bit es (input_number (ports_of f) k) (at values k)
entered_in f [] k values l h = refl
entered_in f (e ∷ es) k values l h =
    entered_in f es k (put_input (slice_get (inputs_from (ports_of f) 0) e.input) e.bits values) (subst (λ n. k < n) (sym (put_input_length (slice_get (inputs_from (ports_of f) 0) e.input) e.bits values)) l) h
    ∙ ap (new_bit es (input_number (ports_of f) k)) (entry_in (ports_of f) e k values l h)

entered_out : (f : GateFile) (es : List Entry) (k : ℕ) (values : List S9) → is_port false (ports_of f) k ≡ true → at (entered (gate_design f) es values) k ≡ at values k
entered_out f [] k values h = refl
entered_out f (e ∷ es) k values h =
    entered_out f es k (put_input (slice_get (inputs_from (ports_of f) 0) e.input) e.bits values) h
    ∙ entry_other (ports_of f) e.input k e.bits values (λ j q w m. true≢false (sym w ∙ (ap (is_port true (ports_of f)) q ∙ one_way (ports_of f) k h)))

pub gate_enters : (f : GateFile) (s : VState) (es : List Entry) → InRun (gate_design f) s → (k : ℕ) → (is_port true (ports_of f) k ≡ true → at (row (gate_design f) s es).nets.values k ≡ new_bit es (input_number (ports_of f) k) (at s.nets.values k)) × (is_port false (ports_of f) k ≡ true → at (row (gate_design f) s es).nets.values k ≡ at s.nets.values k)
gate_enters f s es r k =
    (λ h. entered_in f es k s.nets.values (subst (λ n. k < n) (sym (run_length (gate_design f) s r ∙ initial_length (ports_of f))) (within true (ports_of f) k h)) h, λ h. entered_out f es k s.nets.values h)

-- ---- whole runs

rows_end : (d : Design) (o : Option VState) (rows : List (List Entry)) (orders : List (List Turn)) → ((s : VState) → o ≡ Some s → InRun d s) → IsEnd d o → LawfulRows d rows → CanRows d o rows orders → (t : VState) → after_rows d o rows orders ≡ Some t → InRun d t × IsSettled d t
rows_end d None rows orders known end lawful can t to = absurd (none_eq t to)
rows_end d (Some s) [] [] known end lawful can t to = subst (λ (x : VState). InRun d x × IsSettled d x) (some_eq s t to) (known s refl, end)
rows_end d (Some s) [] (ts ∷ orders) known end lawful can t to = absurd can
rows_end d (Some s) (es ∷ rows) [] known end lawful can t to = absurd can
rows_end d (Some s) (es ∷ rows) (ts ∷ orders) known end lawful can t to =
    rows_end d (after_turns d (Some (row d s es)) ts) rows orders (λ v e. (later d (row d s es) ts v (Entered s es (known s refl) end lawful.0) can.0 e).run) can.1.0 lawful.1 can.1.1 t to

pub gate_run_settles : (f : GateFile) (rows : List (List Entry)) (run : VhdlRun (gate_design f) rows) (t : VState) → LawfulRows (gate_design f) rows → end_of (gate_design f) rows run ≡ Some t → InRun (gate_design f) t × IsSettled (gate_design f) t
gate_run_settles f rows run t lawful to =
    rows_end (gate_design f) (after_turns (gate_design f) (Some (power_on (gate_design f))) run.first) rows run.later (λ v e. (later (gate_design f) (power_on (gate_design f)) run.first v Powered run.can_first e).run) run.ends_first lawful run.can_later t to

pub gate_run_gives : (f : GateFile) (rows : List (List Entry)) (run : VhdlRun (gate_design f) rows) (t : VState) → IsSoundGate f → LawfulRows (gate_design f) rows → end_of (gate_design f) rows run ≡ Some t → (k : ℕ) → is_port false (ports_of f) k ≡ true → at t.nets.values k ≡ output_value f t.nets.values k
gate_run_gives f rows run t sound lawful to k h = let w = gate_run_settles f rows run t lawful to in out_holds f t sound w.0 w.1 k h
