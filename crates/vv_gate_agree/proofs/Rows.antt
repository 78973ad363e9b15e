-- Power-on, one row, and whole runs: both sides agree at each end.
use Rattle.std.proofs.Common.{◌≡◌, ℕ, ◌+◌, ◌<◌, zero, suc, nat_eq, Bool, true, false, cond, List, [], ◌∷◌, ◌++◌, map, length, Option, Some, None, slice_get, slice_set, ⊎_elim, refl, sym, ap, subst, ◌∙◌, arith, true≢false, eqb-true, eq-eqb, length-set}
use Rattle.std.proofs.lemmas.Bool.{cases_Bool}
use Rattle.std.proofs.lemmas.List.{get_or-set_same, get_or-set_other}
use Rattle.std.specs.List.{HoldsAt}
use Rattle.vv_bits.specs.declared.nine.S9.{S9}
use Rattle.vv_bits.specs.declared.nine.S9.TheVariants.{U}
use Rattle.vv_bits.specs.declared.four.V4.{V4}
use Rattle.vv_bits.specs.Four.{abs_rule}
use Rattle.vv_vast.specs.Flat.{Flat, IsFlat, IsAcyclic}
use Rattle.vv_vast.specs.Tree as vast
use Rattle.vv_gate.specs.Tree.{GateFile, Port, ports_of}
use Rattle.vv_cycle.specs.Processes as vhdl
use Rattle.vv_cycle.specs.Turns.{VState, IsSettled, IsEnd, IsClean, Turn, CanTurns, after_turns}
use Rattle.vv_cycle.specs.Rows as vhdl_rows
use Rattle.vv_cycle.specs.Rows.{Entry, InRun, Powered, Entered, LawfulRow, LawfulRows, VhdlRun, end_of, power_on, put, put_input, entered, row}
use Rattle.vv_events.specs.Steps.{State, Choice, Quiet, bit}
use Rattle.vv_events.specs.RowEnds.{last_or}
use Rattle.vv_gate_vhdl.specs.Design.{is_port, inputs_from, gate_design, IsSoundGate}
use Rattle.vv_gate_vhdl.proofs.Clean.{gate_never_stops}
use Rattle.vv_gate_vhdl.proofs.Settles.{put_input_length, run_length, initial_length, later, gate_settles, gate_starts}
use Rattle.vv_gate_verilog.specs.Events.{start_of, row_of, CanTake, after, IsInput, InputsOnly, AtRest, Solved}
use Rattle.vv_gate_verilog.proofs.Ends.{power_on_inputs, row_inputs, power_on_rests, row_rests, power_on_settles, row_settles}
use Rattle.vv_gate_text.specs.Made.{made_port, direction_of, module_of}
use Rattle.vv_gate_agree.specs.Agreement.{InputsAgree, Agrees, seen, seen_input, row4}
use Rattle.vv_gate_agree.specs.Runs.{rows4, after_rows, CanRows, VerilogRun, verilog_end, AgreeIn, AgreeAfter}
use Rattle.vv_gate_agree.proofs.Names.{port_within}
use Rattle.vv_gate_agree.proofs.Driven.{driver}

-- ---- what a row enters

last_append : (xs ys : List (ℕ × V4)) (b : ℕ) (v : V4) → last_or (xs ++ ys) b v ≡ last_or ys b (last_or xs b v)
last_append [] ys b v = refl
last_append (x ∷ xs) ys b v = last_append xs ys b (cond (nat_eq x.0 b) x.1 v)

set_seen : (values : List S9) (n : ℕ) (b : S9) (k : ℕ) → k < length values → cond (nat_eq n k) (abs_rule b) (abs_rule (vhdl.at values k)) ≡ abs_rule (vhdl.at (slice_set values n b) k)
set_seen values n b k l =
    ⊎_elim
    (λ y. ap (λ c. cond c (abs_rule b) (abs_rule (vhdl.at values k))) y ∙ ap abs_rule (sym (get_or-set_same values k b U l)) ∙ ap (λ m. abs_rule (vhdl.at (slice_set values m b) k)) (sym (eqb-true n k y)))
    (λ m. ap (λ c. cond c (abs_rule b) (abs_rule (vhdl.at values k))) m ∙ ap abs_rule (sym (get_or-set_other values n k b U (λ q. true≢false (sym (eq-eqb n k (sym q)) ∙ m)))))
    (cases_Bool (nat_eq n k))

put_seen : (ns : List ℕ) (bits values : List S9) (k : ℕ) (v : V4) → k < length values → v ≡ abs_rule (vhdl.at values k) → last_or (seen ns bits) k v ≡ abs_rule (vhdl.at (put ns bits values) k)
put_seen [] bits values k v l p = p
put_seen (n ∷ ns) [] values k v l p = p
put_seen (n ∷ ns) (b ∷ bits) values k v l p =
    put_seen ns bits (slice_set values n b) k (cond (nat_eq n k) (abs_rule b) v) (subst (λ m. k < m) (sym (length-set values n b)) l) (ap (λ w. cond (nat_eq n k) (abs_rule b) w) p ∙ set_seen values n b k l)

input_seen : (o : Option vhdl.Input) (bits values : List S9) (k : ℕ) (v : V4) → k < length values → v ≡ abs_rule (vhdl.at values k) → last_or (seen_input o bits) k v ≡ abs_rule (vhdl.at (put_input o bits values) k)
input_seen None bits values k v l p = p
input_seen (Some i) bits values k v l p = put_seen i.nets bits values k v l p

entered_seen : (f : GateFile) (es : List Entry) (values : List S9) (k : ℕ) (v : V4) → k < length values → v ≡ abs_rule (vhdl.at values k) → last_or (row4 f es) k v ≡ abs_rule (vhdl.at (entered (gate_design f) es values) k)
entered_seen f [] values k v l p = p
entered_seen f (e ∷ es) values k v l p =
    let o = slice_get (gate_design f).inputs e.input in
    last_append (seen_input o e.bits) (row4 f es) k v
    ∙ entered_seen f es (put_input o e.bits values) k (last_or (seen_input o e.bits) k v) (subst (λ m. k < m) (sym (put_input_length o e.bits values)) l) (input_seen o e.bits values k v l p)

-- ---- a row changes inputs only

holds_input : (ports : List Port) (k : ℕ) → is_port true ports k ≡ true → HoldsAt (λ p. p.direction ≡ vast.input) (map made_port ports) k
holds_input [] k h = absurd (true≢false (sym h))
holds_input (p ∷ ports) zero h = λ d. ap direction_of h
holds_input (p ∷ ports) (suc k) h = holds_input ports k h

pub is_input : (f : GateFile) (flat : Flat) → IsFlat (module_of f) flat → (k : ℕ) → is_port true (ports_of f) k ≡ true → IsInput flat k
is_input f flat stands k h = subst (λ os. HoldsAt (λ p. p.direction ≡ vast.input) os k) (sym stands.objects) (holds_input (ports_of f) k h)

only_append : (flat : Flat) (xs ys : List (ℕ × V4)) → InputsOnly flat xs → InputsOnly flat ys → InputsOnly flat (xs ++ ys)
only_append flat [] ys h g = g
only_append flat (x ∷ xs) ys h g = (h.0, only_append flat xs ys h.1 g)

seen_only : (flat : Flat) (ports : List Port) (n i : ℕ) (bits : List S9) → ((j : ℕ) → is_port true ports j ≡ true → IsInput flat (j + n)) → InputsOnly flat (seen_input (slice_get (inputs_from ports n) i) bits)
seen_only flat [] n i bits up = tt
seen_only flat (p ∷ ports) n i bits up = go (λ j. seen_only flat ports (suc n) j bits up_more) p.input refl i
  where
    up_more : (j : ℕ) → is_port true ports j ≡ true → IsInput flat (j + suc n)
    up_more j h = subst (IsInput flat) sum (up (suc j) h)
      where
        sum : suc j + n ≡ j + suc n
        sum = omega arith

    one : p.input ≡ true → (bs : List S9) → InputsOnly flat (seen (n ∷ []) bs)
    one e [] = tt
    one e (b ∷ bs) = (subst (IsInput flat) start (up 0 e), tt)
      where
        start : 0 + n ≡ n
        start = omega arith

    go : ((j : ℕ) → InputsOnly flat (seen_input (slice_get (inputs_from ports (suc n)) j) bits)) → (b : Bool) → p.input ≡ b → (j : ℕ) → InputsOnly flat (seen_input (slice_get (cond b (record { class = vhdl.Data; nets = n ∷ [] } ∷ inputs_from ports (suc n)) (inputs_from ports (suc n))) j) bits)
    go more true e zero = one e bits
    go more true e (suc j) = more j
    go more false e j = more j

pub row_only : (f : GateFile) (flat : Flat) → IsFlat (module_of f) flat → (es : List Entry) → InputsOnly flat (row4 f es)
row_only f flat stands [] = tt
row_only f flat stands (e ∷ es) =
    only_append flat (seen_input (slice_get (gate_design f).inputs e.input) e.bits) (row4 f es)
    (seen_only flat (ports_of f) 0 e.input e.bits (λ j h. subst (IsInput flat) (none j) (is_input f flat stands j h)))
    (row_only f flat stands es)
  where
    none : (j : ℕ) → j ≡ j + 0
    none j = omega arith

-- ---- one end

module _ (f : GateFile) (flat : Flat) (sound : IsSoundGate f) (stands : IsFlat (module_of f) flat) (acyclic : IsAcyclic flat) where
  abbrev d : vhdl.Design
  d = gate_design f

  -- where the inputs agree and both sides hold what their gates give, the outputs agree
  outs : (start u : VState) (ts : List Turn) (bits : List V4) → InRun d start → CanTurns d (Some start) ts → after_turns d (Some start) ts ≡ Some u → IsSettled d u → Solved flat bits → InputsAgree f u.nets.values bits → Agrees f u.nets.values bits
  outs start u ts bits r can to end solved agree k h =
      let g = driver f flat sound stands k h in
      solved.alone k g.e g.alone ∙ g.value u.nets.values bits agree ∙ ap abs_rule (sym ((gate_settles f start ts u sound r can to end k).1 h))

  pub power_on_agrees : (ts : List Turn) (u : VState) (cs : List Choice) → CanTurns d (Some (power_on d)) ts → after_turns d (Some (power_on d)) ts ≡ Some u → IsSettled d u → CanTake flat (start_of flat) cs → Quiet (after flat (start_of flat) cs) → InputsAgree f u.nets.values (after flat (start_of flat) cs).bits × Agrees f u.nets.values (after flat (start_of flat) cs).bits
  power_on_agrees ts u cs can to end take quiet =
      let inputs : InputsAgree f u.nets.values (after flat (start_of flat) cs).bits = λ k h.
      power_on_inputs (module_of f) flat cs k stands acyclic take (is_input f flat stands k h)
      ∙ ap abs_rule (sym ((gate_settles f (power_on d) ts u sound Powered can to end k).0 h ∙ gate_starts f sound k h)) in
      (inputs, outs (power_on d) u ts (after flat (start_of flat) cs).bits Powered can to end (power_on_rests (module_of f) flat cs stands acyclic take quiet).1 inputs)

  pub row_agrees : (t : VState) (s : State) (es : List Entry) (ts : List Turn) (u : VState) (cs : List Choice) → InRun d t → IsSettled d t → AtRest flat s → InputsAgree f t.nets.values s.bits → LawfulRow d es → CanTurns d (Some (row d t es)) ts → after_turns d (Some (row d t es)) ts ≡ Some u → IsSettled d u → CanTake flat (row_of flat s (row4 f es)) cs → Quiet (after flat (row_of flat s (row4 f es)) cs) → InputsAgree f u.nets.values (after flat (row_of flat s (row4 f es)) cs).bits × Agrees f u.nets.values (after flat (row_of flat s (row4 f es)) cs).bits
  row_agrees t s es ts u cs r settled rest agree lawful can to end take quiet =
      let begun : InRun d (row d t es) = Entered t es r settled lawful in
      let inputs : InputsAgree f u.nets.values (after flat (row_of flat s (row4 f es)) cs).bits = λ k h.
      row_inputs (module_of f) flat s (row4 f es) cs k stands acyclic rest take (is_input f flat stands k h)
      ∙ entered_seen f es t.nets.values k (bit s k) (subst (λ n. k < n) (sym (run_length d t r ∙ initial_length (ports_of f))) (port_within true (ports_of f) k h)) (agree k h)
      ∙ ap abs_rule (sym ((gate_settles f (row d t es) ts u sound begun can to end k).0 h)) in
      (inputs, outs (row d t es) u ts (after flat (row_of flat s (row4 f es)) cs).bits begun can to end (row_rests (module_of f) flat s (row4 f es) cs stands acyclic rest (row_only f flat stands es) take quiet).1 inputs)

  -- ---- whole runs

  rows_agree : (o : Option VState) (s : State) (rows : List (List Entry)) (orders : List (List Turn)) (choices : List (List Choice)) → ((t : VState) → o ≡ Some t → InRun d t) → IsEnd d o → AtRest flat s → AgreeIn f o s → LawfulRows d rows → vhdl_rows.CanRows d o rows orders → IsClean (vhdl_rows.after_rows d o rows orders) → CanRows flat s (rows4 f rows) choices → AgreeAfter f flat o s rows orders choices × AgreeIn f (vhdl_rows.after_rows d o rows orders) (after_rows flat s (rows4 f rows) choices)
  rows_agree None s rows orders choices known end rest agree lawful can clean take = absurd clean
  rows_agree (Some t) s [] [] [] known end rest agree lawful can clean take = (tt, agree)
  rows_agree (Some t) s [] [] (cs ∷ choices) known end rest agree lawful can clean take = absurd take
  rows_agree (Some t) s [] (ts ∷ orders) choices known end rest agree lawful can clean take = absurd can
  rows_agree (Some t) s (es ∷ rows) [] choices known end rest agree lawful can clean take = absurd can
  rows_agree (Some t) s (es ∷ rows) (ts ∷ orders) [] known end rest agree lawful can clean take = absurd take
  rows_agree (Some t) s (es ∷ rows) (ts ∷ orders) (cs ∷ choices) known end rest agree lawful can clean take =
      let more = rows_agree (after_turns d (Some (row d t es)) ts) (after flat (row_of flat s (row4 f es)) cs) rows orders choices
      (λ v e. (later d (row d t es) ts v (Entered t es (known t refl) end lawful.0) can.0 e).run) can.1.0
      (row_rests (module_of f) flat s (row4 f es) cs stands acyclic rest (row_only f flat stands es) take.0 take.1.0).0
      (one (after_turns d (Some (row d t es)) ts) refl can.1.0 clean) lawful.1 can.1.1 clean take.1.1 in
      ((one (after_turns d (Some (row d t es)) ts) refl can.1.0 clean, more.0), more.1)
    where
      one : (o : Option VState) → after_turns d (Some (row d t es)) ts ≡ o → IsEnd d o → IsClean (vhdl_rows.after_rows d o rows orders) → AgreeIn f o (after flat (row_of flat s (row4 f es)) cs)
      one None e end' clean' = absurd clean'
      one (Some u) e end' clean' = row_agrees t s es ts u cs (known t refl) end rest agree.0 lawful.0 can.0 e end' take.0 take.1.0

  pub runs_agree : (rows : List (List Entry)) (run : VhdlRun d rows) (verilog : VerilogRun flat (rows4 f rows)) → LawfulRows d rows → AgreeIn f (after_turns d (Some (power_on d)) run.first) (after flat (start_of flat) verilog.first) × (AgreeAfter f flat (after_turns d (Some (power_on d)) run.first) (after flat (start_of flat) verilog.first) rows run.later verilog.later × AgreeIn f (end_of d rows run) (verilog_end flat (rows4 f rows) verilog))
  runs_agree rows run verilog lawful =
      let first = one (after_turns d (Some (power_on d)) run.first) refl run.ends_first (gate_never_stops f rows run) in (
        first,
        rows_agree (after_turns d (Some (power_on d)) run.first) (after flat (start_of flat) verilog.first) rows run.later verilog.later
            (λ v e. (later d (power_on d) run.first v Powered run.can_first e).run) run.ends_first
            (power_on_rests (module_of f) flat verilog.first stands acyclic verilog.can_first verilog.quiet_first).0
            first lawful run.can_later (gate_never_stops f rows run) verilog.can_later,
      )
    where
      one : (o : Option VState) → after_turns d (Some (power_on d)) run.first ≡ o → IsEnd d o → IsClean (vhdl_rows.after_rows d o rows run.later) → AgreeIn f o (after flat (start_of flat) verilog.first)
      one None e end clean = absurd clean
      one (Some u) e end clean = power_on_agrees run.first u verilog.first run.can_first e end verilog.can_first verilog.quiet_first

  -- ---- there are runs

  rows_run : (s : State) → AtRest flat s → (rows : List (List Entry)) → (choices : List (List Choice)) × CanRows flat s (rows4 f rows) choices
  rows_run s rest [] = ([], tt)
  rows_run s rest (es ∷ rows) =
      let c = row_settles (module_of f) flat s (row4 f es) stands acyclic rest (row_only f flat stands es) in
      let more = rows_run (after flat (row_of flat s (row4 f es)) c.0) (row_rests (module_of f) flat s (row4 f es) c.0 stands acyclic rest (row_only f flat stands es) c.1 c.2).0 rows in
      (c.0 ∷ more.0, (c.1, (c.2, more.1)))

  pub verilog_runs : (rows : List (List Entry)) → VerilogRun flat (rows4 f rows)
  verilog_runs rows =
      let c = power_on_settles (module_of f) flat stands acyclic in
      let more = rows_run (after flat (start_of flat) c.0) (power_on_rests (module_of f) flat c.0 stands acyclic c.1 c.2).0 rows in
      record { first = c.0; later = more.0; can_first = c.1; quiet_first = c.2; can_later = more.1 }
