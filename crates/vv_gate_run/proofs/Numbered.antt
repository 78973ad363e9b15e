-- The flat design with the numbers of ports for their names stands for a file's module.
use Rattle.std.proofs.Common.{◌≡◌, ℕ, zero, suc, ◌+◌, ◌<◌, nat_eq, Bool, true, false, not, ◌&&◌, ◌||◌, cond, List, [], ◌∷◌, ◌++◌, map, length, Some, slice_get, refl, sym, ap, ap₂, ◌∙◌, arith, lit<, true≢false, eqb-true, eq-eqb}
use Rattle.std.proofs.lemmas.List.{map-append, length-map}
use Rattle.std.proofs.lemmas.List.Elements.{All-from_recursion}
use Rattle.std.proofs.lemmas.Slice.Eq.{bytes_eq-Decides}
use Rattle.std.specs.List.{flat_map, AllByRecursion, HoldsAt}
use Rattle.std.specs.Prelude.{All, filter}
use Rattle.std.specs.Str.{bytes_eq}
use Rattle.vv_cycle.proofs.Bound.{some_eq, none_eq}
use Rattle.vv_gate.specs.Conditions.{IsSound}
use Rattle.vv_gate.specs.Tree.{Operand, low, high, port, Term, Assignment, GateFile, Port, ports_of}
use Rattle.vv_gate.specs.Whole.{IsPlaced}
use Rattle.vv_gate_agree.proofs.Names.{names_of, named, name_at_net, number_is, port_within}
use Rattle.vv_gate_text.proofs.Elements.{each_both, each_of_flat_map, each_weaker}
use Rattle.vv_gate_text.proofs.Sound.{sound_flat}
use Rattle.vv_gate_text.specs.Made as made
use Rattle.vv_gate_text.specs.Names.{mangled}
use Rattle.vv_gate_vhdl.proofs.Ranks.{one_way}
use Rattle.vv_gate_vhdl.proofs.Sound.{sound_gate}
use Rattle.vv_gate_vhdl.specs.Design.{net_of, target_net, is_port, is_assigned, gate_rank, HasInput, AllInputs, AllPlaced, IsSoundGate}
use Rattle.vv_vast.specs.Flat.{Flat, IsDistinct, name_at, IsFlat, IsAcyclic, FlatDesign}
use Rattle.vv_vast.specs.Tree as vast
use Rattle.vv_gate_run.specs.Numbered.{numbered_operand, numbered_term, numbered_chain, numbered_terms, numbered_item, idle_items, numbered_file}

both_ways : (a b : Bool) → (a ≡ true → b ≡ true) → (b ≡ true → a ≡ true) → a ≡ b
both_ways true b f g = sym (f refl)
both_ways false true f g = g refl
both_ways false false f g = refl

module _ (ports : List Port) where
  abbrev name : ℕ → List ℕ
  name = name_at (map made.made_port ports)

  -- the name of the number of a port is its Verilog name
  pub name_back : (way : Bool) (text : List ℕ) → is_port way ports (net_of ports text) ≡ true → name (net_of ports text) ≡ mangled text
  name_back way text h =
      let r = named way ports text h in
      name_at_net ports (net_of ports text) r.p r.at ∙ ap mangled r.is

  -- ---- with the names for the numbers an expression is the made one

  operand_back : (o : Operand) → HasInput ports o → vast.renamed name (numbered_operand ports o) ≡ made.made_operand o
  operand_back low h = refl
  operand_back high h = refl
  operand_back (port i) h = ap vast.name (name_back true i.text h)

  term_back : (t : Term) → HasInput ports t.operand → vast.renamed name (numbered_term ports t) ≡ made.made_term t
  term_back t h = go t.negated (operand_back t.operand h)
    where
      go : (b : Bool) → vast.renamed name (numbered_operand ports t.operand) ≡ made.made_operand t.operand → vast.renamed name (cond b (vast.unary vast.not' (numbered_operand ports t.operand)) (numbered_operand ports t.operand)) ≡ cond b (vast.unary vast.not' (made.made_operand t.operand)) (made.made_operand t.operand)
      go true e = ap (vast.unary vast.not') e
      go false e = e

  chain_back : (o : vast.Binary) (ts : List Term) (e : vast.Expr ℕ) (g : vast.Expr (List ℕ)) → AllInputs ports ts → vast.renamed name e ≡ g → vast.renamed name (numbered_chain ports o e ts) ≡ made.chained o g ts
  chain_back o [] e g h q = q
  chain_back o (t ∷ ts) e g h q = chain_back o ts (vast.binary o e (numbered_term ports t)) (vast.binary o g (made.made_term t)) h.1 (ap₂ (λ x y. vast.binary o x y) q (term_back t h.0))

  terms_back : (o : vast.Binary) (ts : List Term) → AllInputs ports ts → vast.renamed name (numbered_terms ports o ts) ≡ made.made_terms o ts
  terms_back o [] h = refl
  terms_back o (t ∷ ts) h = chain_back o ts (numbered_term ports t) (made.made_term t) h.1 (term_back t h.0)

  item_back : (a : Assignment) → is_port false ports (target_net ports a) ≡ true → AllInputs ports a.terms → vast.renamed_item name (numbered_item ports a) ≡ made.made_assignment a
  item_back a out ins = ap₂ (λ n e. vast.assign n e) (name_back false a.target.text out) (terms_back (made.binary_of a.operator) a.terms ins)

  items_back : (gs : List Assignment) → AllPlaced ports gs → map (vast.renamed_item name) (map (numbered_item ports) gs) ≡ map made.made_assignment gs
  items_back [] h = refl
  items_back (a ∷ gs) h = ap₂ (λ i is. i ∷ is) (item_back a h.0 h.1.0) (items_back gs h.1.1)

  -- ---- the idle ports

  module _ (distinct : IsDistinct (names_of ports)) (gs : List Assignment) (placed : AllPlaced ports gs) where
    same_assigned : (gs : List Assignment) (k : ℕ) (p : Port) → AllPlaced ports gs → k < length ports → slice_get ports k ≡ Some p → made.is_assigned gs p.ident.text ≡ is_assigned ports gs k
    same_assigned [] k p placed l g = refl
    same_assigned (a ∷ gs) k p placed l g =
        ap₂ (λ b c. b || c) (both_ways (bytes_eq a.target.text p.ident.text) (nat_eq (target_net ports a) k) to from) (same_assigned gs k p placed.1.1 l g)
      where
        to : bytes_eq a.target.text p.ident.text ≡ true → nat_eq (target_net ports a) k ≡ true
        to e = eq-eqb (target_net ports a) k (sym (number_is ports distinct false a.target.text k l (name_at_net ports k p g ∙ ap mangled (sym ((bytes_eq-Decides a.target.text p.ident.text).0 e))) placed.0))

        from : nat_eq (target_net ports a) k ≡ true → bytes_eq a.target.text p.ident.text ≡ true
        from e =
            let n = named false ports a.target.text placed.0 in
            (bytes_eq-Decides a.target.text p.ident.text).1 (sym n.is ∙ ap (λ (o : Port). o.ident.text) (some_eq n.p p (sym n.at ∙ (ap (slice_get ports) (eqb-true (target_net ports a) k e) ∙ g))))

    abbrev idle : Port → Bool
    idle p = not p.input && not (made.is_assigned gs p.ident.text)

    found : (qs : List Port) (n : ℕ) (o : Port) → slice_get qs n ≡ Some o → n < length qs
    found [] n o h = absurd (none_eq o h)
    found (x ∷ qs) zero o h = omega arith
    found (x ∷ qs) (suc n) o h = let m : n < length qs = found qs n o h in omega arith

    idle_back : (ps : List Port) (k : ℕ) → ((i : ℕ) (p : Port) → slice_get ps i ≡ Some p → slice_get ports (i + k) ≡ Some p) → map (vast.renamed_item name) (idle_items (is_assigned ports gs) ps k) ≡ map made.made_idle (filter idle ps)
    idle_back [] k up = refl
    idle_back (p ∷ ps) k up = ap (λ b. map (vast.renamed_item name) (cond (p.input || b) (idle_items (is_assigned ports gs) ps (suc k)) (vast.assign k (vast.literal vast.bitx) ∷ idle_items (is_assigned ports gs) ps (suc k)))) (sym (same_assigned gs k p placed (found ports k p here) here)) ∙ go p.input (made.is_assigned gs p.ident.text) (idle_back ps (suc k) up_more)
      where
        start : k ≡ 0 + k
        start = omega arith

        here : slice_get ports k ≡ Some p
        here = ap (slice_get ports) start ∙ up 0 p refl

        up_more : (i : ℕ) (o : Port) → slice_get ps i ≡ Some o → slice_get ports (i + suc k) ≡ Some o
        up_more i o h = ap (slice_get ports) sum ∙ up (suc i) o h
          where
            sum : i + suc k ≡ suc i + k
            sum = omega arith

        go : (a b : Bool) → map (vast.renamed_item name) (idle_items (is_assigned ports gs) ps (suc k)) ≡ map made.made_idle (filter idle ps) → map (vast.renamed_item name) (cond (a || b) (idle_items (is_assigned ports gs) ps (suc k)) (vast.assign k (vast.literal vast.bitx) ∷ idle_items (is_assigned ports gs) ps (suc k))) ≡ map made.made_idle (cond (not a && not b) (p ∷ filter idle ps) (filter idle ps))
        go true b e = e
        go false true e = e
        go false false e = ap₂ (λ n is. vast.assign n (vast.literal vast.bitx) ∷ is) (name_at_net ports k p here) e

  -- ---- what items read and drive

  module _ (P : ℕ → Type 0) (inputs : (k : ℕ) → is_port true ports k ≡ true → P k) where
    operand_reads : (o : Operand) → HasInput ports o → AllByRecursion P (vast.reads (numbered_operand ports o))
    operand_reads low h = tt
    operand_reads high h = tt
    operand_reads (port i) h = (inputs (net_of ports i.text) h, tt)

    term_reads : (t : Term) → HasInput ports t.operand → AllByRecursion P (vast.reads (numbered_term ports t))
    term_reads t h = go t.negated (operand_reads t.operand h)
      where
        go : (b : Bool) → AllByRecursion P (vast.reads (numbered_operand ports t.operand)) → AllByRecursion P (vast.reads (cond b (vast.unary vast.not' (numbered_operand ports t.operand)) (numbered_operand ports t.operand)))
        go true e = e
        go false e = e

    chain_reads : (o : vast.Binary) (ts : List Term) (e : vast.Expr ℕ) → AllInputs ports ts → AllByRecursion P (vast.reads e) → AllByRecursion P (vast.reads (numbered_chain ports o e ts))
    chain_reads o [] e h q = q
    chain_reads o (t ∷ ts) e h q = chain_reads o ts (vast.binary o e (numbered_term ports t)) h.1 (each_both P (vast.reads e) (vast.reads (numbered_term ports t)) q (term_reads t h.0))

    terms_read : (o : vast.Binary) (ts : List Term) → AllInputs ports ts → AllByRecursion P (vast.reads (numbered_terms ports o ts))
    terms_read o [] h = tt
    terms_read o (t ∷ ts) h = chain_reads o ts (numbered_term ports t) h.1 (term_reads t h.0)

  out_port_at : (ps : List Port) (k : ℕ) (p : Port) → slice_get ps k ≡ Some p → p.input ≡ false → is_port false ps k ≡ true
  out_port_at [] k p h e = absurd (none_eq p h)
  out_port_at (q ∷ ps) zero p h e = ap not (ap (λ (o : Port). o.input) (some_eq q p h) ∙ e)
  out_port_at (q ∷ ps) (suc k) p h e = out_port_at ps k p h e

  -- what holds of items that drive out ports and read in ports holds of each item
  module _ (Q : vast.Item ℕ → Type 0) (each : (t : ℕ) (e : vast.Expr ℕ) → is_port false ports t ≡ true → AllByRecursion (λ n. is_port true ports n ≡ true) (vast.reads e) → Q (vast.assign t e)) where
    assigned_all : (gs : List Assignment) → AllPlaced ports gs → AllByRecursion Q (map (numbered_item ports) gs)
    assigned_all [] h = tt
    assigned_all (a ∷ gs) h = (each (target_net ports a) (numbered_terms ports (made.binary_of a.operator) a.terms) h.0 (terms_read (λ n. is_port true ports n ≡ true) (λ k q. q) (made.binary_of a.operator) a.terms h.1.0), assigned_all gs h.1.1)

    idle_all : (taken : ℕ → Bool) (ps : List Port) (k : ℕ) → ((i : ℕ) (p : Port) → slice_get ps i ≡ Some p → slice_get ports (i + k) ≡ Some p) → AllByRecursion Q (idle_items taken ps k)
    idle_all taken [] k up = tt
    idle_all taken (p ∷ ps) k up = go p.input (taken k) refl (idle_all taken ps (suc k) up_more)
      where
        start : k ≡ 0 + k
        start = omega arith

        up_more : (i : ℕ) (o : Port) → slice_get ps i ≡ Some o → slice_get ports (i + suc k) ≡ Some o
        up_more i o h = ap (slice_get ports) sum ∙ up (suc i) o h
          where
            sum : i + suc k ≡ suc i + k
            sum = omega arith

        go : (a b : Bool) → p.input ≡ a → AllByRecursion Q (idle_items taken ps (suc k)) → AllByRecursion Q (cond (a || b) (idle_items taken ps (suc k)) (vast.assign k (vast.literal vast.bitx) ∷ idle_items taken ps (suc k)))
        go true b e h = h
        go false true e h = h
        go false false e h = (each k (vast.literal vast.bitx) (out_port_at ports k p (ap (slice_get ports) start ∙ up 0 p refl) e) tt, h)

holds_output : (ports : List Port) (k : ℕ) → is_port false ports k ≡ true → HoldsAt (λ p. p.direction ≡ vast.output) (map made.made_port ports) k
holds_output [] k h = absurd (true≢false (sym h))
holds_output (p ∷ ports) zero h = λ d. out p.input h
  where
    out : (b : Bool) → not b ≡ true → made.direction_of b ≡ vast.output
    out true e = absurd (true≢false (sym e))
    out false e = refl
holds_output (p ∷ ports) (suc k) h = holds_output ports k h

-- ---- the whole file

still_there : (ports : List Port) (i : ℕ) (p : Port) → slice_get ports i ≡ Some p → slice_get ports (i + 0) ≡ Some p
still_there ports i p h = ap (slice_get ports) same ∙ h
  where
    same : i + 0 ≡ i
    same = omega arith

-- each item drives an out port and reads in ports
pub each_gate : (f : GateFile) → IsSoundGate f → (Q : vast.Item ℕ → Type 0) → ((t : ℕ) (e : vast.Expr ℕ) → is_port false (ports_of f) t ≡ true → AllByRecursion (λ n. is_port true (ports_of f) n ≡ true) (vast.reads e) → Q (vast.assign t e)) → AllByRecursion Q (numbered_file f).items
each_gate f gate Q each =
    each_both Q (map (numbered_item (ports_of f)) f.assignments) (idle_items (is_assigned (ports_of f) f.assignments) (ports_of f) 0)
    (assigned_all (ports_of f) Q each f.assignments gate.placed)
    (idle_all (ports_of f) Q each (is_assigned (ports_of f) f.assignments) (ports_of f) 0 (still_there (ports_of f)))

module _ (top : List ℕ) (f : GateFile) (whole : IsPlaced f) (sound : IsSound top f) where
  abbrev ports : List Port
  ports = ports_of f

  gate : IsSoundGate f
  gate = sound_gate top f sound

  distinct : IsDistinct (names_of (ports_of f))
  distinct = ((sound_flat top f whole sound).1.each 0 (made.module_of f) (lit< tt)).1.distinct

  abbrev each_item : (Q : vast.Item ℕ → Type 0) → ((t : ℕ) (e : vast.Expr ℕ) → is_port false ports t ≡ true → AllByRecursion (λ n. is_port true ports n ≡ true) (vast.reads e) → Q (vast.assign t e)) → AllByRecursion Q (numbered_file f).items
  each_item = each_gate f gate

  within : (way : Bool) (k : ℕ) → is_port way ports k ≡ true → k < length (map made.made_port ports)
  within way k h = rw length-map (port_within way ports k h)

  known : AllByRecursion (λ i. AllByRecursion (λ k. k < length (map made.made_port ports)) (vast.names_of_item i)) (numbered_file f).items
  known = each_item (λ i. AllByRecursion (λ k. k < length (map made.made_port ports)) (vast.names_of_item i))
      (λ t e out ins. (within false t out, each_weaker (λ n. is_port true ports n ≡ true) (λ k. k < length (map made.made_port ports)) (within true) (vast.reads e) ins))

  back : map (vast.renamed_item (name_at (map made.made_port ports))) (numbered_file f).items ≡ (made.module_of f).items
  back =
      map-append (vast.renamed_item (name_at (map made.made_port ports))) (map (numbered_item ports) f.assignments) (idle_items (is_assigned ports f.assignments) ports 0)
      ∙ ap₂ (λ x y. x ++ y) (items_back ports f.assignments gate.placed) (idle_back ports distinct f.assignments gate.placed ports 0 (still_there ports))

  pub numbered_flat : IsFlat (made.module_of f) (numbered_file f)
  numbered_flat = record {
    objects = refl;
    distinct = distinct;
    known = All-from_recursion (λ k. k < length (map made.made_port ports)) (flat_map vast.names_of_item (numbered_file f).items)
        (each_of_flat_map (λ k. k < length (map made.made_port ports)) vast.names_of_item (numbered_file f).items known);
    items = back;
    driven = All-from_recursion (λ i. HoldsAt (λ p. p.direction ≡ vast.output) (map made.made_port ports) (vast.target_of i)) (numbered_file f).items
        (each_item (λ i. HoldsAt (λ p. p.direction ≡ vast.output) (map made.made_port ports) (vast.target_of i)) (λ t e out ins. holds_output ports t out));
  }

  input_rank : (k : ℕ) → is_port true ports k ≡ true → gate_rank f k ≡ 0
  input_rank k h = ap (λ b. cond b 0 1) h

  output_rank : (k : ℕ) → is_port false ports k ≡ true → gate_rank f k ≡ 1
  output_rank k h = ap (λ b. cond b 0 1) (one_way ports k h)

  falls : (t : ℕ) (e : vast.Expr ℕ) → is_port false ports t ≡ true → AllByRecursion (λ n. is_port true ports n ≡ true) (vast.reads e) → AllByRecursion (λ n. gate_rank f n < gate_rank f t) (vast.reads e)
  falls t e out ins =
      each_weaker (λ n. is_port true ports n ≡ true) (λ n. gate_rank f n < gate_rank f t) (λ n h. let a : gate_rank f n ≡ 0 = input_rank n h in let b : gate_rank f t ≡ 1 = output_rank t out in omega (arith, a, b)) (vast.reads e) ins

  acyclic : IsAcyclic (numbered_file f)
  acyclic = record {
    rank = gate_rank f;
    falls = All-from_recursion (λ i. All (λ n. gate_rank f n < gate_rank f (vast.target_of i)) (vast.reads_of i)) (numbered_file f).items
        (each_item (λ i. All (λ n. gate_rank f n < gate_rank f (vast.target_of i)) (vast.reads_of i)) (λ t e out ins. All-from_recursion (λ n. gate_rank f n < gate_rank f t) (vast.reads e) (falls t e out ins)));
  }

  pub numbered_design : FlatDesign (made.module_of f ∷ []) (mangled f.entity.text) (numbered_file f)
  numbered_design = record {
    distinct = λ i j d l m e. absurd (omega arith);
    each = All-from_recursion (λ (k : vast.Module). (own : Flat) × IsFlat k own) (made.module_of f ∷ []) ((numbered_file f, numbered_flat), tt);
    found = made.module_of f;
    among = (0, lit< tt, refl);
    named = refl;
    stands = numbered_flat;
    acyclic = acyclic;
  }
