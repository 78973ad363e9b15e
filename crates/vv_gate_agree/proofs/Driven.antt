-- Each out port has one item in the flat design of a file's module, whose value is what Verilog sees of the assignment's.
use Rattle.std.proofs.Common.{◌≡◌, ℕ, ◌+◌, ◌<◌, zero, suc, nat_eq, Bool, true, false, not, ◌&&◌, ◌||◌, cond, List, [], ◌∷◌, ◌++◌, map, length, Some, slice_get, ⊎_elim, refl, sym, ap, ap₂, subst, ◌∙◌, arith, true≢false, eqb-true, eq-eqb}
use Rattle.std.proofs.lemmas.Bool.{cases_Bool, or_parts}
use Rattle.std.proofs.lemmas.List.Elements.{recursion_from_All}
use Rattle.std.proofs.lemmas.Slice.Eq.{bytes_eq-Decides}
use Rattle.std.specs.List.{AllByRecursion}
use Rattle.std.specs.Prelude.{All, filter, flat_map}
use Rattle.std.specs.Str.{bytes_eq}
use Rattle.vv_bits.specs.declared.nine.S9.{S9}
use Rattle.vv_bits.specs.declared.nine.S9.TheVariants.{U}
use Rattle.vv_bits.specs.declared.four.V4.{V4}
use Rattle.vv_bits.specs.declared.four.V4.TheVariants.{X}
use Rattle.vv_bits.specs.Four.{abs_rule}
use Rattle.vv_vast.specs.Flat.{Flat, IsDistinct, IsFlat, name_at}
use Rattle.vv_vast.specs.Tree as vast
use Rattle.vv_gate.specs.Tree.{Assignment, GateFile, Port, ports_of}
use Rattle.vv_cycle.specs.Processes as vhdl
use Rattle.vv_cycle.proofs.Bound.{some_eq, none_eq}
use Rattle.vv_events.specs.Equations.{at}
use Rattle.vv_gate_vhdl.specs.Design.{is_port, target_net, assigned_value, output_among, output_value, is_assigned, AllPlaced, OnceAssigned, IsSoundGate}
use Rattle.vv_gate_verilog.specs.Events.{bit_value, expressions_for}
use Rattle.vv_gate_text.specs.Names.{mangled}
use Rattle.vv_gate_text.specs.Made as made
use Rattle.vv_gate_text.proofs.Elements.{each_in_flat_map, each_weaker}
use Rattle.vv_gate_agree.specs.Agreement.{InputsAgree}
use Rattle.vv_gate_agree.proofs.Names.{find, find_at, names_of, named, name_at_net, number_is, place_is, port_within, within_names, out_port}
use Rattle.vv_gate_agree.proofs.Values.{named_value, bit_is_named, terms_seen}

-- ---- lists

head_or : {A : Type 0} → A → List A → A
head_or d [] = d
head_or d (x ∷ xs) = x

tail_of : {A : Type 0} → List A → List A
tail_of [] = []
tail_of (x ∷ xs) = xs

same_head : {A : Type 0} (x y : A) (xs ys : List A) → ◌≡◌ {A = List A} (x ∷ xs) (y ∷ ys) → x ≡ y
unfolding head_or
same_head x y xs ys e = ap (head_or x) e

same_tail : {A : Type 0} (x y : A) (xs ys : List A) → ◌≡◌ {A = List A} (x ∷ xs) (y ∷ ys) → xs ≡ ys
unfolding tail_of
same_tail x y xs ys e = ap tail_of e

not_cons : {A : Type 0} (x : A) (xs : List A) → ◌≡◌ {A = List A} [] (x ∷ xs) → ⊥
not_cons x xs e = cc

-- ---- Booleans

both_ways : (a b : Bool) → (a ≡ true → b ≡ true) → (b ≡ true → a ≡ true) → a ≡ b
both_ways true b f g = sym (f refl)
both_ways false true f g = g refl
both_ways false false f g = refl

made_length : (ports : List Port) → length (map made.made_port ports) ≡ length ports
made_length [] = refl
made_length (p ∷ ports) = ap suc (made_length ports)

-- ---- what an item says

abbrev source_of : {N : Type 0} → vast.Item N → vast.Expr N
source_of (vast.assign t e) = e

module _ (ports : List Port) (distinct : IsDistinct (names_of ports)) where
  abbrev name : ℕ → List ℕ
  name = name_at (map made.made_port ports)

  abbrev Known : vast.Item ℕ → Type 0
  Known i = AllByRecursion (λ n. n < length ports) (vast.names_of_item i)

  -- the value of an item's expression, by names
  source_seen : (bits : List V4) (t : ℕ) (e : vast.Expr ℕ) → Known (vast.assign t e) → bit_value e bits ≡ named_value (vast.renamed name e) (λ n. at bits (find (names_of ports) n))
  source_seen bits t e known =
      bit_is_named name (λ n. at bits (find (names_of ports) n)) bits e
      (each_weaker (λ n. n < length ports) (λ n. at bits (find (names_of ports) (name n)) ≡ at bits n) (λ n l. ap (at bits) (find_at (names_of ports) distinct n (within_names ports n l))) (vast.reads e) known.1)

  -- ---- the items of the assignments

  record Rest (items : List (vast.Item ℕ)) (gs : List Assignment) (rest : List (vast.Item (List ℕ))) (k : ℕ) : Type 0 where
    more : List (vast.Item ℕ)
    back : map (vast.renamed_item name) more ≡ rest
    known : AllByRecursion Known more
    off : is_assigned ports gs k ≡ false → expressions_for items k ≡ expressions_for more k
    on : is_assigned ports gs k ≡ true → OnceAssigned ports gs → (e : vast.Expr ℕ) × (expressions_for items k ≡ e ∷ expressions_for more k) × ((values : List S9) (bits : List V4) → ((n : ℕ) → is_port true ports n ≡ true → at bits n ≡ abs_rule (vhdl.at values n)) → bit_value e bits ≡ abs_rule (output_among ports gs values k))

  assigned_rest : (items : List (vast.Item ℕ)) (gs : List Assignment) (rest : List (vast.Item (List ℕ))) (k : ℕ) → AllPlaced ports gs → AllByRecursion Known items → map (vast.renamed_item name) items ≡ map made.made_assignment gs ++ rest → Rest items gs rest k
  assigned_rest items [] rest k placed known q = record { more = items; back = q; known = known; off = λ h. refl; on = λ h once. absurd (true≢false (sym h)) }
  assigned_rest [] (a ∷ gs) rest k placed known q = absurd (not_cons _ _ q)
  assigned_rest (vast.assign t e ∷ items) (a ∷ gs) rest k placed known q =
      step (assigned_rest items gs rest k placed.1.1 known.1 (same_tail _ _ _ _ q))
    where
      item_is : vast.renamed_item name (vast.assign t e) ≡ made.made_assignment a
      item_is = same_head _ _ _ _ q

      target_is : t ≡ target_net ports a
      target_is = number_is ports distinct false a.target.text t known.0.0 (ap vast.target_of item_is) placed.0

      skipped : nat_eq (target_net ports a) k ≡ false → expressions_for (vast.assign t e ∷ items) k ≡ expressions_for items k
      skipped n = ap (λ b. cond b (e ∷ expressions_for items k) (expressions_for items k)) (ap (λ m. nat_eq m k) target_is ∙ n)

      kept : nat_eq (target_net ports a) k ≡ true → expressions_for (vast.assign t e ∷ items) k ≡ e ∷ expressions_for items k
      kept y = ap (λ b. cond b (e ∷ expressions_for items k) (expressions_for items k)) (ap (λ m. nat_eq m k) target_is ∙ y)

      later : (nat_eq (target_net ports a) k || is_assigned ports gs k) ≡ true → nat_eq (target_net ports a) k ≡ false → is_assigned ports gs k ≡ true
      later h n = sym (ap (λ b. b || is_assigned ports gs k) n) ∙ h

      valued : (values : List S9) (bits : List V4) → ((n : ℕ) → is_port true ports n ≡ true → at bits n ≡ abs_rule (vhdl.at values n)) → bit_value e bits ≡ abs_rule (assigned_value ports a values)
      valued values bits agree =
          source_seen bits t e known.0
          ∙ ap (λ g. named_value g (λ n. at bits (find (names_of ports) n))) (ap source_of item_is)
          ∙ terms_seen ports distinct values bits agree a.operator a.terms placed.1.0

      step : Rest items gs rest k → Rest (vast.assign t e ∷ items) (a ∷ gs) rest k
      step r = record {
        more = r.more;
        back = r.back;
        known = r.known;
        off = λ h. let p = or_parts (nat_eq (target_net ports a) k) (is_assigned ports gs k) h in skipped p.0 ∙ r.off p.1;
        on = λ h once. ⊎_elim
            (λ y. let none : is_assigned ports gs k ≡ false = subst (λ n. is_assigned ports gs n ≡ false) (eqb-true (target_net ports a) k y) once.0 in
            (e, kept y ∙ ap (λ es. e ∷ es) (r.off none), λ values bits agree. valued values bits agree ∙ ap (λ b. abs_rule (cond b (assigned_value ports a values) (output_among ports gs values k))) (sym y)))
            (λ n. let m = r.on (later h n) once.1 in
            (m.0, skipped n ∙ m.1, λ values bits agree. m.2 values bits agree ∙ ap (λ b. abs_rule (cond b (assigned_value ports a values) (output_among ports gs values k))) (sym n)))
            (cases_Bool (nat_eq (target_net ports a) k));
      }

  -- ---- the items of the outputs that nothing assigns

  module _ (idle : Port → Bool) where
    abbrev idle_at : List Port → (j k : ℕ) → List (vast.Expr ℕ)
    idle_at [] j k = []
    idle_at (p ∷ ps) j k = cond (idle p) (cond (nat_eq j k) (vast.literal vast.bitx ∷ idle_at ps (suc j) k) (idle_at ps (suc j) k)) (idle_at ps (suc j) k)

    idle_items : (items : List (vast.Item ℕ)) (ps : List Port) (j k : ℕ) → ((i : ℕ) (p : Port) → slice_get ps i ≡ Some p → slice_get ports (i + j) ≡ Some p) → AllByRecursion Known items → map (vast.renamed_item name) items ≡ map made.made_idle (filter idle ps) → expressions_for items k ≡ idle_at ps j k
    idle_items [] [] j k up known q = refl
    idle_items (i ∷ items) [] j k up known q = absurd (not_cons _ _ (sym q))
    idle_items items (p ∷ ps) j k up known q = go (λ is h e. idle_items is ps (suc j) k up_more h e) (idle p) items known q
      where
        up_more : (i : ℕ) (o : Port) → slice_get ps i ≡ Some o → slice_get ports (i + suc j) ≡ Some o
        up_more i o h = ap (slice_get ports) sum ∙ up (suc i) o h
          where
            sum : i + suc j ≡ suc i + j
            sum = omega arith

        place : (t : ℕ) → t < length ports → name t ≡ mangled p.ident.text → t ≡ j
        place t l e = place_is ports distinct t j p l (found ports j p here) here e
          where
            start : j ≡ 0 + j
            start = omega arith

            here : slice_get ports j ≡ Some p
            here = ap (slice_get ports) start ∙ up 0 p refl

            found : (qs : List Port) (n : ℕ) (o : Port) → slice_get qs n ≡ Some o → n < length qs
            found [] n o h = absurd (none_eq o h)
            found (x ∷ qs) zero o h = omega arith
            found (x ∷ qs) (suc n) o h = let m : n < length qs = found qs n o h in omega arith

        go : ((is : List (vast.Item ℕ)) → AllByRecursion Known is → map (vast.renamed_item name) is ≡ map made.made_idle (filter idle ps) → expressions_for is k ≡ idle_at ps (suc j) k) → (b : Bool) (is : List (vast.Item ℕ)) → AllByRecursion Known is → map (vast.renamed_item name) is ≡ map made.made_idle (cond b (p ∷ filter idle ps) (filter idle ps)) → expressions_for is k ≡ cond b (cond (nat_eq j k) (vast.literal vast.bitx ∷ idle_at ps (suc j) k) (idle_at ps (suc j) k)) (idle_at ps (suc j) k)
        go more false is known q = more is known q
        go more true [] known q = absurd (not_cons _ _ q)
        go more true (vast.assign t e ∷ is) known q =
            let item_is : vast.renamed_item name (vast.assign t e) ≡ made.made_idle p = same_head _ _ _ _ q in
            let t_is : t ≡ j = place t known.0.0 (ap vast.target_of item_is) in
            let e_is : e ≡ vast.literal vast.bitx = is_x e (ap source_of item_is) in
            ap (λ n. cond (nat_eq n k) (e ∷ expressions_for is k) (expressions_for is k)) t_is
            ∙ ap₂ (λ g es. cond (nat_eq j k) (g ∷ es) es) e_is (more is known.1 (same_tail _ _ _ _ q))
          where
            is_x : (g : vast.Expr ℕ) → vast.renamed name g ≡ vast.literal vast.bitx → g ≡ vast.literal vast.bitx
            is_x (vast.literal vast.bit0) h = absurd cc
            is_x (vast.literal vast.bit1) h = absurd cc
            is_x (vast.literal vast.bitx) h = refl
            is_x (vast.literal vast.bitz) h = absurd cc
            is_x (vast.name n) h = absurd cc
            is_x (vast.unary o g) h = absurd cc
            is_x (vast.binary o g i) h = absurd cc

    idle_below : (ps : List Port) (j k : ℕ) → k < j → idle_at ps j k ≡ []
    idle_below [] j k l = refl
    idle_below (p ∷ ps) j k l = go (idle_below ps (suc j) k (omega arith)) (idle p) (nat_eq j k) refl
      where
        go : idle_at ps (suc j) k ≡ [] → (b c : Bool) → nat_eq j k ≡ c → cond b (cond c (vast.literal vast.bitx ∷ idle_at ps (suc j) k) (idle_at ps (suc j) k)) (idle_at ps (suc j) k) ≡ []
        go more false c e = more
        go more true false e = more
        go more true true e = let same : j ≡ k = eqb-true j k e in absurd (omega arith)

    idle_here : (ps : List Port) (j i k : ℕ) (p : Port) → k ≡ i + j → slice_get ps i ≡ Some p → idle_at ps j k ≡ cond (idle p) (vast.literal vast.bitx ∷ []) []
    idle_here [] j i k p s h = absurd (none_eq p h)
    idle_here (q ∷ ps) j zero k p s h =
        ap (λ b. cond (idle q) (cond b (vast.literal vast.bitx ∷ idle_at ps (suc j) k) (idle_at ps (suc j) k)) (idle_at ps (suc j) k)) (eq-eqb j k (omega arith))
        ∙ ap (λ es. cond (idle q) (vast.literal vast.bitx ∷ es) es) (idle_below ps (suc j) k (omega arith))
        ∙ ap (λ (o : Port). cond (idle o) (vast.literal vast.bitx ∷ []) []) (some_eq q p h)
    idle_here (q ∷ ps) j (suc i) k p s h = go (idle q) (nat_eq j k) refl ∙ idle_here ps (suc j) i k p (omega arith) h
      where
        go : (b c : Bool) → nat_eq j k ≡ c → cond b (cond c (vast.literal vast.bitx ∷ idle_at ps (suc j) k) (idle_at ps (suc j) k)) (idle_at ps (suc j) k) ≡ idle_at ps (suc j) k
        go false c e = refl
        go true false e = refl
        go true true e = let same : j ≡ k = eqb-true j k e in absurd (omega arith)

  -- ---- the two meanings of an assigned port

  same_assigned : (gs : List Assignment) (k : ℕ) (p : Port) → AllPlaced ports gs → k < length ports → slice_get ports k ≡ Some p → made.is_assigned gs p.ident.text ≡ is_assigned ports gs k
  same_assigned [] k p placed l g = refl
  same_assigned (a ∷ gs) k p placed l g =
      ap₂ (λ b c. b || c) (both_ways (bytes_eq a.target.text p.ident.text) (nat_eq (target_net ports a) k) to from) (same_assigned gs k p placed.1.1 l g)
    where
      to : bytes_eq a.target.text p.ident.text ≡ true → nat_eq (target_net ports a) k ≡ true
      to e = eq-eqb (target_net ports a) k (sym (number_is ports distinct false a.target.text k l (name_at_net ports k p g ∙ ap mangled (sym ((bytes_eq-Decides a.target.text p.ident.text).0 e))) placed.0))

      from : nat_eq (target_net ports a) k ≡ true → bytes_eq a.target.text p.ident.text ≡ true
      from e =
          let n = named false ports a.target.text placed.0 in
          (bytes_eq-Decides a.target.text p.ident.text).1 (sym n.is ∙ ap (λ (o : Port). o.ident.text) (some_eq n.p p (sym n.at ∙ (ap (slice_get ports) (eqb-true (target_net ports a) k e) ∙ g))))

  unassigned_is : (gs : List Assignment) (values : List S9) (k : ℕ) → is_assigned ports gs k ≡ false → output_among ports gs values k ≡ U
  unassigned_is [] values k h = refl
  unassigned_is (a ∷ gs) values k h =
      let p = or_parts (nat_eq (target_net ports a) k) (is_assigned ports gs k) h in
      ap (λ b. cond b (assigned_value ports a values) (output_among ports gs values k)) p.0 ∙ unassigned_is gs values k p.1

-- ---- a file's module

abbrev just_x : List (vast.Expr ℕ)
just_x = vast.literal vast.bitx ∷ []

-- the one item of an out port
pub record Driver (f : GateFile) (flat : Flat) (k : ℕ) : Type 0 where
  pub e : vast.Expr ℕ
  pub alone : expressions_for flat.items k ≡ e ∷ []
  pub value : (values : List S9) (bits : List V4) → InputsAgree f values bits → bit_value e bits ≡ abs_rule (output_value f values k)

-- the items of a file's module, as those of its assignments and then the others
record Split (f : GateFile) (flat : Flat) (k : ℕ) : Type 0 where
  distinct : IsDistinct (names_of (ports_of f))
  r : Rest (ports_of f) distinct flat.items f.assignments (map made.made_idle (filter (made.is_idle f) (ports_of f))) k
  ends : (b : Bool) → is_assigned (ports_of f) f.assignments k ≡ b → expressions_for r.more k ≡ cond b [] just_x

split : (f : GateFile) (flat : Flat) → IsSoundGate f → IsFlat (made.module_of f) flat → (k : ℕ) → is_port false (ports_of f) k ≡ true → Split f flat k
split f flat sound stands k h = record { distinct = distinct; r = r; ends = ends }
  where
    distinct : IsDistinct (names_of (ports_of f))
    distinct = stands.distinct

    known : AllByRecursion (Known (ports_of f) distinct) flat.items
    known =
        each_in_flat_map (λ n. n < length (ports_of f)) vast.names_of_item flat.items
        (recursion_from_All (λ n. n < length (ports_of f)) (flat_map vast.names_of_item flat.items)
        (subst (λ m. All (λ n. n < m) (flat_map vast.names_of_item flat.items)) (ap length stands.objects ∙ made_length (ports_of f)) stands.known))

    back : map (vast.renamed_item (name (ports_of f) distinct)) flat.items ≡ (made.module_of f).items
    back = ap (λ (os : List vast.Port). map (vast.renamed_item (name_at os)) flat.items) (sym stands.objects) ∙ stands.items

    r : Rest (ports_of f) distinct flat.items f.assignments (map made.made_idle (filter (made.is_idle f) (ports_of f))) k
    r = assigned_rest (ports_of f) distinct flat.items f.assignments (map made.made_idle (filter (made.is_idle f) (ports_of f))) k sound.placed known back

    ends : (b : Bool) → is_assigned (ports_of f) f.assignments k ≡ b → expressions_for r.more k ≡ cond b [] (vast.literal vast.bitx ∷ [])
    ends b e =
        let o = out_port (ports_of f) k h in
        idle_items (ports_of f) distinct (made.is_idle f) r.more (ports_of f) 0 k (λ i p g. ap (slice_get (ports_of f)) (plus i) ∙ g) r.known r.back
        ∙ idle_here (ports_of f) distinct (made.is_idle f) (ports_of f) 0 k k o.p (sym (plus k)) o.at
        ∙ ap (λ c. cond c (vast.literal vast.bitx ∷ []) [])
        (ap₂ (λ x y. x && not y) o.out (same_assigned (ports_of f) distinct f.assignments k o.p sound.placed (port_within false (ports_of f) k h) o.at ∙ e))
        ∙ turned b
      where
        plus : (i : ℕ) → i + 0 ≡ i
        plus i = omega arith

        turned : (c : Bool) → cond (not c) just_x [] ≡ cond c [] just_x
        turned true = refl
        turned false = refl

pub driver : (f : GateFile) (flat : Flat) → IsSoundGate f → IsFlat (made.module_of f) flat → (k : ℕ) → is_port false (ports_of f) k ≡ true → Driver f flat k
driver f flat sound stands k h =
    let s = split f flat sound stands k h in
    ⊎_elim
    (λ y. let m = s.r.on y sound.once in
    record { e = m.0; alone = m.1 ∙ ap (λ es. m.0 ∷ es) (s.ends true y); value = m.2 })
    (λ n. record { e = vast.literal vast.bitx; alone = s.r.off n ∙ s.ends false n; value = λ values bits agree. ap abs_rule (sym (unassigned_is (ports_of f) s.distinct f.assignments values k n)) })
    (cases_Bool (is_assigned (ports_of f) f.assignments k))

-- the item of an out port that nothing assigns
pub idle_driver : (f : GateFile) (flat : Flat) → IsSoundGate f → IsFlat (made.module_of f) flat → (k : ℕ) → is_port false (ports_of f) k ≡ true → is_assigned (ports_of f) f.assignments k ≡ false → (e : vast.Expr ℕ) × (expressions_for flat.items k ≡ e ∷ []) × ((bits : List V4) → bit_value e bits ≡ X)
idle_driver f flat sound stands k h n =
    let s = split f flat sound stands k h in
    (vast.literal vast.bitx, s.r.off n ∙ s.ends false n, λ bits. refl)
