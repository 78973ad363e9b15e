-- A module whose items read inputs and drive outputs stands for a flat design.
use Rattle.std.proofs.Common.{◌≡◌, ℕ, ◌<◌, zero, suc, false, cond, List, [], ◌∷◌, map, length, get_or, refl, sym, ap, ◌∙◌, lit<, arith}
use Rattle.std.proofs.lemmas.Bool.{false_from_ne_true}
use Rattle.std.proofs.lemmas.List.{length-map}
use Rattle.std.proofs.lemmas.List.Elements.{All-from_recursion}
use Rattle.std.proofs.lemmas.Slice.Eq.{bytes_eq-Decides}
use Rattle.std.specs.List.{flat_map, AllByRecursion, HoldsAt}
use Rattle.std.specs.Prelude.{All, Contains}
use Rattle.std.specs.Str.{bytes_eq}
use Rattle.vv_gate_text.proofs.Elements.{each_of_map, each_of_flat_map, each_both, each_front, each_back, each_weaker}
use Rattle.vv_vast.specs.Flat.{Flat, IsDistinct, name_at, IsFlat, IsAcyclic, FlatDesign}
use Rattle.vv_vast.specs.Tree.{Expr, literal, name, unary, binary, Item, assign, Direction, input, output, Port, Module, reads, target_of, reads_of, names_of_item, renamed, renamed_item}

-- the first place at which the name stands
index_of : List (List ℕ) → List ℕ → ℕ
index_of [] n = 0
index_of (x ∷ xs) n = cond (bytes_eq x n) 0 (suc (index_of xs n))

index_first : (xs : List (List ℕ)) (n : List ℕ) (k : ℕ) → k < length xs → get_or xs k [] ≡ n → ((j : ℕ) → j < k → get_or xs j [] ≡ n → ⊥) → index_of xs n ≡ k
unfolding index_of
index_first [] n k l e f = absurd (omega arith)
index_first (x ∷ xs) n zero l e f = ap (λ b. cond b 0 (suc (index_of xs n))) ((bytes_eq-Decides x n).1 e)
index_first (x ∷ xs) n (suc k) l e f =
    let other : bytes_eq x n ≡ false = false_from_ne_true (bytes_eq x n) (λ t. f 0 (omega arith) ((bytes_eq-Decides x n).0 t)) in
    ap (λ b. cond b 0 (suc (index_of xs n))) other ∙ ap suc (index_first xs n k (omega arith) e (λ j h. f (suc j) (omega arith)))

pub get_or_of_map : {X Y : Type 0} (f : X → Y) (xs : List X) (k : ℕ) (d : X) (e : Y) → k < length xs → get_or (map f xs) k e ≡ f (get_or xs k d)
get_or_of_map f [] k d e h = absurd (omega arith)
get_or_of_map f (x ∷ xs) zero d e h = refl
get_or_of_map f (x ∷ xs) (suc k) d e h = get_or_of_map f xs k d e (omega arith)

get_or_any : {X : Type 0} (xs : List X) (k : ℕ) (d e : X) → k < length xs → get_or xs k d ≡ get_or xs k e
get_or_any [] k d e h = absurd (omega arith)
get_or_any (x ∷ xs) zero d e h = refl
get_or_any (x ∷ xs) (suc k) d e h = get_or_any xs k d e (omega arith)

abbrev pub port_names : List Port → List (List ℕ)
port_names = map (λ p. p.name)

-- an object of this direction has the name
abbrev pub Has : Direction → List Port → List ℕ → Type 0
Has way objects n = (p : Port) × Contains objects p × (p.direction ≡ way) × (p.name ≡ n)

-- the item drives an output and reads inputs
abbrev pub Fits : List Port → Item (List ℕ) → Type 0
Fits objects i = Has output objects (target_of i) × AllByRecursion (Has input objects) (reads_of i)

each_renamed : {N M : Type 0} (P : M → Type 0) (f : N → M) (e : Expr N) → AllByRecursion (λ n. P (f n)) (reads e) → AllByRecursion P (reads (renamed f e))
each_renamed P f (literal b) h = tt
each_renamed P f (name n) h = h
each_renamed P f (unary o e) h = each_renamed P f e h
each_renamed {N} P f (binary o e g) h =
    each_both P (reads (renamed f e)) (reads (renamed f g)) (each_renamed P f e (each_front (λ (n : N). P (f n)) (reads e) (reads g) h))
    (each_renamed P f g (each_back (λ (n : N). P (f n)) (reads e) (reads g) h))

renamed_back : (f : List ℕ → ℕ) (g : ℕ → List ℕ) (e : Expr (List ℕ)) → AllByRecursion (λ n. g (f n) ≡ n) (reads e) → renamed g (renamed f e) ≡ e
renamed_back f g (literal b) h = refl
renamed_back f g (name n) h = ap name h.0
renamed_back f g (unary o e) h = ap (unary o) (renamed_back f g e h)
renamed_back f g (binary o e k) h =
    ap (λ x. binary o x (renamed g (renamed f k))) (renamed_back f g e (each_front (λ n. g (f n) ≡ n) (reads e) (reads k) h))
    ∙ ap (λ y. binary o e y) (renamed_back f g k (each_back (λ n. g (f n) ≡ n) (reads e) (reads k) h))

module _ (objects : List Port) (distinct : IsDistinct (port_names objects)) where
  abbrev number : List ℕ → ℕ
  number = index_of (port_names objects)

  -- the number of a name is that of the object which has it
  number_is : (way : Direction) (n : List ℕ) (h : Has way objects n) → number n ≡ h.1.0
  number_is way n h =
      let k = h.1.0 in
      let within : k < length (port_names objects) = rw length-map h.1.1 in
      let here : get_or (port_names objects) k [] ≡ n = get_or_of_map (λ (p : Port). p.name) objects k h.0 [] h.1.1 ∙ (ap (λ p. p.name) h.1.2 ∙ h.3) in
      index_first (port_names objects) n k within here (λ j l e. distinct j k [] l within (e ∙ sym here))

  number_within : (way : Direction) (n : List ℕ) → Has way objects n → number n < length objects
  number_within way n h = rw (number_is way n h) h.1.1

  number_back : (way : Direction) (n : List ℕ) → Has way objects n → name_at objects (number n) ≡ n
  number_back way n h =
      ap (name_at objects) (number_is way n h) ∙ (get_or_of_map (λ (p : Port). p.name) objects h.1.0 h.0 [] h.1.1 ∙ (ap (λ p. p.name) h.1.2 ∙ h.3))

  number_way : (way : Direction) (n : List ℕ) → Has way objects n → (d : Port) → (get_or objects (number n) d).direction ≡ way
  number_way way n h d =
      ap (λ k. (get_or objects k d).direction) (number_is way n h) ∙ (ap (λ p. p.direction) (get_or_any objects h.1.0 d h.0 h.1.1 ∙ h.1.2) ∙ h.2)

  abbrev no_port : Port
  no_port = record { direction = input; name = [] }

  -- an output has rank 1, an input 0
  rank_of : Direction → ℕ
  rank_of input = 0
  rank_of output = 1

  abbrev rank : ℕ → ℕ
  rank k = rank_of (get_or objects k no_port).direction

  output_rank : (n : List ℕ) → Has output objects n → rank (number n) ≡ 1
  unfolding rank_of
  output_rank n h = ap rank_of (number_way output n h no_port)

  input_rank : (n : List ℕ) → Has input objects n → rank (number n) ≡ 0
  unfolding rank_of
  input_rank n h = ap rank_of (number_way input n h no_port)

  abbrev numbered : Item (List ℕ) → Item ℕ
  numbered = renamed_item number

  item_known : (i : Item (List ℕ)) → Fits objects i → AllByRecursion (λ k. k < length objects) (names_of_item (numbered i))
  item_known (assign t e) h =
      (number_within output t h.0, each_renamed (λ k. k < length objects) number e (each_weaker (Has input objects) (λ n. number n < length objects) (number_within input) (reads e) h.1))

  item_back : (i : Item (List ℕ)) → Fits objects i → renamed_item (name_at objects) (numbered i) ≡ i
  item_back (assign t e) h =
      ap (λ n. assign n (renamed (name_at objects) (renamed number e))) (number_back output t h.0)
      ∙ ap (assign t) (renamed_back number (name_at objects) e (each_weaker (Has input objects) (λ n. name_at objects (number n) ≡ n) (number_back input) (reads e) h.1))

  item_driven : (i : Item (List ℕ)) → Fits objects i → HoldsAt (λ p. p.direction ≡ output) objects (target_of (numbered i))
  item_driven (assign t e) h = λ d. number_way output t h.0 d

  item_falls : (i : Item (List ℕ)) → Fits objects i → AllByRecursion (λ n. rank n < rank (target_of (numbered i))) (reads_of (numbered i))
  item_falls (assign t e) h =
      let one = output_rank t h.0 in
      each_renamed (λ n. rank n < rank (number t)) number e
      (each_weaker (Has input objects) (λ n. rank (number n) < rank (number t)) (λ n k. let none = input_rank n k in omega arith) (reads e) h.1)

  items_back : (is : List (Item (List ℕ))) → AllByRecursion (Fits objects) is → map (renamed_item (name_at objects)) (map numbered is) ≡ is
  items_back [] h = refl
  items_back (i ∷ is) h = ap (λ x. x ∷ map (renamed_item (name_at objects)) (map numbered is)) (item_back i h.0) ∙ ap (λ xs. i ∷ xs) (items_back is h.1)

  abbrev flat_of : List (Item (List ℕ)) → Flat
  flat_of is = record { objects = objects; items = map numbered is }

  stands : (n : List ℕ) (is : List (Item (List ℕ))) → AllByRecursion (Fits objects) is → IsFlat record { name = n; ports = objects; items = is } (flat_of is)
  stands n is h = record {
    objects = refl;
    distinct = distinct;
    known = All-from_recursion (λ k. k < length objects) (flat_map names_of_item (map numbered is))
        (each_of_flat_map (λ k. k < length objects) names_of_item (map numbered is)
        (each_of_map (λ i. AllByRecursion (λ k. k < length objects) (names_of_item i)) numbered is
        (each_weaker (Fits objects) (λ i. AllByRecursion (λ k. k < length objects) (names_of_item (numbered i))) item_known is h)));
    items = items_back is h;
    driven = All-from_recursion (λ i. HoldsAt (λ p. p.direction ≡ output) objects (target_of i)) (map numbered is)
        (each_of_map (λ i. HoldsAt (λ p. p.direction ≡ output) objects (target_of i)) numbered is
        (each_weaker (Fits objects) (λ i. HoldsAt (λ p. p.direction ≡ output) objects (target_of (numbered i))) item_driven is h));
  }

  acyclic : (is : List (Item (List ℕ))) → AllByRecursion (Fits objects) is → IsAcyclic (flat_of is)
  acyclic is h = record {
    rank = rank;
    falls = All-from_recursion (λ i. All (λ n. rank n < rank (target_of i)) (reads_of i)) (map numbered is)
        (each_of_map (λ i. All (λ n. rank n < rank (target_of i)) (reads_of i)) numbered is
        (each_weaker (Fits objects) (λ i. All (λ n. rank n < rank (target_of (numbered i))) (reads_of (numbered i)))
        (λ i k. All-from_recursion (λ n. rank n < rank (target_of (numbered i))) (reads_of (numbered i)) (item_falls i k)) is h));
  }

alone : (n : List ℕ) → IsDistinct (n ∷ [])
alone n = λ i j d l m e. absurd (omega arith)

pub flat_design : (m : Module) → IsDistinct (port_names m.ports) → AllByRecursion (Fits m.ports) m.items → (flat : Flat) × FlatDesign (m ∷ []) m.name flat
flat_design m distinct fits =
    let flat = flat_of m.ports distinct m.items in
    let is_flat : IsFlat m flat = stands m.ports distinct m.name m.items fits in (
      flat,
      record {
        distinct = alone m.name;
        each = All-from_recursion (λ (k : Module). (own : Flat) × IsFlat k own) (m ∷ []) ((flat, is_flat), tt);
        found = m;
        among = (0, lit< tt, refl);
        named = refl;
        stands = is_flat;
        acyclic = acyclic m.ports distinct m.items fits;
      },
    )
