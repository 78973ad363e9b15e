-- A list of modules has at most one flat design for a top: one module has the name, and its names are distinct, so each tells its number.
use Rattle.std.proofs.Common.{◌≡◌, ◌<◌, ℕ, List, [], ◌∷◌, map, flat_map, length, get_or, All, Contains, refl, sym, ap, ap₂, ◌∙◌, arith}
use Rattle.std.proofs.Math.Decide.{dec_lt}
use Rattle.std.proofs.lemmas.List.{length-map, get_or-map, get_or_default}
use Rattle.std.proofs.lemmas.List.Elements.{All-head, All-tail}
use Rattle.vv_vast.proofs.Splits.{first_same, rest_same, none_is_some, All-left, All-right}
use Rattle.vv_vast.specs.Flat.{Flat, IsDistinct, name_at, IsFlat, FlatDesign}
use Rattle.vv_vast.specs.Tree.{Unary, Binary, Expr, literal, name, unary, binary, Item, assign, Port, Module, reads, names_of_item, renamed, renamed_item}

-- an element of a list without repetitions tells its place
one_place : (xs : List (List ℕ)) (i j : ℕ) → IsDistinct xs → i < length xs → j < length xs → get_or xs i [] ≡ get_or xs j [] → i ≡ j
one_place xs i j apart hi hj e =
    elim (dec_lt i j) [
      | yes below ↦ absurd (apart i j [] below hj e)
      | no above ↦ elim (dec_lt j i) [ yes below ↦ absurd (apart j i [] below hi (sym e)) | no upper ↦ omega arith ]
    ]

-- the names of the first n numbers tell these
abbrev Tells : (ℕ → List ℕ) → ℕ → Type 0
Tells f n = (i j : ℕ) → i < n → j < n → f i ≡ f j → i ≡ j

names_tell : (objects : List Port) → IsDistinct (map (λ p. p.name) objects) → Tells (name_at objects) (length objects)
names_tell objects apart i j hi hj e =
    let same : length (map (λ p. p.name) objects) ≡ length objects = length-map objects (λ p. p.name) in
    one_place (map (λ p. p.name) objects) i j apart (omega arith) (omega arith) e

same_unary : {N : Type 0} {o p : Unary} {e g : Expr N} → o ≡ p → e ≡ g → unary o e ≡ unary p g
same_unary a b = cc

same_binary : {N : Type 0} {o p : Binary} {e g e' g' : Expr N} → o ≡ p → e ≡ g → e' ≡ g' → binary o e e' ≡ binary p g g'
same_binary a b c = cc

unary_parts : {N : Type 0} (o p : Unary) (e g : Expr N) → unary o e ≡ unary p g → (o ≡ p) × (e ≡ g)
unary_parts o p e g q = (cc, cc)

binary_parts : {N : Type 0} (o p : Binary) (e g e' g' : Expr N) → binary o e e' ≡ binary p g g' → (o ≡ p) × (e ≡ g) × (e' ≡ g')
binary_parts o p e g e' g' q = (cc, cc, cc)

abbrev Below : ℕ → List ℕ → Type 0
Below n = All (λ i. i < n)

same_expr : (f : ℕ → List ℕ) (n : ℕ) → Tells f n → (e g : Expr ℕ) → Below n (reads e) → Below n (reads g) → renamed f e ≡ renamed f g → e ≡ g
same_expr f n t (literal b) (literal c) h k q = let same : b ≡ c = cc in ap literal same
same_expr f n t (literal b) (name j) h k q = cc
same_expr f n t (literal b) (unary p g) h k q = cc
same_expr f n t (literal b) (binary p g g') h k q = cc
same_expr f n t (name i) (literal c) h k q = cc
same_expr f n t (name i) (name j) h k q =
    let same : f i ≡ f j = cc in ap name (t i j (All-head (λ m. m < n) i [] h) (All-head (λ m. m < n) j [] k) same)
same_expr f n t (name i) (unary p g) h k q = cc
same_expr f n t (name i) (binary p g g') h k q = cc
same_expr f n t (unary o e) (literal c) h k q = cc
same_expr f n t (unary o e) (name j) h k q = cc
same_expr f n t (unary o e) (unary p g) h k q =
    let parts = unary_parts o p (renamed f e) (renamed f g) q in same_unary parts.0 (same_expr f n t e g h k parts.1)
same_expr f n t (unary o e) (binary p g g') h k q = cc
same_expr f n t (binary o e e') (literal c) h k q = cc
same_expr f n t (binary o e e') (name j) h k q = cc
same_expr f n t (binary o e e') (unary p g) h k q = cc
same_expr f n t (binary o e e') (binary p g g') h k q =
    let parts = binary_parts o p (renamed f e) (renamed f g) (renamed f e') (renamed f g') q in
    same_binary parts.0
    (same_expr f n t e g (All-left (λ m. m < n) (reads e) (reads e') h) (All-left (λ m. m < n) (reads g) (reads g') k) parts.1)
    (same_expr f n t e' g' (All-right (λ m. m < n) (reads e) (reads e') h) (All-right (λ m. m < n) (reads g) (reads g') k) parts.2)

item_parts : {N : Type 0} (m n : N) (e g : Expr N) → assign m e ≡ assign n g → (m ≡ n) × (e ≡ g)
item_parts m n e g q = (cc, cc)

same_item : (f : ℕ → List ℕ) (n : ℕ) → Tells f n → (i j : Item ℕ) → Below n (names_of_item i) → Below n (names_of_item j) → renamed_item f i ≡ renamed_item f j → i ≡ j
same_item f n t (assign x e) (assign y g) h k q =
    let parts = item_parts (f x) (f y) (renamed f e) (renamed f g) q in
    ap₂ assign (t x y (All-head (λ m. m < n) x (reads e) h) (All-head (λ m. m < n) y (reads g) k) parts.0)
    (same_expr f n t e g (All-tail (λ m. m < n) x (reads e) h) (All-tail (λ m. m < n) y (reads g) k) parts.1)

same_items : (f : ℕ → List ℕ) (n : ℕ) → Tells f n → (is js : List (Item ℕ)) → Below n (flat_map names_of_item is) → Below n (flat_map names_of_item js) → map (renamed_item f) is ≡ map (renamed_item f) js → is ≡ js
same_items f n t [] [] h k q = refl
same_items f n t [] (j ∷ js) h k q = absurd (none_is_some q)
same_items f n t (i ∷ is) [] h k q = absurd (none_is_some (sym q))
same_items f n t (i ∷ is) (j ∷ js) h k q =
    ap₂ (λ x xs. x ∷ xs)
    (same_item f n t i j (All-left (λ m. m < n) (names_of_item i) (flat_map names_of_item is) h) (All-left (λ m. m < n) (names_of_item j) (flat_map names_of_item js) k) (first_same q))
    (same_items f n t is js (All-right (λ m. m < n) (names_of_item i) (flat_map names_of_item is) h) (All-right (λ m. m < n) (names_of_item j) (flat_map names_of_item js) k) (rest_same q))

-- items over numbers of the ports
abbrev Fits : Module → List Port → List (Item ℕ) → Type 0
Fits m objects items = Below (length objects) (flat_map names_of_item items) × (map (renamed_item (name_at objects)) items ≡ m.items)

flat_fits : (m : Module) (flat : Flat) → IsFlat m flat → Fits m m.ports flat.items
flat_fits m flat s = rw s.objects at (fits m flat s)
  where
    fits : (m : Module) (flat : Flat) → IsFlat m flat → Fits m flat.objects flat.items
    fits m flat s = (s.known, s.items)

-- a module stands for at most one flat design
one_module : (m : Module) (flat other : Flat) → IsFlat m flat → IsFlat m other → flat ≡ other
one_module m flat other s t =
    let one = flat_fits m flat s in
    let two = flat_fits m other t in
    ap₂ (λ x y. record { objects = x; items = y }) (s.objects ∙ sym t.objects)
    (same_items (name_at m.ports) (length m.ports) (names_tell m.ports s.distinct) flat.items other.items one.0 two.0 (one.1 ∙ sym two.1))

name_there : (modules : List Module) (m : Module) (h : Contains modules m) → get_or (map (λ m. m.name) modules) h.0 [] ≡ m.name
name_there modules m h = get_or-map (λ m. m.name) modules h.0 m [] h.1 ∙ ap (λ m. m.name) h.2

-- a name is that of one module
one_named : (modules : List Module) (m n : Module) → IsDistinct (map (λ m. m.name) modules) → Contains modules m → Contains modules n → m.name ≡ n.name → m ≡ n
one_named modules m n apart h k e =
    let long : length (map (λ m. m.name) modules) ≡ length modules = length-map modules (λ m. m.name) in
    let place : h.0 ≡ k.0 = one_place (map (λ m. m.name) modules) h.0 k.0 apart (omega (arith, h.1)) (omega (arith, k.1)) (name_there modules m h ∙ e ∙ sym (name_there modules n k)) in
    sym h.2 ∙ get_or_default modules h.0 m n h.1 ∙ ap (λ i. get_or modules i n) place ∙ k.2

pub one_flat : (modules : List Module) (top : List ℕ) (flat other : Flat) → FlatDesign modules top flat → FlatDesign modules top other → flat ≡ other
one_flat modules top flat other h k =
    one_module k.found flat other (rw (one_named modules h.found k.found h.distinct h.among k.among (h.named ∙ sym k.named)) at h.stands) k.stands
