-- A list of modules is read back from its tokens: each production begins with a token of its own, and what follows it is what is left.
use Rattle.std.proofs.Common.{◌≡◌, ℕ, List, [], ◌∷◌, ◌++◌, map, flat_map, codes, All, refl, sym, ap, ap₂, ◌∙◌, cond, append_assoc}
use Rattle.std.proofs.lemmas.List.Elements.{All-head, All-tail}
use Rattle.std.specs.Str.{bytes_eq}
use Rattle.vv_vast.proofs.OneCut.{one_cut}
use Rattle.vv_vast.proofs.Splits.{first_same, rest_same, none_is_some, apart, All-left, All-right, closed, closed_two}
use Rattle.vv_vast.specs.Grammar.{spelled_bit, spelled_unary, spelled_binary, spelled_expr, spelled_item, spelled_direction, spelled_port, spelled_ports, spelled_module, spelled, names_of, VerilogText}
use Rattle.vv_vast.specs.Tree.{Bit, bit0, bit1, bitx, bitz, Unary, not', Binary, and', or', xor', Expr, literal, name, unary, binary, Item, assign, Direction, input, output, Port, Module, reads, names_of_item}
use Rattle.vv_vast.specs.Words.{begins_identifier, IsIdentifier}

-- what the first token of an expression is
data Kind : Type 0 where
  other : Kind
  word : Kind
  opening : Kind
  operator : Kind

abbrev kind : List ℕ → Kind
kind t = cond (begins_identifier t) word (cond (bytes_eq t (codes "(")) opening (cond (bytes_eq t (codes "~")) operator other))

other_is_no_word : other ≡ word → ⊥
other_is_no_word e = cc

other_is_no_opening : other ≡ opening → ⊥
other_is_no_opening e = cc

opening_is_no_word : opening ≡ word → ⊥
opening_is_no_word e = cc

bit_kind : (b : Bit) → kind (spelled_bit b) ≡ other
bit_kind bit0 = refl
bit_kind bit1 = refl
bit_kind bitx = refl
bit_kind bitz = refl

word_kind : (n : List ℕ) → IsIdentifier n → kind n ≡ word
word_kind n h = ap (λ b. cond b word (cond (bytes_eq n (codes "(")) opening (cond (bytes_eq n (codes "~")) operator other))) h.begins

unary_kind : (o : Unary) → kind (spelled_unary o) ≡ operator
unary_kind not' = refl

bit_of : List ℕ → Bit
bit_of t = cond (bytes_eq t (codes "1'b0")) bit0 (cond (bytes_eq t (codes "1'b1")) bit1 (cond (bytes_eq t (codes "1'bx")) bitx bitz))

bit_back : (b : Bit) → bit_of (spelled_bit b) ≡ b
unfolding bit_of
bit_back bit0 = refl
bit_back bit1 = refl
bit_back bitx = refl
bit_back bitz = refl

one_bit : (b c : Bit) → spelled_bit b ≡ spelled_bit c → b ≡ c
one_bit b c e = sym (bit_back b) ∙ ap bit_of e ∙ bit_back c

one_unary : (o p : Unary) → o ≡ p
one_unary not' not' = refl

binary_of : List ℕ → Binary
binary_of t = cond (bytes_eq t (codes "&")) and' (cond (bytes_eq t (codes "|")) or' xor')

binary_back : (o : Binary) → binary_of (spelled_binary o) ≡ o
unfolding binary_of
binary_back and' = refl
binary_back or' = refl
binary_back xor' = refl

one_binary : (o p : Binary) → spelled_binary o ≡ spelled_binary p → o ≡ p
one_binary o p e = sym (binary_back o) ∙ ap binary_of e ∙ binary_back p

direction_of : List ℕ → Direction
direction_of t = cond (bytes_eq t (codes "input")) input output

direction_back : (d : Direction) → direction_of (spelled_direction d) ≡ d
unfolding direction_of
direction_back input = refl
direction_back output = refl

one_direction : (d k : Direction) → spelled_direction d ≡ spelled_direction k → d ≡ k
one_direction d k e = sym (direction_back d) ∙ ap direction_of e ∙ direction_back k

abbrev Named : Expr (List ℕ) → Type 0
Named e = All IsIdentifier (reads e)

-- the kind of the first token
abbrev first_kind : List (List ℕ) → Kind
first_kind [] = other
first_kind (t ∷ ts) = kind t

-- no expression begins with an operator
no_operator : (e : Expr (List ℕ)) (rest : List (List ℕ)) → Named e → first_kind (spelled_expr e ++ rest) ≡ operator → ⊥
no_operator (literal b) rest h e = let z : other ≡ operator = sym (bit_kind b) ∙ e in cc
no_operator (name n) rest h e = let z : word ≡ operator = sym (word_kind n (All-head IsIdentifier n [] h)) ∙ e in cc
no_operator (unary o e') rest h e = cc
no_operator (binary o e' g) rest h e = cc

-- the two are read alike
abbrev Same : {N : Type 0} → N → N → List (List ℕ) → List (List ℕ) → Type 0
Same x y rest after = (x ≡ y) × (rest ≡ after)

bit_not_word : (b : Bit) (n : List ℕ) (rest after : List (List ℕ)) → Named (name n) → spelled_bit b ∷ rest ≡ n ∷ after → ⊥
bit_not_word b n rest after h e =
    other_is_no_word (sym (bit_kind b) ∙ ap first_kind e ∙ word_kind n (All-head IsIdentifier n [] h))

bit_not_open : (b : Bit) (rest after : List (List ℕ)) → spelled_bit b ∷ rest ≡ codes "(" ∷ after → ⊥
bit_not_open b rest after e = other_is_no_opening (sym (bit_kind b) ∙ ap first_kind e)

open_not_word : (n : List ℕ) (rest after : List (List ℕ)) → Named (name n) → codes "(" ∷ rest ≡ n ∷ after → ⊥
open_not_word n rest after h e = opening_is_no_word (ap first_kind e ∙ word_kind n (All-head IsIdentifier n [] h))

unary_is_no_binary : (u : Unary) (e : Expr (List ℕ)) (o : Binary) (g g' : Expr (List ℕ)) (rest after : List (List ℕ)) → Named (binary o g g') → spelled_expr (unary u e) ++ rest ≡ spelled_expr (binary o g g') ++ after → ⊥
unary_is_no_binary u e o g g' rest after h q =
    no_operator g _ (All-left IsIdentifier (reads g) (reads g') h)
    (ap first_kind (sym (rest_same q ∙ closed_two (spelled_expr g) (spelled_binary o) (spelled_expr g') (codes ")") after)) ∙ unary_kind u)

all_three : {o p : Binary} {e g e' g' : Expr (List ℕ)} → o ≡ p → e ≡ g → e' ≡ g' → binary o e e' ≡ binary p g g'
all_three a b c = cc

one_expr : (e g : Expr (List ℕ)) (rest after : List (List ℕ)) → Named e → Named g → spelled_expr e ++ rest ≡ spelled_expr g ++ after → Same e g rest after
one_expr (literal b) (literal c) rest after h k q = (ap literal (one_bit b c (first_same q)), rest_same q)
one_expr (literal b) (name n) rest after h k q = absurd (bit_not_word b n rest after k q)
one_expr (literal b) (unary o g) rest after h k q = absurd (bit_not_open b rest _ q)
one_expr (literal b) (binary o g g') rest after h k q = absurd (bit_not_open b rest _ q)
one_expr (name n) (literal c) rest after h k q = absurd (bit_not_word c n after rest h (sym q))
one_expr (name n) (name m) rest after h k q = (ap name (first_same q), rest_same q)
one_expr (name n) (unary o g) rest after h k q = absurd (open_not_word n _ rest h (sym q))
one_expr (name n) (binary o g g') rest after h k q = absurd (open_not_word n _ rest h (sym q))
one_expr (unary o e) (literal c) rest after h k q = absurd (bit_not_open c after _ (sym q))
one_expr (unary o e) (name m) rest after h k q = absurd (open_not_word m _ after k q)
one_expr (unary o e) (unary p g) rest after h k q =
    let same = one_expr e g (codes ")" ∷ rest) (codes ")" ∷ after) h k
    (sym (closed (spelled_expr e) (codes ")") rest) ∙ rest_same (rest_same q) ∙ closed (spelled_expr g) (codes ")") after) in
    (ap₂ unary (one_unary o p) same.0, rest_same same.1)
one_expr (unary o e) (binary p g g') rest after h k q = absurd (unary_is_no_binary o e p g g' rest after k q)
one_expr (binary o e e') (literal c) rest after h k q = absurd (bit_not_open c after _ (sym q))
one_expr (binary o e e') (name m) rest after h k q = absurd (open_not_word m _ after k q)
one_expr (binary o e e') (unary p g) rest after h k q = absurd (unary_is_no_binary p g o e e' after rest h (sym q))
one_expr (binary o e e') (binary p g g') rest after h k q =
    let tail : spelled_expr e ++ (spelled_binary o ∷ (spelled_expr e' ++ (codes ")" ∷ rest))) ≡ spelled_expr g ++ (spelled_binary p ∷ (spelled_expr g' ++ (codes ")" ∷ after))) =
    sym (closed_two (spelled_expr e) (spelled_binary o) (spelled_expr e') (codes ")") rest) ∙ rest_same q ∙ closed_two (spelled_expr g) (spelled_binary p) (spelled_expr g') (codes ")") after in
    let left = one_expr e g _ _ (All-left IsIdentifier (reads e) (reads e') h) (All-left IsIdentifier (reads g) (reads g') k) tail in
    let right = one_expr e' g' _ _ (All-right IsIdentifier (reads e) (reads e') h) (All-right IsIdentifier (reads g) (reads g') k) (rest_same left.1) in
    (all_three (one_binary o p (first_same left.1)) left.0 right.0, rest_same right.1)

pub one_item : (i j : Item (List ℕ)) (rest after : List (List ℕ)) → All IsIdentifier (names_of_item i) → All IsIdentifier (names_of_item j) → spelled_item i ++ rest ≡ spelled_item j ++ after → Same i j rest after
one_item (assign n e) (assign m g) rest after h k q =
    let tail = rest_same q in
    let same = one_expr e g (codes ";" ∷ rest) (codes ";" ∷ after) (All-tail IsIdentifier n (reads e) h) (All-tail IsIdentifier m (reads g) k)
    (sym (closed (spelled_expr e) (codes ";") rest) ∙ rest_same (rest_same tail) ∙ closed (spelled_expr g) (codes ";") after) in
    (ap₂ assign (first_same tail) same.0, rest_same same.1)

no_item : (i : Item (List ℕ)) (is : List (Item (List ℕ))) (rest after : List (List ℕ)) → flat_map spelled_item (i ∷ is) ++ rest ≡ codes "endmodule" ∷ after → ⊥
no_item (assign n e) is rest after q = apart (codes "assign") (codes "endmodule") refl refl (first_same q)

one_items : (is js : List (Item (List ℕ))) (rest after : List (List ℕ)) → All IsIdentifier (flat_map names_of_item is) → All IsIdentifier (flat_map names_of_item js)
    → flat_map spelled_item is ++ (codes "endmodule" ∷ rest) ≡ flat_map spelled_item js ++ (codes "endmodule" ∷ after) → Same is js rest after
one_items [] [] rest after h k q = (refl, rest_same q)
one_items [] (j ∷ js) rest after h k q = absurd (no_item j js _ rest (sym q))
one_items (i ∷ is) [] rest after h k q = absurd (no_item i is _ after q)
one_items (i ∷ is) (j ∷ js) rest after h k q =
    let head = one_item i j (flat_map spelled_item is ++ (codes "endmodule" ∷ rest)) (flat_map spelled_item js ++ (codes "endmodule" ∷ after))
    (All-left IsIdentifier (names_of_item i) (flat_map names_of_item is) h) (All-left IsIdentifier (names_of_item j) (flat_map names_of_item js) k)
    (sym (append_assoc (spelled_item i) (flat_map spelled_item is) _) ∙ q ∙ append_assoc (spelled_item j) (flat_map spelled_item js) _) in
    let tail = one_items is js rest after (All-right IsIdentifier (names_of_item i) (flat_map names_of_item is) h) (All-right IsIdentifier (names_of_item j) (flat_map names_of_item js) k) head.1 in
    (ap₂ (λ x xs. x ∷ xs) head.0 tail.0, tail.1)

one_port : (p q : Port) (rest after : List (List ℕ)) → spelled_port p ++ rest ≡ spelled_port q ++ after → Same p q rest after
one_port p q rest after e =
    (ap₂ (λ d n. record { direction = d; name = n }) (one_direction p.direction q.direction (first_same e)) (first_same (rest_same (rest_same e))), rest_same (rest_same (rest_same e)))

abbrev further : List Port → List (List ℕ)
further ps = flat_map (λ q. codes "," ∷ spelled_port q) ps

comma_is_no_end : codes "," ≡ codes ")" → ⊥
comma_is_no_end e = apart (codes ",") (codes ")") refl refl e

-- one port more on both sides
more_ports : (p q : Port) (ps qs : List Port) (one two rest after : List (List ℕ)) → (one ≡ two → Same ps qs rest after) → spelled_port p ++ one ≡ spelled_port q ++ two → Same (p ∷ ps) (q ∷ qs) rest after
more_ports p q ps qs one two rest after others e =
    let head = one_port p q one two e in
    let tail = others head.1 in
    (ap₂ (λ x xs. x ∷ xs) head.0 tail.0, tail.1)

one_further : (ps qs : List Port) (rest after : List (List ℕ)) → further ps ++ (codes ")" ∷ rest) ≡ further qs ++ (codes ")" ∷ after) → Same ps qs rest after
one_further [] [] rest after e = (refl, rest_same e)
one_further [] (q ∷ qs) rest after e = absurd (comma_is_no_end (sym (first_same e)))
one_further (p ∷ ps) [] rest after e = absurd (comma_is_no_end (first_same e))
one_further (p ∷ ps) (q ∷ qs) rest after e =
    more_ports p q ps qs (further ps ++ (codes ")" ∷ rest)) (further qs ++ (codes ")" ∷ after)) rest after (λ t. one_further ps qs rest after t) (rest_same e)

no_port : (d : Direction) → spelled_direction d ≡ codes ")" → ⊥
no_port input e = apart (codes "input") (codes ")") refl refl e
no_port output e = apart (codes "output") (codes ")") refl refl e

one_ports : (ps qs : List Port) (rest after : List (List ℕ)) → spelled_ports ps ++ (codes ")" ∷ rest) ≡ spelled_ports qs ++ (codes ")" ∷ after) → Same ps qs rest after
one_ports [] [] rest after e = (refl, rest_same e)
one_ports [] (q ∷ qs) rest after e = absurd (no_port q.direction (sym (first_same e)))
one_ports (p ∷ ps) [] rest after e = absurd (no_port p.direction (first_same e))
one_ports (p ∷ ps) (q ∷ qs) rest after e =
    more_ports p q ps qs (further ps ++ (codes ")" ∷ rest)) (further qs ++ (codes ")" ∷ after)) rest after (λ t. one_further ps qs rest after t) e

item_names : (m : Module) → All IsIdentifier (names_of m) → All IsIdentifier (flat_map names_of_item m.items)
item_names m h = All-right IsIdentifier (m.name ∷ map (λ p. p.name) m.ports) (flat_map names_of_item m.items) h

abbrev module_of : List ℕ → List Port → List (Item (List ℕ)) → Module
module_of n ps is = record { name = n; ports = ps; items = is }

whole : {x y : List ℕ} {ps qs : List Port} {is js : List (Item (List ℕ))} → x ≡ y → ps ≡ qs → is ≡ js → module_of x ps is ≡ module_of y qs js
whole {y = y} {ps = ps} {qs = qs} {is = is} a b c = ap (λ n. module_of n ps is) a ∙ ap (λ l. module_of y l is) b ∙ ap (λ l. module_of y qs l) c

one_module : (m n : Module) (rest after : List (List ℕ)) → All IsIdentifier (names_of m) → All IsIdentifier (names_of n) → spelled_module m ++ rest ≡ spelled_module n ++ after → Same m n rest after
one_module m n rest after h k q =
    let body = rest_same (rest_same (rest_same q)) in
    let ports = one_ports m.ports n.ports _ _
    (sym (closed_two (spelled_ports m.ports) (codes ")") (codes ";" ∷ flat_map spelled_item m.items) (codes "endmodule") rest) ∙ body
    ∙ closed_two (spelled_ports n.ports) (codes ")") (codes ";" ∷ flat_map spelled_item n.items) (codes "endmodule") after) in
    let items = one_items m.items n.items rest after (item_names m h) (item_names n k) (rest_same ports.1) in
    (whole (first_same (rest_same q)) ports.0 items.0, items.1)

pub one_tree : (modules others : List Module) → All IsIdentifier (flat_map names_of modules) → All IsIdentifier (flat_map names_of others) → spelled modules ≡ spelled others → modules ≡ others
one_tree [] [] h k q = refl
one_tree [] (n ∷ others) h k q = absurd (none_is_some q)
one_tree (m ∷ modules) [] h k q = absurd (none_is_some (sym q))
one_tree (m ∷ modules) (n ∷ others) h k q =
    let head = one_module m n (spelled modules) (spelled others) (All-left IsIdentifier (names_of m) (flat_map names_of modules) h) (All-left IsIdentifier (names_of n) (flat_map names_of others) k) q in
    ap₂ (λ x xs. x ∷ xs) head.0
    (one_tree modules others (All-right IsIdentifier (names_of m) (flat_map names_of modules) h) (All-right IsIdentifier (names_of n) (flat_map names_of others) k) head.1)

pub one_text : (modules others : List Module) (text : List ℕ) → VerilogText modules text → VerilogText others text → modules ≡ others
one_text modules others text h k = one_tree modules others h.names k.names (one_cut text (spelled modules) (spelled others) h.tokens k.tokens)
