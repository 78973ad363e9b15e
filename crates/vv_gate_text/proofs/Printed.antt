-- What is written of a module is cut into the module's tokens.
use Rattle.std.proofs.Common.{◌≡◌, ℕ, ◌<◌, Bool, true, false, List, [], ◌∷◌, ◌++◌, length, map, refl, ap, lit<, arith}
use Rattle.std.proofs.lemmas.List.Elements.{All-from_recursion}
use Rattle.std.proofs.lemmas.List.{append-nil, append_assoc}
use Rattle.std.specs.List.{flat_map, list_all, AllByRecursion}
use Rattle.std.specs.Prelude.{codes, ◌&&◌}
use Rattle.vv_gate_text.specs.Layout.{newline, written_expr, written_item, written_port, written_ports, written_module}
use Rattle.vv_vast.proofs.Cutting.{breaks, Cut, cut_word, cut_sign, cut_space, cut_same}
use Rattle.vv_vast.specs.Grammar.{spelled_bit, spelled_binary, spelled_expr, spelled_item, spelled_direction, spelled_port, spelled_ports, spelled_module, names_of, VerilogText}
use Rattle.vv_vast.specs.Tokens.{is_run_byte, is_sign, run, sized}
use Rattle.vv_vast.specs.Tree.{Bit, bit0, bit1, bitx, bitz, not', Binary, and', or', xor', Expr, literal, name, unary, binary, Item, assign, Direction, input, output, Port, Module, reads, names_of_item}
use Rattle.vv_vast.specs.Words.{IsIdentifier}

abbrev pub Names : List (List ℕ) → Type 0
Names = AllByRecursion IsIdentifier

pub front : (xs ys : List (List ℕ)) → Names (xs ++ ys) → Names xs
front [] ys h = tt
front (x ∷ xs) ys h = (h.0, front xs ys h.1)

pub back : (xs ys : List (List ℕ)) → Names (xs ++ ys) → Names ys
back [] ys h = h
back (x ∷ xs) ys h = back xs ys h.1

-- a sign that no byte makes longer
abbrev IsLone : ℕ → Type 0
IsLone b = (c : ℕ) (xs : List ℕ) → is_sign (b ∷ c ∷ xs) ≡ false

lone : (b : ℕ) {rest : List ℕ} {tokens : List (List ℕ)} → is_sign (b ∷ []) ≡ true → is_run_byte b ≡ false → IsLone b → Cut rest tokens → Cut (b ∷ rest) ((b ∷ []) ∷ tokens)
lone b s r l k = cut_sign b s r (λ c xs ys e. l c xs) k

-- `(`, `)`, `,`, `;` and `~`
open-cut : {rest : List ℕ} {tokens : List (List ℕ)} → Cut rest tokens → Cut (40 ∷ rest) (codes "(" ∷ tokens)
open-cut k = lone 40 refl refl (λ c xs. refl) k

close-cut : {rest : List ℕ} {tokens : List (List ℕ)} → Cut rest tokens → Cut (41 ∷ rest) (codes ")" ∷ tokens)
close-cut k = lone 41 refl refl (λ c xs. refl) k

comma-cut : {rest : List ℕ} {tokens : List (List ℕ)} → Cut rest tokens → Cut (44 ∷ rest) (codes "," ∷ tokens)
comma-cut k = lone 44 refl refl (λ c xs. refl) k

semicolon-cut : {rest : List ℕ} {tokens : List (List ℕ)} → Cut rest tokens → Cut (59 ∷ rest) (codes ";" ∷ tokens)
semicolon-cut k = lone 59 refl refl (λ c xs. refl) k

tilde-cut : {rest : List ℕ} {tokens : List (List ℕ)} → Cut rest tokens → Cut (126 ∷ rest) (codes "~" ∷ tokens)
tilde-cut k = lone 126 refl refl (λ c xs. refl) k

binary-cut : (o : Binary) {rest : List ℕ} {tokens : List (List ℕ)} → Cut rest tokens → Cut (spelled_binary o ++ rest) (spelled_binary o ∷ tokens)
binary-cut and' k = lone 38 refl refl (λ c xs. refl) k
binary-cut or' k = lone 124 refl refl (λ c xs. refl) k
binary-cut xor' k = lone 94 refl refl (λ c xs. refl) k

-- a space and a line feed
space-cut : {rest : List ℕ} {tokens : List (List ℕ)} → Cut rest tokens → Cut (32 ∷ rest) tokens
space-cut k = cut_space 32 refl k

newline-cut : {rest : List ℕ} {tokens : List (List ℕ)} → Cut rest tokens → Cut (10 ∷ rest) tokens
newline-cut k = cut_space 10 refl k

-- `=` with a space behind it
equals-cut : {rest : List ℕ} {tokens : List (List ℕ)} → Cut rest tokens → Cut (61 ∷ 32 ∷ rest) (codes "=" ∷ tokens)
equals-cut k = cut_sign 61 refl refl (λ c xs ys e. alone c xs cc) (space-cut k)
  where
    alone : (c : ℕ) (xs : List ℕ) → c ≡ 32 → is_sign (61 ∷ c ∷ xs) ≡ false
    alone c xs e = ap (λ d. is_sign (61 ∷ d ∷ xs)) e

first : (p q : Bool) → (p && q) ≡ true → p ≡ true
first true q e = refl
first false q e = cc

-- a name
name-cut : (n : List ℕ) {rest : List ℕ} {tokens : List (List ℕ)} → IsIdentifier n → breaks rest ≡ true → Cut rest tokens → Cut (n ++ rest) (n ∷ tokens)
name-cut [] i b k = let z : false ≡ true = i.begins in absurd (nothing z)
  where
    nothing : false ≡ true → ⊥
    nothing e = cc
name-cut (a ∷ n) i b k =
    let some : 0 < length (a ∷ n) = omega arith in
    cut_word (a ∷ n) (run some i.run) (first (is_run_byte a) (list_all is_run_byte n) i.run) b k

bit-cut : (v : Bit) {rest : List ℕ} {tokens : List (List ℕ)} → breaks rest ≡ true → Cut rest tokens → Cut (spelled_bit v ++ rest) (spelled_bit v ∷ tokens)
bit-cut bit0 b k = cut_word (codes "1'b0") (sized (codes "1") (codes "0") (lit< tt) refl refl refl) refl b k
bit-cut bit1 b k = cut_word (codes "1'b1") (sized (codes "1") (codes "1") (lit< tt) refl refl refl) refl b k
bit-cut bitx b k = cut_word (codes "1'bx") (sized (codes "1") (codes "x") (lit< tt) refl refl refl) refl b k
bit-cut bitz b k = cut_word (codes "1'bz") (sized (codes "1") (codes "z") (lit< tt) refl refl refl) refl b k

unary-text : (x rest : List ℕ) → (codes "(" ++ codes "~" ++ x ++ codes ")") ++ rest ≡ 40 ∷ 126 ∷ (x ++ (41 ∷ rest))
unary-text x rest = ap (λ l. 40 ∷ 126 ∷ l) (append_assoc x (codes ")") rest)

unary-tokens : (x tokens : List (List ℕ)) → (codes "(" ∷ codes "~" ∷ x ++ (codes ")" ∷ [])) ++ tokens ≡ codes "(" ∷ codes "~" ∷ (x ++ (codes ")" ∷ tokens))
unary-tokens x tokens = ap (λ l. codes "(" ∷ codes "~" ∷ l) (append_assoc x (codes ")" ∷ []) tokens)

binary-text : (a b s x y rest p : List ℕ) → (a ++ x ++ p ++ s ++ p ++ y ++ b) ++ rest ≡ a ++ (x ++ (p ++ (s ++ (p ++ (y ++ (b ++ rest))))))
binary-text a b s x y rest p = simp append_assoc

binary-tokens : (a b s : List ℕ) (x y tokens : List (List ℕ)) → (a ∷ x ++ (s ∷ y) ++ (b ∷ [])) ++ tokens ≡ a ∷ (x ++ (s ∷ (y ++ (b ∷ tokens))))
binary-tokens a b s x y tokens = simp append_assoc

pub expr-cut : (e : Expr (List ℕ)) {rest : List ℕ} {tokens : List (List ℕ)} → Names (reads e) → breaks rest ≡ true → Cut rest tokens → Cut (written_expr e ++ rest) (spelled_expr e ++ tokens)
expr-cut (literal v) n b k = bit-cut v b k
expr-cut (name t) n b k = name-cut t n.0 b k
expr-cut (unary not' e) {rest = rest} {tokens = tokens} n b k =
    cut_same (unary-text (written_expr e) rest) (unary-tokens (spelled_expr e) tokens) (open-cut (tilde-cut (expr-cut e n refl (close-cut k))))
expr-cut (binary o e g) {rest = rest} {tokens = tokens} n b k =
    let second : Cut (written_expr g ++ (41 ∷ rest)) (spelled_expr g ++ (codes ")" ∷ tokens)) = expr-cut g (back (reads e) (reads g) n) refl (close-cut k) in
    let both : Cut (written_expr e ++ (32 ∷ (spelled_binary o ++ (32 ∷ (written_expr g ++ (41 ∷ rest)))))) (spelled_expr e ++ (spelled_binary o ∷ (spelled_expr g ++ (codes ")" ∷ tokens)))) =
    expr-cut e (front (reads e) (reads g) n) refl (space-cut (binary-cut o (space-cut second))) in
    cut_same (binary-text (codes "(") (codes ")") (spelled_binary o) (written_expr e) (written_expr g) rest (codes " "))
    (binary-tokens (codes "(") (codes ")") (spelled_binary o) (spelled_expr e) (spelled_expr g) tokens) (open-cut both)

item-text : (a n q e s l rest : List ℕ) → (a ++ n ++ q ++ e ++ s ++ l) ++ rest ≡ a ++ (n ++ (q ++ (e ++ (s ++ (l ++ rest)))))
item-text a n q e s l rest = simp append_assoc

item-tokens : (a n q s : List ℕ) (e tokens : List (List ℕ)) → (a ∷ n ∷ q ∷ e ++ (s ∷ [])) ++ tokens ≡ a ∷ n ∷ q ∷ (e ++ (s ∷ tokens))
item-tokens a n q s e tokens = ap (λ l. a ∷ n ∷ q ∷ l) (append_assoc e (s ∷ []) tokens)

item-cut : (i : Item (List ℕ)) {rest : List ℕ} {tokens : List (List ℕ)} → Names (names_of_item i) → Cut rest tokens → Cut (written_item i ++ rest) (spelled_item i ++ tokens)
item-cut (assign t e) {rest = rest} {tokens = tokens} n k =
    let value : Cut (written_expr e ++ (59 ∷ 10 ∷ rest)) (spelled_expr e ++ (codes ";" ∷ tokens)) = expr-cut e n.1 refl (semicolon-cut (newline-cut k)) in
    let target : Cut (t ++ (32 ∷ 61 ∷ 32 ∷ (written_expr e ++ (59 ∷ 10 ∷ rest)))) (t ∷ codes "=" ∷ (spelled_expr e ++ (codes ";" ∷ tokens))) =
    name-cut t n.0 refl (space-cut (equals-cut value)) in
    let keyword : Cut (codes "assign" ++ (32 ∷ (t ++ (32 ∷ 61 ∷ 32 ∷ (written_expr e ++ (59 ∷ 10 ∷ rest)))))) (codes "assign" ∷ t ∷ codes "=" ∷ (spelled_expr e ++ (codes ";" ∷ tokens))) =
    cut_word (codes "assign") (run (lit< tt) refl) refl refl (space-cut target) in
    cut_same (item-text (codes "  assign ") t (codes " = ") (written_expr e) (codes ";") newline rest)
    (item-tokens (codes "assign") t (codes "=") (codes ";") (spelled_expr e) tokens) (space-cut (space-cut keyword))

items-cut : (is : List (Item (List ℕ))) {rest : List ℕ} {tokens : List (List ℕ)} → Names (flat_map names_of_item is) → Cut rest tokens → Cut (flat_map written_item is ++ rest) (flat_map spelled_item is ++ tokens)
items-cut [] n k = k
items-cut (i ∷ is) {rest = rest} {tokens = tokens} n k =
    cut_same (append_assoc (written_item i) (flat_map written_item is) rest) (append_assoc (spelled_item i) (flat_map spelled_item is) tokens)
    (item-cut i (front (names_of_item i) (flat_map names_of_item is) n) (items-cut is (back (names_of_item i) (flat_map names_of_item is) n) k))

port-text : (a d w n rest : List ℕ) → (a ++ d ++ w ++ n) ++ rest ≡ a ++ (d ++ (w ++ (n ++ rest)))
port-text a d w n rest = simp append_assoc

direction-cut : (d : Direction) {rest : List ℕ} {tokens : List (List ℕ)} → breaks rest ≡ true → Cut rest tokens → Cut (spelled_direction d ++ rest) (spelled_direction d ∷ tokens)
direction-cut input b k = cut_word (codes "input") (run (lit< tt) refl) refl b k
direction-cut output b k = cut_word (codes "output") (run (lit< tt) refl) refl b k

port-cut : (p : Port) {rest : List ℕ} {tokens : List (List ℕ)} → IsIdentifier p.name → breaks rest ≡ true → Cut rest tokens → Cut (written_port p ++ rest) (spelled_port p ++ tokens)
port-cut p {rest = rest} {tokens = tokens} n b k =
    let named : Cut (p.name ++ rest) (p.name ∷ tokens) = name-cut p.name n b k in
    let wire : Cut (codes "wire" ++ (32 ∷ (p.name ++ rest))) (codes "wire" ∷ p.name ∷ tokens) = cut_word (codes "wire") (run (lit< tt) refl) refl refl (space-cut named) in
    let directed : Cut (spelled_direction p.direction ++ (32 ∷ (codes "wire" ++ (32 ∷ (p.name ++ rest))))) (spelled_direction p.direction ∷ codes "wire" ∷ p.name ∷ tokens) = direction-cut p.direction refl (space-cut wire) in
    cut_same (port-text (codes "  ") (spelled_direction p.direction) (codes " wire ") p.name rest) refl (space-cut (space-cut directed))

breaks_further : (ps : List Port) (rest : List ℕ) → breaks rest ≡ true → breaks (flat_map (λ q. codes "," ++ newline ++ written_port q) ps ++ rest) ≡ true
breaks_further [] rest b = b
breaks_further (p ∷ ps) rest b = refl

further-cut : (ps : List Port) {rest : List ℕ} {tokens : List (List ℕ)} → Names (map (λ p. p.name) ps) → breaks rest ≡ true → Cut rest tokens
    → Cut (flat_map (λ q. codes "," ++ newline ++ written_port q) ps ++ rest) (flat_map (λ q. codes "," ∷ spelled_port q) ps ++ tokens)
further-cut [] n b k = k
further-cut (p ∷ ps) {rest = rest} {tokens = tokens} n b k =
    let more : Cut (flat_map (λ q. codes "," ++ newline ++ written_port q) ps ++ rest) (flat_map (λ q. codes "," ∷ spelled_port q) ps ++ tokens) = further-cut ps n.1 b k in
    let here : Cut (written_port p ++ (flat_map (λ q. codes "," ++ newline ++ written_port q) ps ++ rest)) (spelled_port p ++ (flat_map (λ q. codes "," ∷ spelled_port q) ps ++ tokens)) =
    port-cut p n.0 (breaks_further ps rest b) more in
    cut_same (append_assoc (codes "," ++ newline ++ written_port p) (flat_map (λ q. codes "," ++ newline ++ written_port q) ps) rest)
    (append_assoc (codes "," ∷ spelled_port p) (flat_map (λ q. codes "," ∷ spelled_port q) ps) tokens) (comma-cut (newline-cut here))

ports-text : (l p q rest : List ℕ) → (l ++ p ++ q ++ l) ++ rest ≡ l ++ (p ++ (q ++ (l ++ rest)))
ports-text l p q rest = simp append_assoc

ports-cut : (ps : List Port) {rest : List ℕ} {tokens : List (List ℕ)} → Names (map (λ p. p.name) ps) → Cut rest tokens → Cut (written_ports ps ++ rest) (spelled_ports ps ++ tokens)
ports-cut [] n k = k
ports-cut (p ∷ ps) {rest = rest} {tokens = tokens} n k =
    let more : Cut (flat_map (λ q. codes "," ++ newline ++ written_port q) ps ++ (10 ∷ rest)) (flat_map (λ q. codes "," ∷ spelled_port q) ps ++ tokens) = further-cut ps n.1 refl (newline-cut k) in
    let here : Cut (written_port p ++ (flat_map (λ q. codes "," ++ newline ++ written_port q) ps ++ (10 ∷ rest))) (spelled_port p ++ (flat_map (λ q. codes "," ∷ spelled_port q) ps ++ tokens)) =
    port-cut p n.0 (breaks_further ps (10 ∷ rest) refl) more in
    cut_same (ports-text newline (written_port p) (flat_map (λ q. codes "," ++ newline ++ written_port q) ps) rest)
    (append_assoc (spelled_port p) (flat_map (λ q. codes "," ∷ spelled_port q) ps) tokens) (newline-cut here)

module-text : (m n a p b l i e : List ℕ) → m ++ n ++ a ++ p ++ b ++ l ++ i ++ e ++ l ≡ m ++ (n ++ (a ++ (p ++ (b ++ (l ++ (i ++ (e ++ l)))))))
module-text m n a p b l i e = simp append_assoc

module-tokens : (m n a b s e : List ℕ) (p i : List (List ℕ)) → (m ∷ n ∷ a ∷ p) ++ (b ∷ s ∷ i) ++ (e ∷ []) ++ [] ≡ m ∷ n ∷ a ∷ (p ++ (b ∷ s ∷ (i ++ (e ∷ []))))
module-tokens m n a b s e p i = rw append-nil (simp append_assoc)

module-cut : (m : Module) → Names (names_of m) → Cut (written_module m) (spelled_module m ++ [])
module-cut m n =
    let port_names = front (map (λ p. p.name) m.ports) (flat_map names_of_item m.items) n.1 in
    let item_names = back (map (λ p. p.name) m.ports) (flat_map names_of_item m.items) n.1 in
    let last : Cut (10 ∷ []) [] = record { cut = refl } in
    let end' : Cut (codes "endmodule" ++ (10 ∷ [])) (codes "endmodule" ∷ []) = cut_word (codes "endmodule") (run (lit< tt) refl) refl refl last in
    let items : Cut (flat_map written_item m.items ++ (codes "endmodule" ++ (10 ∷ []))) (flat_map spelled_item m.items ++ (codes "endmodule" ∷ [])) = items-cut m.items item_names end' in
    let ports : Cut (written_ports m.ports ++ (41 ∷ 59 ∷ 10 ∷ (flat_map written_item m.items ++ (codes "endmodule" ++ (10 ∷ []))))) (spelled_ports m.ports ++ (codes ")" ∷ codes ";" ∷ (flat_map spelled_item m.items ++ (codes "endmodule" ∷ [])))) =
    ports-cut m.ports port_names (close-cut (semicolon-cut (newline-cut items))) in
    let named : Cut (m.name ++ (40 ∷ (written_ports m.ports ++ (41 ∷ 59 ∷ 10 ∷ (flat_map written_item m.items ++ (codes "endmodule" ++ (10 ∷ []))))))) (m.name ∷ codes "(" ∷ (spelled_ports m.ports ++ (codes ")" ∷ codes ";" ∷ (flat_map spelled_item m.items ++ (codes "endmodule" ∷ []))))) =
    name-cut m.name n.0 refl (open-cut ports) in
    cut_same (module-text (codes "module ") m.name (codes "(") (written_ports m.ports) (codes ");") newline (flat_map written_item m.items) (codes "endmodule"))
    (module-tokens (codes "module") m.name (codes "(") (codes ")") (codes ";") (codes "endmodule") (spelled_ports m.ports) (flat_map spelled_item m.items))
    (cut_word (codes "module") (run (lit< tt) refl) refl refl (space-cut named))

nothing-after : (xs : List (List ℕ)) → Names xs → Names (xs ++ [])
nothing-after [] h = tt
nothing-after (x ∷ xs) h = (h.0, nothing-after xs h.1)

-- what is written of a module with names is a text of it
pub written-VerilogText : (m : Module) → Names (names_of m) → VerilogText (m ∷ []) (written_module m)
written-VerilogText m n = record {
  tokens = (module-cut m n).cut;
  names = All-from_recursion IsIdentifier (names_of m ++ []) (nothing-after (names_of m) n);
}
