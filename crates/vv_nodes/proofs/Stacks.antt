-- Values that are put on a stack, and nodes that are made of the newest ones.
use Rattle.std.proofs.Common.{◌≡◌, ℕ, List, [], ◌∷◌, ◌++◌, length, map, reverse, refl, sym, ap, ◌∙◌}
use Rattle.std.proofs.lemmas.List.{map-append, reverse-append, length-map}
use Rattle.vv_base.specs.declared.fault.Span.{Span}
use Rattle.vv_grammar.specs.Trees.{Tree, Trees, node, none, more, joined, up_to, start, starts, node_of, opened_of}
use Rattle.vv_grammar.specs.declared.form.Form.{Form}
use Rattle.vv_nodes.specs.Nodes.{trees, node_tree, nodes_trees, value_tree}
use Rattle.vv_nodes.specs.declared.node.Node.{Node}
use Rattle.vv_nodes.specs.declared.values.Value.{Value}

pub newest_push : (vs : List Value) (v : Value) → reverse (map value_tree (vs ++ v ∷ [])) ≡ value_tree v ∷ reverse (map value_tree vs)
newest_push vs v = rw (map-append value_tree vs (v ∷ []), reverse-append (map value_tree vs) (value_tree v ∷ [])) refl

joined_none : (ts : Trees) → joined ts none ≡ ts
joined_none none = refl
joined_none (more t ts) = ap (λ (x : Trees). more t x) (joined_none ts)

trees_last : (xs : List Tree) (x : Tree) (ts : Trees) → joined (trees (xs ++ x ∷ [])) ts ≡ joined (trees xs) (more x ts)
trees_last [] x ts = refl
trees_last (y ∷ xs) x ts = ap (λ (z : Trees). more y z) (trees_last xs x ts)

-- a node of some parts before others
made_node : Form → Span → Trees → List Tree → List Tree
made_node f last ts V = node f ts (up_to last (starts ts last.at)) ∷ V

node-onto : (xs : List Tree) (f : Form) (last : Span) (ts : Trees) (V : List Tree) → node_of (length xs) f last ts (xs ++ V) ≡ made_node f last (joined (trees (reverse xs)) ts) V
unfolding made_node
node-onto [] f last ts V = refl
node-onto (x ∷ xs) f last ts V =
    node-onto xs f last (more x ts) V
    ∙ ap (λ (z : Trees). made_node f last z V) (sym (trees_last (reverse xs) x ts) ∙ ap (λ (z : List Tree). joined (trees z) ts) (sym (reverse-append (x ∷ []) xs)))

pub node_made : (xs : List Tree) (f : Form) (last : Span) (V : List Tree)
    → node_of (length xs) f last none (xs ++ V) ≡ node f (trees (reverse xs)) (up_to last (starts (trees (reverse xs)) last.at)) ∷ V
unfolding made_node
node_made xs f last V = node-onto xs f last none V ∙ ap (λ (z : Trees). made_node f last z V) (joined_none (trees (reverse xs)))

made_opened : Form → Span → Tree → List Tree → Trees → List Tree
made_opened f last t V ts = node f ts (up_to last (start t last.at)) ∷ V

opened-onto : (xs : List Tree) (f : Form) (last : Span) (t : Tree) (ts : Trees) (V : List Tree)
    → opened_of (length xs) f last ts (xs ++ (t ∷ V)) ≡ made_opened f last t V (joined (trees (reverse xs)) ts)
unfolding made_opened
opened-onto [] f last t ts V = refl
opened-onto (x ∷ xs) f last t ts V =
    opened-onto xs f last t (more x ts) V
    ∙ ap (made_opened f last t V) (sym (trees_last (reverse xs) x ts) ∙ ap (λ (z : List Tree). joined (trees z) ts) (sym (reverse-append (x ∷ []) xs)))

pub opened_made : (xs : List Tree) (f : Form) (last : Span) (t : Tree) (V : List Tree)
    → opened_of (length xs) f last none (xs ++ (t ∷ V)) ≡ node f (trees (reverse xs)) (up_to last (start t last.at)) ∷ V
unfolding made_opened
opened_made xs f last t V = opened-onto xs f last t none V ∙ ap (made_opened f last t V) (joined_none (trees (reverse xs)))

pub nodes_push : (ns : List Node) (n : Node) → nodes_trees (ns ++ n ∷ []) ≡ joined (nodes_trees ns) (more (node_tree n) none)
nodes_push ns n = ap trees (map-append node_tree ns (n ∷ [])) ∙ sym (joined_none (trees (map node_tree ns ++ node_tree n ∷ []))) ∙ trees_last (map node_tree ns) (node_tree n) none

-- one more of the values is taken
pub taken_push : (ns : List Node) (n : Node) (V : List Tree) → map node_tree (ns ++ n ∷ []) ++ V ≡ map node_tree ns ++ (node_tree n ∷ V)
taken_push [] n V = refl
taken_push (m ∷ ns) n V = ap (λ (z : List Tree). node_tree m ∷ z) (taken_push ns n V)

map_reverse : (ns : List Node) → map node_tree (reverse ns) ≡ reverse (map node_tree ns)
map_reverse [] = refl
map_reverse (n ∷ ns) =
    ap (map node_tree) (reverse-append (n ∷ []) ns)
    ∙ map-append node_tree (reverse ns) (n ∷ [])
    ∙ ap (λ (z : List Tree). z ++ node_tree n ∷ []) (map_reverse ns)
    ∙ sym (reverse-append (node_tree n ∷ []) (map node_tree ns))

-- a node of the values that were taken
pub parts_made : (newest parts : List Node) (count : ℕ) (f : Form) (last : Span) (V W : List Tree) (at : ℕ) (span : Span) (t : Tree)
    → length newest ≡ count → V ≡ map node_tree newest ++ W → parts ≡ reverse newest → at ≡ starts (nodes_trees parts) last.at → span ≡ up_to last at
    → t ≡ node f (nodes_trees parts) span → node_of count f last none V ≡ t ∷ W
parts_made newest parts count f last V W at span t l v p a s n =
    rw (n, s, a, p, v, sym l, sym (length-map newest node_tree))
    (node_made (map node_tree newest) f last W
    ∙ ap (λ (z : List Tree). node f (trees z) (up_to last (starts (trees z) last.at)) ∷ W) (sym (map_reverse newest)))

-- a node of the values that were taken, behind the one that opens it
pub opening_made : (newest parts : List Node) (count : ℕ) (f : Form) (last : Span) (V U W : List Tree) (opening : Tree) (at : ℕ) (span : Span) (t : Tree)
    → length newest ≡ count → V ≡ map node_tree newest ++ U → parts ≡ reverse newest → U ≡ opening ∷ W → at ≡ start opening last.at → span ≡ up_to last at
    → t ≡ node f (nodes_trees parts) span → opened_of count f last none V ≡ t ∷ W
opening_made newest parts count f last V U W opening at span t l v p u a s n =
    rw (n, s, a, p, v, u, sym l, sym (length-map newest node_tree))
    (opened_made (map node_tree newest) f last opening W
    ∙ ap (λ (z : List Tree). node f (trees z) (up_to last (start opening last.at)) ∷ W) (sym (map_reverse newest)))
