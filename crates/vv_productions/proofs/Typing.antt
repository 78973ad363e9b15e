-- What phrases leave on the stack of values: a list, or any tree.
use Rattle.std.proofs.Common.{◌≡◌, ℕ, zero, suc, Bool, true, false, ◌&&◌, List, [], ◌∷◌, ◌++◌, Option, Some, None, refl, sym, ap, subst, append_assoc}
use Rattle.std.proofs.lemmas.Bool.{false≢true, and_parts}
use Rattle.vv_base.specs.declared.fault.Span.{Span}
use Rattle.vv_grammar.specs.declared.form.Form.{Form}
use Rattle.vv_grammar.specs.declared.terminal.Terminal.{Terminal}
use Rattle.vv_grammar.specs.Trees.{Tree, Trees, leaf, node, list, absent, none, more, shape_of, node_of, opened_of, by_shape, make}
use Rattle.vv_productions.specs.Phrases as p
use Rattle.vv_productions.specs.Phrases.{Production, Phrase, skip, keep, rule, ◌▸◌, ◌or◌, option, many}
use Rattle.vv_grammar.specs.declared.shape.Shape.{Shape}
use Rattle.vv_grammar.specs.declared.shape.Shape.TheVariants as shape

pub data Value : Type 0 where
  a_list : Value
  a_tree : Value

abbrev pub IsValue : Value → Tree → Type 0
IsValue a_list (list ts) = Unit {0}
IsValue a_list (leaf t) = ⊥
IsValue a_list (node f ts s) = ⊥
IsValue a_list absent = ⊥
IsValue a_tree t = Unit {0}

abbrev pub AreValues : List Value → List Tree → Type 0
AreValues [] [] = Unit {0}
AreValues [] (t ∷ V) = ⊥
AreValues (k ∷ ks) [] = ⊥
AreValues (k ∷ ks) (t ∷ V) = IsValue k t × AreValues ks V

-- a list is a tree
abbrev pub suits : Value → Value → Bool
suits a_list k = true
suits a_tree a_tree = true
suits a_tree a_list = false

abbrev pub suit : List Value → List Value → Bool
suit [] [] = true
suit (k ∷ ks) (l ∷ ls) = suits k l && suit ks ls
suit _ _ = false

abbrev pub without_first : ℕ → List Value → Option (List Value)
without_first zero ks = Some ks
without_first (suc n) [] = None
without_first (suc n) (k ∷ ks) = without_first n ks

abbrev pub tree_on : Option (List Value) → Option (List Value)
tree_on None = None
tree_on (Some ks) = Some (a_tree ∷ ks)

-- what a form leaves
abbrev pub formed : Shape → List Value → Option (List Value)
formed shape.Absent ks = Some (a_tree ∷ ks)
formed shape.Empty ks = Some (a_list ∷ ks)
formed shape.Add (k ∷ a_list ∷ ks) = Some (a_list ∷ ks)
formed shape.Add _ = None
formed shape.One (k ∷ ks) = Some (a_list ∷ ks)
formed shape.One [] = None
formed shape.Same ks = Some ks
formed shape.Bare (k ∷ ks) = Some (a_tree ∷ ks)
formed shape.Bare [] = None
formed (shape.Parts n) ks = tree_on (without_first n ks)
formed (shape.Opened n) ks = tree_on (without_first (suc n) ks)

abbrev pub IsSome_values : Option (List Value) → Type 0
IsSome_values None = ⊥
IsSome_values (Some ks) = Unit {0}

abbrev pub OnValues : Option (List Value) → List Tree → Type 0
OnValues None V = Unit {0}
OnValues (Some ks) V = AreValues ks V

node-values : (n : ℕ) (f : Form) (last : Span) (ts : Trees) (ks : List Value) (V : List Tree) → AreValues ks V → OnValues (tree_on (without_first n ks)) (node_of n f last ts V)
node-values zero f last ts ks V h = (tt, h)
node-values (suc n) f last ts [] V h = tt
node-values (suc n) f last ts (k ∷ ks) [] h = absurd h
node-values (suc n) f last ts (k ∷ ks) (t ∷ V) h = node-values n f last (more t ts) ks V h.1

opened-values : (n : ℕ) (f : Form) (last : Span) (ts : Trees) (ks : List Value) (V : List Tree) → AreValues ks V → OnValues (tree_on (without_first (suc n) ks)) (opened_of n f last ts V)
opened-values zero f last ts [] V h = tt
opened-values zero f last ts (k ∷ ks) [] h = absurd h
opened-values zero f last ts (k ∷ ks) (t ∷ V) h = (tt, h.1)
opened-values (suc n) f last ts [] V h = tt
opened-values (suc n) f last ts (k ∷ ks) [] h = absurd h
opened-values (suc n) f last ts (k ∷ ks) (t ∷ V) h = opened-values n f last (more t ts) ks V h.1

shape-values : (s : Shape) (f : Form) (last : Span) (ks : List Value) (V : List Tree) → AreValues ks V → OnValues (formed s ks) (by_shape s f last V)
shape-values shape.Absent f last ks V h = (tt, h)
shape-values shape.Empty f last ks V h = (tt, h)
shape-values shape.Add f last [] V h = tt
shape-values shape.Add f last (k ∷ []) V h = tt
shape-values shape.Add f last (k ∷ a_tree ∷ ks) V h = tt
shape-values shape.Add f last (k ∷ a_list ∷ ks) [] h = absurd h
shape-values shape.Add f last (k ∷ a_list ∷ ks) (t ∷ []) h = absurd h.1
shape-values shape.Add f last (k ∷ a_list ∷ ks) (t ∷ leaf x ∷ V) h = absurd h.1.0
shape-values shape.Add f last (k ∷ a_list ∷ ks) (t ∷ node g ts s ∷ V) h = absurd h.1.0
shape-values shape.Add f last (k ∷ a_list ∷ ks) (t ∷ absent ∷ V) h = absurd h.1.0
shape-values shape.Add f last (k ∷ a_list ∷ ks) (t ∷ list ts ∷ V) h = (tt, h.1.1)
shape-values shape.One f last [] V h = tt
shape-values shape.One f last (k ∷ ks) [] h = absurd h
shape-values shape.One f last (k ∷ ks) (t ∷ V) h = (tt, h.1)
shape-values shape.Same f last ks V h = h
shape-values shape.Bare f last [] V h = tt
shape-values shape.Bare f last (k ∷ ks) [] h = absurd h
shape-values shape.Bare f last (k ∷ ks) (t ∷ V) h = (tt, h.1)
shape-values (shape.Parts n) f last ks V h = node-values n f last none ks V h
shape-values (shape.Opened n) f last ks V h = opened-values n f last none ks V h

pub make-values : (f : Form) (last : Span) (ks ls : List Value) (V : List Tree) → formed (shape_of f) ks ≡ Some ls → AreValues ks V → AreValues ls (make f last V)
make-values f last ks ls V h v = subst (λ (o : Option (List Value)). OnValues o (make f last V)) h (shape-values (shape_of f) f last ks V v)

-- lists of values that suit
suits-values : (k l : Value) (t : Tree) → suits k l ≡ true → IsValue k t → IsValue l t
suits-values a_list a_list t h v = v
suits-values a_list a_tree t h v = tt
suits-values a_tree a_tree t h v = tt
suits-values a_tree a_list t h v = absurd (false≢true h)

pub suit-values : (ks ls : List Value) (V : List Tree) → suit ks ls ≡ true → AreValues ks V → AreValues ls V
suit-values [] [] V h v = v
suit-values [] (l ∷ ls) V h v = absurd (false≢true h)
suit-values (k ∷ ks) [] V h v = absurd (false≢true h)
suit-values (k ∷ ks) (l ∷ ls) [] h v = absurd v
suit-values (k ∷ ks) (l ∷ ls) (t ∷ V) h v = let b = and_parts (suits k l) (suit ks ls) h in (suits-values k l t b.0 v.0, suit-values ks ls V b.1 v.1)

suits-self : (k : Value) → suits k k ≡ true
suits-self a_list = refl
suits-self a_tree = refl

both-true : (a b : Bool) → a ≡ true → b ≡ true → (a && b) ≡ true
both-true true b h k = k
both-true false b h k = absurd (false≢true h)

pub suit-self : (ks : List Value) → suit ks ks ≡ true
suit-self [] = refl
suit-self (k ∷ ks) = both-true (suits k k) (suit ks ks) (suits-self k) (suit-self ks)

suits-on : (a b c : Value) → suits a b ≡ true → suits b c ≡ true → suits a c ≡ true
suits-on a_list b c h k = refl
suits-on a_tree a_tree c h k = k
suits-on a_tree a_list c h k = absurd (false≢true h)

pub suit-on : (xs ys zs : List Value) → suit xs ys ≡ true → suit ys zs ≡ true → suit xs zs ≡ true
suit-on [] [] zs h k = k
suit-on [] (b ∷ ys) zs h k = absurd (false≢true h)
suit-on (a ∷ xs) [] zs h k = absurd (false≢true h)
suit-on (a ∷ xs) (b ∷ ys) [] h k = absurd (false≢true k)
suit-on (a ∷ xs) (b ∷ ys) (c ∷ zs) h k =
    let x = and_parts (suits a b) (suit xs ys) h in
    let y = and_parts (suits b c) (suit ys zs) k in
    both-true (suits a c) (suit xs zs) (suits-on a b c x.0 y.0) (suit-on xs ys zs x.1 y.1)

pub suit-append : (ks ls ms : List Value) → suit ks ls ≡ true → suit (ks ++ ms) (ls ++ ms) ≡ true
suit-append [] [] ms h = suit-self ms
suit-append [] (l ∷ ls) ms h = absurd (false≢true h)
suit-append (k ∷ ks) [] ms h = absurd (false≢true h)
suit-append (k ∷ ks) (l ∷ ls) ms h =
    let x = and_parts (suits k l) (suit ks ls) h in both-true (suits k l) (suit (ks ++ ms) (ls ++ ms)) x.0 (suit-append ks ls ms x.1)

-- what a production leaves
abbrev pub leaves : Production → List Value
leaves p.generics = a_list ∷ []
leaves p.ports = a_list ∷ []
leaves p.generate_rest = a_tree ∷ a_list ∷ a_list ∷ []
leaves p.loop_body = a_tree ∷ a_list ∷ []
leaves _ = a_tree ∷ []

-- Before these values a phrase leaves those.
pub data Typed : Phrase → List Value → List Value → Type 0 where
  y_skip : (w : Terminal) (ks : List Value) → Typed (skip w) ks ks
  y_keep : (w : Terminal) (ks : List Value) → Typed (keep w) ks (a_tree ∷ ks)
  y_make : (f : Form) (ks ls : List Value) → formed (shape_of f) ks ≡ Some ls → Typed (p.make f) ks ls
  y_rule : (q : Production) (ks : List Value) → Typed (rule q) ks (leaves q ++ ks)
  y_both : (a b : Phrase) (ks ls ms : List Value) → Typed a ks ls → Typed b ls ms → Typed (a ▸ b) ks ms
  y_or : (a b : Phrase) (ks ls ms ns : List Value) → Typed a ks ls → Typed b ks ms → suit ls ns ≡ true → suit ms ns ≡ true → Typed (a or b) ks ns
  y_option : (a : Phrase) (ks ls ns : List Value) → Typed a ks ls → suit ls ns ≡ true → suit ks ns ≡ true → Typed (option a) ks ns
  y_many : (a : Phrase) (ks ls : List Value) → Typed a ks ls → suit ls ks ≡ true → Typed (many a) ks ks

abbrev pub appended : List Value → Option (List Value) → Option (List Value)
appended rs None = None
appended rs (Some ks) = Some (ks ++ rs)

without-append : (n : ℕ) (ks ls rs : List Value) → tree_on (without_first n ks) ≡ Some ls → tree_on (without_first n (ks ++ rs)) ≡ Some (ls ++ rs)
without-append zero ks ls rs h = ap (appended rs) h
without-append (suc n) [] ls rs h = absurd (subst IsSome_values (sym h) tt)
without-append (suc n) (k ∷ ks) ls rs h = without-append n ks ls rs h

formed-append : (s : Shape) (ks ls rs : List Value) → formed s ks ≡ Some ls → formed s (ks ++ rs) ≡ Some (ls ++ rs)
formed-append shape.Absent ks ls rs h = ap (appended rs) h
formed-append shape.Empty ks ls rs h = ap (appended rs) h
formed-append shape.Add [] ls rs h = absurd (subst IsSome_values (sym h) tt)
formed-append shape.Add (k ∷ []) ls rs h = absurd (subst IsSome_values (sym h) tt)
formed-append shape.Add (k ∷ a_tree ∷ ks) ls rs h = absurd (subst IsSome_values (sym h) tt)
formed-append shape.Add (k ∷ a_list ∷ ks) ls rs h = ap (appended rs) h
formed-append shape.One [] ls rs h = absurd (subst IsSome_values (sym h) tt)
formed-append shape.One (k ∷ ks) ls rs h = ap (appended rs) h
formed-append shape.Same ks ls rs h = ap (appended rs) h
formed-append shape.Bare [] ls rs h = absurd (subst IsSome_values (sym h) tt)
formed-append shape.Bare (k ∷ ks) ls rs h = ap (appended rs) h
formed-append (shape.Parts n) ks ls rs h = without-append n ks ls rs h
formed-append (shape.Opened n) ks ls rs h = without-append (suc n) ks ls rs h

-- values below don't matter
pub typed-append : (a : Phrase) (ks ls rs : List Value) → Typed a ks ls → Typed a (ks ++ rs) (ls ++ rs)
typed-append _ _ _ rs (y_skip w ks) = y_skip w (ks ++ rs)
typed-append _ _ _ rs (y_keep w ks) = y_keep w (ks ++ rs)
typed-append _ _ _ rs (y_make f ks ls h) = y_make f (ks ++ rs) (ls ++ rs) (formed-append (shape_of f) ks ls rs h)
typed-append _ _ _ rs (y_rule q ks) = subst (Typed (rule q) (ks ++ rs)) (sym (append_assoc (leaves q) ks rs)) (y_rule q (ks ++ rs))
typed-append _ _ _ rs (y_both a b ks ls ms x y) = y_both a b (ks ++ rs) (ls ++ rs) (ms ++ rs) (typed-append a ks ls rs x) (typed-append b ls ms rs y)
typed-append _ _ _ rs (y_or a b ks ls ms ns x y h k) =
    y_or a b (ks ++ rs) (ls ++ rs) (ms ++ rs) (ns ++ rs) (typed-append a ks ls rs x) (typed-append b ks ms rs y) (suit-append ls ns rs h) (suit-append ms ns rs k)
typed-append _ _ _ rs (y_option a ks ls ns x h k) = y_option a (ks ++ rs) (ls ++ rs) (ns ++ rs) (typed-append a ks ls rs x) (suit-append ls ns rs h) (suit-append ks ns rs k)
typed-append _ _ _ rs (y_many a ks ls x h) = y_many a (ks ++ rs) (ls ++ rs) (typed-append a ks ls rs x) (suit-append ls ks rs h)

-- the values that two ways leave alike
abbrev pub common : List Value → List Value → List Value
common [] ls = []
common (k ∷ ks) [] = []
common (a_list ∷ ks) (a_list ∷ ls) = a_list ∷ common ks ls
common (a_list ∷ ks) (a_tree ∷ ls) = a_tree ∷ common ks ls
common (a_tree ∷ ks) (l ∷ ls) = a_tree ∷ common ks ls

abbrev pub if_both : Bool → List Value → Option (List Value)
if_both true ks = Some ks
if_both false ks = None

abbrev pub then_both : Option (List Value) → Option (List Value) → Option (List Value)
then_both (Some ls) (Some ms) = if_both (suit ls (common ls ms) && suit ms (common ls ms)) (common ls ms)
then_both _ _ = None

abbrev pub then_many : List Value → Option (List Value) → Option (List Value)
then_many ks None = None
then_many ks (Some ls) = if_both (suit ls ks) ks

abbrev pub then_next : (List Value → Option (List Value)) → Option (List Value) → Option (List Value)
then_next f None = None
then_next f (Some ls) = f ls

-- what a phrase leaves, if it finds what it wants
abbrev pub effect : Phrase → List Value → Option (List Value)
effect (skip w) ks = Some ks
effect (keep w) ks = Some (a_tree ∷ ks)
effect (p.make f) ks = formed (shape_of f) ks
effect (rule q) ks = Some (leaves q ++ ks)
effect (a ▸ b) ks = then_next (λ ls. effect b ls) (effect a ks)
effect (a or b) ks = then_both (effect a ks) (effect b ks)
effect (option a) ks = then_both (effect a ks) (Some ks)
effect (many a) ks = then_many ks (effect a ks)

abbrev pub Has : Phrase → List Value → Option (List Value) → Type 0
Has a ks None = Unit {0}
Has a ks (Some ls) = Typed a ks ls

next-has : (a b : Phrase) (ks : List Value) (o : Option (List Value)) → Has a ks o → ((ls : List Value) → Has b ls (effect b ls)) → Has (a ▸ b) ks (then_next (λ ls. effect b ls) o)
next-has a b ks None h f = tt
next-has a b ks (Some ls) h f = go (effect b ls) (f ls)
  where
    go : (o : Option (List Value)) → Has b ls o → Has (a ▸ b) ks o
    go None g = tt
    go (Some ms) g = y_both a b ks ls ms h g

or-has : (a b : Phrase) (ks : List Value) (o r : Option (List Value)) → Has a ks o → Has b ks r → Has (a or b) ks (then_both o r)
or-has a b ks None r h g = tt
or-has a b ks (Some ls) None h g = tt
or-has a b ks (Some ls) (Some ms) h g = go (suit ls (common ls ms) && suit ms (common ls ms)) refl
  where
    go : (t : Bool) → (suit ls (common ls ms) && suit ms (common ls ms)) ≡ t → Has (a or b) ks (if_both t (common ls ms))
    go true k = let x = and_parts (suit ls (common ls ms)) (suit ms (common ls ms)) k in y_or a b ks ls ms (common ls ms) h g x.0 x.1
    go false k = tt

option-has : (a : Phrase) (ks : List Value) (o : Option (List Value)) → Has a ks o → Has (option a) ks (then_both o (Some ks))
option-has a ks None h = tt
option-has a ks (Some ls) h = go (suit ls (common ls ks) && suit ks (common ls ks)) refl
  where
    go : (t : Bool) → (suit ls (common ls ks) && suit ks (common ls ks)) ≡ t → Has (option a) ks (if_both t (common ls ks))
    go true k = let x = and_parts (suit ls (common ls ks)) (suit ks (common ls ks)) k in y_option a ks ls (common ls ks) h x.0 x.1
    go false k = tt

many-has : (a : Phrase) (ks : List Value) (o : Option (List Value)) → Has a ks o → Has (many a) ks (then_many ks o)
many-has a ks None h = tt
many-has a ks (Some ls) h = go (suit ls ks) refl
  where
    go : (t : Bool) → suit ls ks ≡ t → Has (many a) ks (if_both t ks)
    go true k = y_many a ks ls h k
    go false k = tt

pub has-effect : (a : Phrase) (ks : List Value) → Has a ks (effect a ks)
has-effect (skip w) ks = y_skip w ks
has-effect (keep w) ks = y_keep w ks
has-effect (p.make f) ks = go (formed (shape_of f) ks) refl
  where
    go : (o : Option (List Value)) → formed (shape_of f) ks ≡ o → Has (p.make f) ks o
    go None h = tt
    go (Some ls) h = y_make f ks ls h
has-effect (rule q) ks = y_rule q ks
has-effect (a ▸ b) ks = next-has a b ks (effect a ks) (has-effect a ks) (λ ls. has-effect b ls)
has-effect (a or b) ks = or-has a b ks (effect a ks) (effect b ks) (has-effect a ks) (has-effect b ks)
has-effect (option a) ks = option-has a ks (effect a ks) (has-effect a ks)
has-effect (many a) ks = many-has a ks (effect a ks) (has-effect a ks)
