-- What is made of parts that stand for the parts of a node stands for the node.
use Rattle.std.proofs.Common.{◌≡◌, ◌∙◌, sym}
use Rattle.vv_base.specs.declared.fault.Span.{Span}
use Rattle.vv_grammar.specs.Trees.{Tree}
use Rattle.vv_grammar.specs.declared.form.Form.{Form}
use Rattle.vv_tree.specs.View.{node2, node3, node4, node5}

pub by_two : {f : Form} {s : Span} {a b w x k t : Tree} → k ≡ node2 f a b s → a ≡ w → b ≡ x → t ≡ node2 f w x s → k ≡ t
by_two p q r h = p ∙ rw (q, r) (sym h)

pub by_three : {f : Form} {s : Span} {a b c w x y k t : Tree} → k ≡ node3 f a b c s → a ≡ w → b ≡ x → c ≡ y → t ≡ node3 f w x y s → k ≡ t
by_three p q r u h = p ∙ rw (q, r, u) (sym h)

pub by_four : {f : Form} {s : Span} {a b c d w x y z k t : Tree} → k ≡ node4 f a b c d s → a ≡ w → b ≡ x → c ≡ y → d ≡ z → t ≡ node4 f w x y z s → k ≡ t
by_four p q r u v h = p ∙ rw (q, r, u, v) (sym h)

pub by_five : {f : Form} {s : Span} {a b c d e v w x y z k t : Tree} → k ≡ node5 f a b c d e s → a ≡ v → b ≡ w → c ≡ x → d ≡ y → e ≡ z → t ≡ node5 f v w x y z s
    → k ≡ t
by_five p q r u v w h = p ∙ rw (q, r, u, v, w) (sym h)
