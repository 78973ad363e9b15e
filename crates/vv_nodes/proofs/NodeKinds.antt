-- What each kind of node stands for.
use Rattle.std.proofs.Common.{◌≡◌, ◌∙◌, ap, sym, refl, List, Bor}
use Rattle.vv_base.specs.declared.fault.Span.{Span}
use Rattle.vv_grammar.specs.declared.form.Form.{Form}
use Rattle.vv_grammar.specs.Trees.{Tree, leaf, node, list}
use Rattle.vv_nodes.specs.Nodes.{nodes_trees, kind_tree, kind_step, node_step}
use Rattle.vv_nodes.specs.declared.node.Node.{Node}
use Rattle.vv_nodes.specs.declared.node.NodeKind.{NodeKind, fold-roll-NodeKind}
use Rattle.vv_nodes.specs.declared.node.NodeKind.TheOpen.{NodeKind-F}
use Rattle.vv_nodes.specs.declared.node.NodeKind.TheVariants as kind

pub leaf_is : (t : _) → kind_tree (kind.Leaf t) ≡ leaf t.now
leaf_is t = ap kind_tree (sym (kind.rolls-Leaf t)) ∙ fold-roll-NodeKind Tree Tree kind_step node_step (NodeKind-F.Leaf t)

pub made_is : (f : _) (ps : _) (s : _) → kind_tree (kind.Made f ps s) ≡ node f (nodes_trees ps.now) s
made_is f ps s = ap kind_tree (sym (kind.rolls-Made f ps s)) ∙ fold-roll-NodeKind Tree Tree kind_step node_step (NodeKind-F.Made f ps s)

pub list_is : (ps : _) → kind_tree (kind.List ps) ≡ list (nodes_trees ps.now)
list_is ps = ap kind_tree (sym (kind.rolls-List ps)) ∙ fold-roll-NodeKind Tree Tree kind_step node_step (NodeKind-F.List ps)

pub made_as : (t : Tree) (k : NodeKind) (f g : Form) (ps : Bor (List Node)) (s : Span) → kind_tree k ≡ t → k ≡ kind.Made f ps s → f ≡ g
    → t ≡ node g (nodes_trees ps.now) s
made_as t k f g ps s is made same = sym is ∙ ap kind_tree made ∙ made_is f ps s ∙ ap (λ (h : Form). node h (nodes_trees ps.now) s) same
