-- What contracts see of a node: the tree that it stands for.
use Rattle.std.specs.Prelude.{List, [], ◌∷◌, map, reverse}
use Rattle.vv_grammar.specs.Trees.{Tree, Trees, leaf, node, list, absent, none, more}
use Rattle.vv_nodes.specs.declared.node.Node.{Node, fold-Node}
use Rattle.vv_nodes.specs.declared.node.NodeKind.{NodeKind, fold-NodeKind}
use Rattle.vv_nodes.specs.declared.node.NodeKind.TheOpen.{Node-F, NodeKind-F}
use Rattle.vv_nodes.specs.declared.values.Value.{Value}
use Rattle.vv_nodes.specs.declared.values.Value.TheVariants as value
use Rattle.vv_nodes.specs.declared.values.Values.{Values}

abbrev pub trees : List Tree → Trees
trees [] = none
trees (t ∷ ts) = more t (trees ts)

abbrev pub node_step : Node-F Tree Tree → Tree
node_step n = n.kind.now.value

abbrev pub kind_step : NodeKind-F Tree Tree → Tree
kind_step (NodeKind-F.Leaf t) = leaf t.now
kind_step (NodeKind-F.Made f ps s) = node f (trees ps.now) s
kind_step (NodeKind-F.List ps) = list (trees ps.now)
kind_step NodeKind-F.Absent = absent

abbrev pub node_tree : Node → Tree
node_tree = fold-Node Tree Tree kind_step node_step

abbrev pub kind_tree : NodeKind → Tree
kind_tree = fold-NodeKind Tree Tree kind_step node_step

abbrev pub nodes_trees : List Node → Trees
nodes_trees ns = trees (map node_tree ns)

abbrev pub value_tree : Value → Tree
value_tree (value.One n) = node_tree n
value_tree (value.Many ns) = list (nodes_trees ns.items)

-- the values that were made so far, the newest first
abbrev pub stack : Values → List Tree
stack s = reverse (map value_tree s.values.items)
