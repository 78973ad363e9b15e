use Rattle.std.proofs.Common.{◌∙◌, ap, reverse}
use Rattle.vv_nodes.proofs.NodeKinds.{made_is}
use Rattle.vv_nodes.proofs.Stacks.{opening_made}
use Rattle.vv_nodes.specs.Nodes.{node_tree, stack}
use Rattle.vv_nodes.proofs.values.Values.opened.Goals as goal

pub returns : goal.returns
returns c =
    rw (opening_made c.in_ok-newest.newest.items c.in_ok-parts.parts.now c.args.count c.args.form c.args.last (stack c.args.self.now) (stack c.take_newest.new.self)
    (stack c.pop_node.new.self) (node_tree c.in_ok-opening.opening) c.in_ok-at.at c.in_ok-span.span (node_tree c.in_ok-node.node)
    c.in_ok-newest.ensures.count c.in_ok-newest.ensures.taken (c.in_ok-parts.ensures ∙ ap reverse c.as_slice.ensures.value) c.in_ok-opening.ensures
    c.in_ok-at.ensures c.in_ok-span.ensures (c.in_ok-node.ensures ∙ made_is c.args.form c.in_ok-parts.parts c.in_ok-span.span))
    c.push.ensures
