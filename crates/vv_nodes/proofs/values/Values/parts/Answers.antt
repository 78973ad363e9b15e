use Rattle.std.proofs.Common.{◌∙◌, ap, reverse}
use Rattle.vv_nodes.proofs.NodeKinds.{made_is}
use Rattle.vv_nodes.proofs.Stacks.{parts_made}
use Rattle.vv_nodes.specs.Nodes.{node_tree, stack}
use Rattle.vv_nodes.proofs.values.Values.parts.Goals as goal

pub returns : goal.returns
returns c =
    rw (parts_made c.in_ok-newest.newest.items c.in_ok-parts.parts.now c.args.count c.args.form c.args.last (stack c.args.self.now) (stack c.take_newest.new.self)
    c.in_ok-first_start.field-0 c.in_ok-span.span (node_tree c.in_ok-node.node) c.in_ok-newest.ensures.count c.in_ok-newest.ensures.taken
    (c.in_ok-parts.ensures ∙ ap reverse c.as_slice.ensures.value) c.in_ok-first_start.ensures c.in_ok-span.ensures (c.in_ok-node.ensures ∙ made_is c.args.form c.in_ok-parts.parts c.in_ok-span.span))
    c.push.ensures
