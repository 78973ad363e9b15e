use Rattle.std.proofs.Common.{◌≡◌, take}
use Rattle.vv_nodes.proofs.making.in_order.Given as goal

abbrev pub invariant-loop-node : goal.invariant-loop-node
invariant-loop-node l = l.parts.items ≡ take l.node-index l.newest
