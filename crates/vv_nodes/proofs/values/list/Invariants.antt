use Rattle.std.proofs.Common.{◌≡◌, take}
use Rattle.vv_nodes.proofs.values.list.Given as goal

abbrev pub invariant-loop-node : goal.invariant-loop-node
invariant-loop-node l = l.kept.items ≡ take l.node-index l.nodes
