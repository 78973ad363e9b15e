use Rattle.std.proofs.Common.{◌≡◌, map, take}
use Rattle.vv_nodes.specs.Nodes.{node_tree}
use Rattle.vv_tree.specs.View.{conc_tree}
use Rattle.vv_pconc.proofs.concurrent.+concurrents.Given as goal

abbrev pub invariant-concurrents-loop-each : goal.invariant-concurrents-loop-each
invariant-concurrents-loop-each l = map conc_tree l.all.items ≡ map node_tree (take l.each-index l.nodes)
