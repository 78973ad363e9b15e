use Rattle.std.proofs.Common.{◌≡◌, drop}
use Rattle.vv_grammar.specs.Trees.{starts}
use Rattle.vv_nodes.specs.Nodes.{nodes_trees}
use Rattle.vv_nodes.proofs.making.first_start.Given as goal

abbrev pub invariant-loop-i : goal.invariant-loop-i
invariant-loop-i l = l.at ≡ starts (nodes_trees (drop l.i l.nodes)) l.otherwise
