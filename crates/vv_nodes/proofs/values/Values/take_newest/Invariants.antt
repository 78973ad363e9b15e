use Rattle.std.proofs.Common.{◌≡◌, ◌++◌, length, map}
use Rattle.vv_nodes.specs.Nodes.{node_tree, stack}
use Rattle.vv_nodes.proofs.values.Values.take_newest.Given as goal

abbrev pub invariant-values : goal.invariant-values
invariant-values l = (length l.newest.items ≡ l.counter) × (stack l.initial.self ≡ map node_tree l.newest.items ++ stack l.self)
