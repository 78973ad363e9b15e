use Rattle.std.proofs.Common.{◌≡◌, [], length}
use Rattle.vv_grammar.specs.Trees.{replay}
use Rattle.vv_nodes.specs.Nodes.{stack}
use Rattle.vv_nodes.proofs.replay.replay.Given as goal

abbrev pub invariant-events : goal.invariant-events
invariant-events l = replay l.ahead l.rest l.before (stack l.values) ≡ replay l.fn.events l.fn.tokens l.fn.last []

abbrev pub decreases-events : goal.decreases-events
decreases-events l = length l.ahead
