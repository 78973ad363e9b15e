use Rattle.std.proofs.Common.{◌≡◌, length}
use Rattle.vv_grammar.specs.Terminals.{contains}
use Rattle.vv_grammar.proofs.terminal.is_among.Given as goal

abbrev pub invariant-others : goal.invariant-others
invariant-others l = contains l.rest l.terminal ≡ contains l.fn.set l.terminal

abbrev pub decreases-others : goal.decreases-others
decreases-others l = length l.rest
