use Rattle.std.proofs.Common.{◌≡◌, take}
use Rattle.vv_grammar.specs.Terminals.{terminals_of}
use Rattle.vv_grammar.proofs.terminal.terminals.Given as goal

abbrev pub invariant-loop-token : goal.invariant-loop-token
invariant-loop-token l = l.all.items ≡ terminals_of (take l.token-index l.tokens)
