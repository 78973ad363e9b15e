use Rattle.std.proofs.Common.{◌≡◌, map, take}
use Rattle.vv_vlex.specs.Elements.{lexeme_of}
use Rattle.vv_grammar.specs.Terminals.{terminals_of_elements}
use Rattle.vv_grammar.proofs.terminal.terminals_of_elements.Given as goal

abbrev pub invariant-loop-lexeme : goal.invariant-loop-lexeme
invariant-loop-lexeme l = l.all.items ≡ terminals_of_elements (map lexeme_of (take l.lexeme-index l.elements))
