-- Where the elements of a file cease to go on in the grammar of VHDL.
use Rattle.std.specs.Prelude.{ℕ, List, Option, Some, None, Ok, Err, slice_get}
use Rattle.vv_base.specs.declared.rules.Rule.TheVariants.{Y1, Y2}
use Rattle.vv_vlex.specs.Elements.{Lexeme}
use Rattle.vv_vlex.specs.Lexical.{Broken, Elements, elements_of}
use Rattle.vv_machine.specs.Machine.{Outcome, reads, misplaced, too_deep, outcome, starting_with}
use Rattle.vv_grammar.specs.declared.edition.Edition.TheVariants as edition
use Rattle.vv_grammar.specs.declared.starts.TheConstants.{FILE}
use Rattle.vv_grammar.specs.declared.terminal.Terminal.{Terminal}
use Rattle.vv_grammar.specs.Terminals.{terminals_of_elements}

-- the offset of an element
abbrev pub offset_of : Option Lexeme → ℕ
offset_of None = 0
offset_of (Some l) = l.at

-- the rule that is broken, and its place: an element with which no text goes on, or one at which something too deep starts
abbrev pub judged : List Lexeme → Outcome → Option Broken
judged ls (reads es at) = None
judged ls (misplaced n) = Some (record { rule = Y1; at = offset_of (slice_get ls n) })
judged ls (too_deep n) = Some (record { rule = Y2; at = offset_of (slice_get ls n) })

abbrev pub parsed : List Terminal → Outcome
parsed ts = outcome edition.Vhdl93 ts (starting_with FILE 0) 0

abbrev pub judged_of : Elements → Option Broken
judged_of (Ok ls) = judged ls (parsed (terminals_of_elements ls))
judged_of (Err b) = None

-- the rule of syntax that a file breaks, if its elements are sound
unfoldable pub syntax : List ℕ → Option Broken
syntax file = judged_of (elements_of file)
