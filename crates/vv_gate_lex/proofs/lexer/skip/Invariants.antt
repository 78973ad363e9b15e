use Rattle.std.proofs.Common.{◌≡◌, ◌≤◌, length}
use Rattle.vv_gate_lex.specs.Lexical as spec
use Rattle.vv_gate_lex.proofs.lexer.skip.Given as goal

abbrev pub invariant-blanks : goal.invariant-blanks
invariant-blanks l = record { value : spec.skip l.rest ≡ spec.skip l.fn.bytes; less : length l.rest ≤ length l.fn.bytes }

abbrev pub decreases-blanks : goal.decreases-blanks
decreases-blanks l = length l.rest
