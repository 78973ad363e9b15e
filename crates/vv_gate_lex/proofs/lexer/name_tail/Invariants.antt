use Rattle.std.proofs.Common.{◌≡◌, ◌+◌, length}
use Rattle.vv_gate_lex.specs.Lexical as spec
use Rattle.vv_gate_lex.proofs.lexer.name_tail.Given as goal

abbrev pub invariant-name : goal.invariant-name
invariant-name l = record { value : l.count + spec.name_tail l.rest ≡ spec.name_tail l.fn.bytes; less : l.count + length l.rest ≡ length l.fn.bytes }

abbrev pub decreases-name : goal.decreases-name
decreases-name l = length l.rest
