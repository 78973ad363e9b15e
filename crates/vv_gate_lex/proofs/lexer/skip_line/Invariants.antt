use Rattle.std.proofs.Common.{◌≡◌, ◌≤◌, length}
use Rattle.vv_gate_lex.specs.Lexical as spec
use Rattle.vv_gate_lex.proofs.lexer.skip_line.Given as goal

abbrev pub invariant-line : goal.invariant-line
invariant-line l = record { value : spec.skip_line l.rest ≡ spec.skip_line l.fn.bytes; less : length l.rest ≤ length l.fn.bytes }

abbrev pub decreases-line : goal.decreases-line
decreases-line l = length l.rest
