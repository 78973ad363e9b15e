use Rattle.std.proofs.Common.{◌≡◌, ◌+◌, length}
use Rattle.vv_vlex.specs.Pieces as spec
use Rattle.vv_vlex.proofs.piece.line.Given as goal

abbrev pub invariant-line : goal.invariant-line
invariant-line l = record { value : l.count + spec.line l.rest ≡ spec.line l.fn.bytes; less : l.count + length l.rest ≡ length l.fn.bytes }

abbrev pub decreases-line : goal.decreases-line
decreases-line l = length l.rest
