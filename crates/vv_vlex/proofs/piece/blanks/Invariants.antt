use Rattle.std.proofs.Common.{◌≡◌, ◌+◌, length}
use Rattle.vv_vlex.specs.Pieces as spec
use Rattle.vv_vlex.proofs.piece.blanks.Given as goal

abbrev pub invariant-blanks : goal.invariant-blanks
invariant-blanks l = record { value : l.count + spec.blanks l.rest ≡ spec.blanks l.fn.bytes; less : l.count + length l.rest ≡ length l.fn.bytes }

abbrev pub decreases-blanks : goal.decreases-blanks
decreases-blanks l = length l.rest
