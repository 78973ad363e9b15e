use Rattle.std.proofs.Common.{◌≡◌, ◌+◌, length}
use Rattle.vv_vlex.specs.Bytes as spec
use Rattle.vv_vlex.proofs.class.tail.Given as goal

abbrev pub invariant-tail : goal.invariant-tail
invariant-tail l = record { value : l.count + spec.tail (spec.has l.class) l.rest ≡ spec.tail (spec.has l.fn.class) l.fn.bytes; less : l.count + length l.rest ≡ length l.fn.bytes }

abbrev pub decreases-tail : goal.decreases-tail
decreases-tail l = length l.rest
