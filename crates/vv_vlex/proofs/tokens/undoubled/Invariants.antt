use Rattle.std.proofs.Common.{◌≡◌, ◌++◌, length}
use Rattle.vv_vlex.specs.Elements as spec
use Rattle.vv_vlex.proofs.tokens.undoubled.Given as goal

abbrev pub invariant-bytes : goal.invariant-bytes
invariant-bytes l = l.bytes ++ spec.undoubled l.rest ≡ spec.undoubled l.fn.inner

abbrev pub decreases-bytes : goal.decreases-bytes
decreases-bytes l = length l.rest
