use Rattle.std.proofs.Common.{◌≡◌, length}
use Rattle.vv_vlex.specs.Quoted as spec
use Rattle.vv_vlex.proofs.quoted.is_open.Given as goal

abbrev pub invariant-line : goal.invariant-line
invariant-line l = spec.is_open l.rest ≡ spec.is_open l.fn.bytes

abbrev pub decreases-line : goal.decreases-line
decreases-line l = length l.rest
