use Rattle.std.proofs.Common.{◌≡◌, length}
use Rattle.vv_vlex.specs.Numbers as spec
use Rattle.vv_vlex.proofs.number.are_below.Given as goal

abbrev pub invariant-digits : goal.invariant-digits
invariant-digits l = spec.are_below l.base l.rest ≡ spec.are_below l.fn.base l.fn.digits

abbrev pub decreases-digits : goal.decreases-digits
decreases-digits l = length l.rest
