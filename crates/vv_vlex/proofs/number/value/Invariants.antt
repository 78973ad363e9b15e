use Rattle.std.proofs.Common.{◌≡◌, ◌≤◌, ◌^◌, length}
use Rattle.vv_vlex.specs.Numbers as spec
use Rattle.vv_vlex.proofs.number.value.Given as goal

abbrev pub invariant-digits : goal.invariant-digits
invariant-digits l = record { same : spec.value_from l.base l.sum l.rest ≡ spec.value_from l.fn.base 0 l.fn.digits; most : l.sum ≤ 2 ^ 40 }

abbrev pub decreases-digits : goal.decreases-digits
decreases-digits l = length l.rest
