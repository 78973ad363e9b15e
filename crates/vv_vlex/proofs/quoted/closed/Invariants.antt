use Rattle.std.proofs.Common.{◌≡◌, ◌+◌, ◌≤◌, ◌<◌, length, option_map, IfSome}
use Rattle.vv_vlex.specs.Quoted as spec
use Rattle.vv_vlex.proofs.Strings.{or_end}
use Rattle.vv_vlex.proofs.quoted.closed.Given as goal

abbrev pub invariant-string : goal.invariant-string
invariant-string l = record {
  value : or_end l.«end» (option_map (λ n. l.count + n) (spec.closed l.rest)) ≡ spec.closed l.fn.bytes;
  less : l.count + length l.rest ≡ length l.fn.bytes;
  within : IfSome l.«end» (λ n. n ≤ length l.fn.bytes);
  some : IfSome l.«end» (λ n. 0 < n);
}

abbrev pub decreases-string : goal.decreases-string
decreases-string l = length l.rest
