use Rattle.std.proofs.Common.{◌≡◌, length, map}
use Rattle.vv_vlex.specs.Words as spec
use Rattle.vv_vlex.proofs.words.lookup.Given as goal

abbrev pub invariant-words : goal.invariant-words
invariant-words l = spec.lookup (map (λ k. (k.0.now, k.1)) l.rest) l.text ≡ spec.lookup (map (λ k. (k.0.now, k.1)) l.fn.table) l.fn.text

abbrev pub decreases-words : goal.decreases-words
decreases-words l = length l.rest
