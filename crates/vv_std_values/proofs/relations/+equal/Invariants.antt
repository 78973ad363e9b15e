use Rattle.std.proofs.Common.{◌≡◌, drop, map}
use Rattle.std.specs.Cmp.Lexicographic.{pointwise}
use Rattle.vv_std_values.specs.Equality.{same_value}
use Rattle.vv_std_values.proofs.relations.+equal.Given as goal

-- the elements from here on are the same exactly where all elements are
abbrev pub invariant-loop-i : goal.invariant-loop-i
invariant-loop-i l =
    pointwise (λ is_same x. is_same x) (map same_value (drop l.i l.xs)) (drop l.i l.ys)
    ≡ pointwise (λ is_same x. is_same x) (map same_value l.xs) l.ys
