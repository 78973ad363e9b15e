use Rattle.std.proofs.Common.{◌≡◌, List, ℕ, ◌++◌, length}
use Rattle.std.specs.Io.KnownBytes.{Appends}
use Rattle.vv_base.proofs.files.push.Given as goal

-- what is gone from `left` was appended
abbrev pub invariant-loop-left : goal.invariant-loop-left
invariant-loop-left g l =
    (done : List ℕ) × (l.initial.left ≡ done ++ l.left) × Appends (g.F.Write.contents l.initial.file) (g.F.Write.contents l.file) done

abbrev pub decreases-loop-left : goal.decreases-loop-left
decreases-loop-left g l = length l.left
