use Rattle.std.proofs.Common.{◌≡◌, List, ℕ, ◌++◌}
use Rattle.std.specs.Io.KnownBytes.{Consumes}
use Rattle.vv_base.proofs.files.pull.Given as goal

-- what is gone from the file stands at the end
abbrev pub invariant-loop : goal.invariant-loop
invariant-loop g l =
    (done : List ℕ) × (l.into.items ≡ l.fn.into.items ++ done) × Consumes (g.F.Read.remaining l.fn.file) (g.F.Read.remaining l.file) done
