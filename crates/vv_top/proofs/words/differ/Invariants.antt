use Rattle.std.proofs.Common.{◌≡◌, length}
use Rattle.vv_trans.specs.Translation.{bytes_of}
use Rattle.vv_top.specs.Words.{differ}
use Rattle.vv_top.proofs.words.differ.Given as goal

-- the names that are left differ exactly where all do
abbrev pub invariant-names : goal.invariant-names
invariant-names l = differ (bytes_of l.rest) ≡ differ (bytes_of l.fn.names)

abbrev pub decreases-names : goal.decreases-names
decreases-names l = length l.rest
