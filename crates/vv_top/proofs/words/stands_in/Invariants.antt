use Rattle.std.proofs.Common.{◌≡◌, length}
use Rattle.std.specs.List.{list_any}
use Rattle.std.specs.Str.{bytes_eq}
use Rattle.vv_trans.specs.Translation.{bytes_of}
use Rattle.vv_top.proofs.words.stands_in.Given as goal

-- the name stands in what is left exactly where it stands in all
abbrev pub invariant-names : goal.invariant-names
invariant-names l = list_any (bytes_eq l.name) (bytes_of l.rest) ≡ list_any (bytes_eq l.fn.name) (bytes_of l.fn.names)

abbrev pub decreases-names : goal.decreases-names
decreases-names l = length l.rest
