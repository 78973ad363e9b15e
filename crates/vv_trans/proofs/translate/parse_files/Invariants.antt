use Rattle.std.proofs.Common.{◌≡◌, drop}
use Rattle.vv_trans.specs.Translation.{bytes_of, parsing}
use Rattle.vv_trans.proofs.translate.parse_files.Given as goal

-- what the phase reports of the files that are left is what it reports of all
abbrev pub invariant-loop-number : goal.invariant-loop-number
invariant-loop-number l = parsing l.number (bytes_of (drop l.number l.files)) ≡ parsing 0 (bytes_of l.files)
