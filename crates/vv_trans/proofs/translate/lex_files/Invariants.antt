use Rattle.std.proofs.Common.{◌≡◌, drop}
use Rattle.vv_trans.specs.Translation.{bytes_of, lexing}
use Rattle.vv_trans.proofs.translate.lex_files.Given as goal

-- what the phase reports of the files that are left is what it reports of all
abbrev pub invariant-loop-number : goal.invariant-loop-number
invariant-loop-number l = lexing l.number (bytes_of (drop l.number l.files)) ≡ lexing 0 (bytes_of l.files)
