use Rattle.std.proofs.Common.{◌≡◌, map, take}
use Rattle.vv_std_decls.specs.Declarations.{letter}
use Rattle.vv_std_decls.proofs.declarations.letters.Given as goal

abbrev pub invariant-loop-letter : goal.invariant-loop-letter
invariant-loop-letter l = l.list ≡ map letter (take l.letter-index l.letters)
