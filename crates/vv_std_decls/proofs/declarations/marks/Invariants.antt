use Rattle.std.proofs.Common.{◌≡◌, map, take}
use Rattle.vv_std_decls.specs.Declarations.{mark}
use Rattle.vv_std_decls.proofs.declarations.marks.Given as goal

abbrev pub invariant-loop-entry : goal.invariant-loop-entry
invariant-loop-entry l = l.list ≡ map (λ t. mark l.unit t.0.now t.1) (take l.entry-index l.types)
