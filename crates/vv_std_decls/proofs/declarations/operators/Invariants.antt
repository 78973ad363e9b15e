use Rattle.std.proofs.Common.{◌≡◌, take}
use Rattle.std.specs.List.{flat_map}
use Rattle.vv_std_decls.specs.Declarations.{operators_of}
use Rattle.vv_std_decls.proofs.declarations.operators.Given as goal

abbrev pub invariant-loop-base : goal.invariant-loop-base
invariant-loop-base l = l.list ≡ flat_map operators_of (take l.base-index l.bases)
