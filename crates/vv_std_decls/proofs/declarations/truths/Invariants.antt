use Rattle.std.proofs.Common.{◌≡◌, map, take}
use Rattle.vv_std_decls.specs.Declarations.{truth}
use Rattle.vv_std_decls.proofs.declarations.truths.Given as goal

abbrev pub invariant-loop-name : goal.invariant-loop-name
invariant-loop-name l = l.list ≡ map truth (map (λ n. n.now) (take l.name-index l.name-items))
