use Rattle.std.proofs.Common.{◌≡◌, map, take}
use Rattle.vv_num_decls.specs.Declarations.{movement}
use Rattle.vv_num_decls.proofs.functions.movements.Given as goal

abbrev pub invariant-loop-name : goal.invariant-loop-name
invariant-loop-name l = l.list ≡ map (movement l.vector) (map (λ n. n.now) (take l.name-index l.name-items))
