use Rattle.std.proofs.Common.{◌≡◌, map, take}
use Rattle.vv_builtin.specs.Builtin.{operator}
use Rattle.vv_builtin.proofs.building.operators_on.Given as goal

abbrev pub invariant-loop-op : goal.invariant-loop-op
invariant-loop-op l = l.list ≡ map (operator l.unit l.params l.gives) (take l.op-index l.ops)
