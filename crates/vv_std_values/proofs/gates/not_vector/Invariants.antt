use Rattle.std.proofs.Common.{◌≡◌, map, take}
use Rattle.vv_types.specs.declared.value.Value.{out-Value}
use Rattle.vv_std_values.specs.Rows.{not_logic}
use Rattle.vv_std_values.proofs.gates.not_vector.Given as goal

abbrev pub invariant-loop-x : goal.invariant-loop-x
invariant-loop-x l = l.elements ≡ map (λ x. not_logic (out-Value x)) (take l.x-index l.x-items)
