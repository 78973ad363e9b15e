use Rattle.std.proofs.Common.{arith}
use Rattle.std.proofs.lemmas.Int.{to_z-of_z}
use Rattle.vv_types.proofs.Signed.{reach_of_fit}
use Rattle.vv_types.proofs.SubtypeLaws.{scalar_has_elements, scalar_small}
use Rattle.vv_types.proofs.tests.scalar.Goals as goal

pub returns-clause-elements : goal.returns-clause-elements
returns-clause-elements c = scalar_has_elements _ _ _ _ _

pub returns-clause-bits : goal.returns-clause-bits
returns-clause-bits c =
    let left = c.ranges.left in
    let right = c.ranges.right in
    simp to_z-of_z
    (scalar_small c.args.base c.args.left c.args.right c.args.down c.args.count (reach_of_fit _ left) (reach_of_fit _ right) (omega arith))
