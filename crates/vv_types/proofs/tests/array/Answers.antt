use Rattle.std.proofs.Common.{subst, sym}
use Rattle.vv_types.specs.Subtype.{HasElements}
use Rattle.vv_types.proofs.SubtypeLaws.{array_has_elements, array_small}
use Rattle.vv_types.proofs.tests.array.Goals as goal

pub returns-clause-elements : goal.returns-clause-elements
returns-clause-elements c =
    array_has_elements _ c.args.bounds c.in_ok-new.field-0 c.requires.some (subst HasElements (sym c.in_ok-new.ensures) c.requires.elements)

pub returns-clause-bits : goal.returns-clause-bits
returns-clause-bits c = rw (sym c.in_ok-new.ensures) (array_small _ c.args.bounds c.in_ok-new.field-0 32 c.requires.few)
