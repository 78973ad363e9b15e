use Rattle.vv_tree.proofs.Concurrents.{instance_is}
use Rattle.vv_pdecl.proofs.Parts.{by_three}
use Rattle.vv_pinstance.proofs.instance.instance.Goals as goal

pub returns : goal.returns
returns c = by_three (instance_is _ _ _ _) c.in_ok-instance_unit.ensures c.in_ok-associations.ensures c.in_ok-associations-2.ensures c.in_ok-unit.ensures.tree
