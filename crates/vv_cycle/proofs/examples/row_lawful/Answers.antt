use Rattle.vv_cycle.proofs.Instances.{row_lawful as lemma}
use Rattle.vv_cycle.proofs.examples.row_lawful.Goals as goal

pub returns : goal.returns
returns c = lemma
