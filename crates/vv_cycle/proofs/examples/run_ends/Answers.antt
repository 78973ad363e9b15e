use Rattle.vv_cycle.proofs.Instances.{run_ends as lemma}
use Rattle.vv_cycle.proofs.examples.run_ends.Goals as goal

pub returns : goal.returns
returns c = lemma
