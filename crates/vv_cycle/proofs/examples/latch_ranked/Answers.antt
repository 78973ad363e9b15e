use Rattle.vv_cycle.proofs.Instances.{latch_ranked as lemma}
use Rattle.vv_cycle.proofs.examples.latch_ranked.Goals as goal

pub returns : goal.returns
returns c = lemma
