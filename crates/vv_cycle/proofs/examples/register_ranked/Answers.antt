use Rattle.vv_cycle.proofs.Instances.{register_ranked as lemma}
use Rattle.vv_cycle.proofs.examples.register_ranked.Goals as goal

pub returns : goal.returns
returns c = lemma
