use Rattle.vv_cycle.proofs.Instances.{a_run as lemma}
use Rattle.vv_cycle.proofs.examples.a_run.Goals as goal

pub returns : goal.returns
returns c = lemma
