use Rattle.vv_cycle.proofs.Runs.{few_run as lemma}
use Rattle.vv_cycle.proofs.few_run.Goals as goal

pub returns : goal.returns
returns c = lemma
