use Rattle.vv_cycle.proofs.Runs.{same_run as lemma}
use Rattle.vv_cycle.proofs.same_run.Goals as goal

pub returns : goal.returns
returns c = lemma
