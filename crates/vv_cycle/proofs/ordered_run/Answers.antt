use Rattle.vv_cycle.proofs.Complete.{ordered_run as lemma}
use Rattle.vv_cycle.proofs.ordered_run.Goals as goal

pub returns : goal.returns
returns c = lemma
