use Rattle.vv_cycle.proofs.Runs.{same_clean as lemma}
use Rattle.vv_cycle.proofs.same_clean.Goals as goal

pub returns : goal.returns
returns c = lemma
