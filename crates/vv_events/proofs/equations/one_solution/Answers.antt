use Rattle.vv_events.proofs.Unique.{one_solution as lemma}
use Rattle.vv_events.proofs.equations.one_solution.Goals as goal

pub returns : goal.returns
returns c = lemma
