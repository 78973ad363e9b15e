use Rattle.vv_events.proofs.Runs.{construct_fair as lemma}
use Rattle.vv_events.proofs.syntax.constructs_are_fair.Goals as goal

pub returns : goal.returns
returns c = lemma
