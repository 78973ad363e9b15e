use Rattle.vv_events.proofs.Runs.{run_seen as lemma}
use Rattle.vv_events.proofs.syntax.runs_see_their_writes.Goals as goal

pub returns : goal.returns
returns c = lemma
