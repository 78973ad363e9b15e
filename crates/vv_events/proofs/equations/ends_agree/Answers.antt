use Rattle.vv_events.proofs.Settled.{ends_agree as lemma}
use Rattle.vv_events.proofs.equations.ends_agree.Goals as goal

pub returns : goal.returns
returns c = lemma
