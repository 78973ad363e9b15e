use Rattle.vv_gate_agree.proofs.Laws.{text_runs as lemma}
use Rattle.vv_gate_agree.proofs.text_runs.Goals as goal

pub returns : goal.returns
returns c = lemma
