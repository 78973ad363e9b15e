use Rattle.vv_gate_agree.proofs.Laws.{text_agrees as lemma}
use Rattle.vv_gate_agree.proofs.text_agrees.Goals as goal

pub returns : goal.returns
returns c = lemma
