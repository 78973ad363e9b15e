use Rattle.vv_gate_agree.proofs.Meaning.{text_keeps_meaning as lemma}
use Rattle.vv_gate_agree.proofs.text_keeps_meaning.Goals as goal

pub returns : goal.returns
returns c = lemma
