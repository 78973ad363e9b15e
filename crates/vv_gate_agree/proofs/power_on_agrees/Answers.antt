use Rattle.vv_gate_agree.proofs.Rows.{power_on_agrees as lemma}
use Rattle.vv_gate_agree.proofs.power_on_agrees.Goals as goal

pub returns : goal.returns
returns c = lemma
