use Rattle.vv_gate_agree.proofs.Rows.{row_agrees as lemma}
use Rattle.vv_gate_agree.proofs.row_agrees.Goals as goal

pub returns : goal.returns
returns c = lemma
