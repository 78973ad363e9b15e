use Rattle.vv_gate_agree.proofs.Rows.{runs_agree as lemma}
use Rattle.vv_gate_agree.proofs.runs_agree.Goals as goal

pub returns : goal.returns
returns c = lemma
