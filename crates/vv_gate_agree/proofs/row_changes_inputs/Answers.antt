use Rattle.vv_gate_agree.proofs.Rows.{row_only as lemma}
use Rattle.vv_gate_agree.proofs.row_changes_inputs.Goals as goal

pub returns : goal.returns
returns c = lemma
