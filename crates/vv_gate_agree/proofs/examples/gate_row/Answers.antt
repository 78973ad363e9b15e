use Rattle.vv_gate_agree.proofs.Instances.{gate_row as lemma}
use Rattle.vv_gate_agree.proofs.examples.gate_row.Goals as goal

pub returns : goal.returns
returns c = lemma
