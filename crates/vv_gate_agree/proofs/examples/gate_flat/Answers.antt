use Rattle.vv_gate_agree.proofs.Instances.{gate_flat as lemma}
use Rattle.vv_gate_agree.proofs.examples.gate_flat.Goals as goal

pub returns : goal.returns
returns c = lemma
