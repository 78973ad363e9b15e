use Rattle.vv_gate_vhdl.proofs.Six.{gate_stays_six as lemma}
use Rattle.vv_gate_vhdl.proofs.gate_stays_six.Goals as goal

pub returns : goal.returns
returns c = lemma
