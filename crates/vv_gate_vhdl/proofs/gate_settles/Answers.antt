use Rattle.vv_gate_vhdl.proofs.Settles.{gate_settles as lemma}
use Rattle.vv_gate_vhdl.proofs.gate_settles.Goals as goal

pub returns : goal.returns
returns c = lemma
