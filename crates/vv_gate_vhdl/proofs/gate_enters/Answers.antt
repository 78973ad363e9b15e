use Rattle.vv_gate_vhdl.proofs.Enters.{gate_enters as lemma}
use Rattle.vv_gate_vhdl.proofs.gate_enters.Goals as goal

pub returns : goal.returns
returns c = lemma
