use Rattle.vv_gate_vhdl.proofs.Settles.{gate_starts as lemma}
use Rattle.vv_gate_vhdl.proofs.gate_starts.Goals as goal

pub returns : goal.returns
returns c = lemma
