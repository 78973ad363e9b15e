use Rattle.vv_gate_vhdl.proofs.Clean.{gate_never_stops as lemma}
use Rattle.vv_gate_vhdl.proofs.gate_never_stops.Goals as goal

pub returns : goal.returns
returns c = lemma
