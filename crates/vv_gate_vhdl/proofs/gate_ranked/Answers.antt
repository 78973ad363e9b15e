use Rattle.vv_gate_vhdl.proofs.Ranks.{gate_ranked as lemma}
use Rattle.vv_gate_vhdl.proofs.gate_ranked.Goals as goal

pub returns : goal.returns
returns c = lemma
