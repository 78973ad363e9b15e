use Rattle.vv_gate_vhdl.proofs.Ranks.{gate_run_short as lemma}
use Rattle.vv_gate_vhdl.proofs.gate_run_short.Goals as goal

pub returns : goal.returns
returns c = lemma
