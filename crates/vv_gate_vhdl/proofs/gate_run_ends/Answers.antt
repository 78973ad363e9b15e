use Rattle.vv_gate_vhdl.proofs.Ranks.{gate_run_ends as lemma}
use Rattle.vv_gate_vhdl.proofs.gate_run_ends.Goals as goal

pub returns : goal.returns
returns c = lemma
