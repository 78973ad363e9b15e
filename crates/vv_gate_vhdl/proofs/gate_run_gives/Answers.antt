use Rattle.vv_gate_vhdl.proofs.Enters.{gate_run_gives as lemma}
use Rattle.vv_gate_vhdl.proofs.gate_run_gives.Goals as goal

pub returns : goal.returns
returns c = lemma
