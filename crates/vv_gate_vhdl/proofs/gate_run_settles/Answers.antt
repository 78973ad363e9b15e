use Rattle.vv_gate_vhdl.proofs.Enters.{gate_run_settles as lemma}
use Rattle.vv_gate_vhdl.proofs.gate_run_settles.Goals as goal

pub returns : goal.returns
returns c = lemma
