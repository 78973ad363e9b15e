use Rattle.vv_gate_vhdl.proofs.Instances.{a_run as lemma}
use Rattle.vv_gate_vhdl.proofs.examples.a_run.Goals as goal

pub returns : goal.returns
returns c = lemma
