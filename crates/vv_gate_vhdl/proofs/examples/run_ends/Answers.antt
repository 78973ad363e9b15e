use Rattle.vv_gate_vhdl.proofs.Instances.{run_ends as lemma}
use Rattle.vv_gate_vhdl.proofs.examples.run_ends.Goals as goal

pub returns : goal.returns
returns c = lemma
