use Rattle.vv_gate_vhdl.proofs.Instances.{gate_sound as lemma}
use Rattle.vv_gate_vhdl.proofs.examples.gate_sound.Goals as goal

pub returns : goal.returns
returns c = lemma
