use Rattle.vv_gate_vhdl.proofs.Sound.{sound_gate as lemma}
use Rattle.vv_gate_vhdl.proofs.sound_gate.Goals as goal

pub returns : goal.returns
returns c = lemma
