use Rattle.vv_gate_vhdl.proofs.Instances.{row_lawful as lemma}
use Rattle.vv_gate_vhdl.proofs.examples.row_lawful.Goals as goal

pub returns : goal.returns
returns c = lemma
