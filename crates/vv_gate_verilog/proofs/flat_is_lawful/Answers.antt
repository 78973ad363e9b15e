use Rattle.vv_gate_verilog.proofs.Flattened.{lawful_flat}
use Rattle.vv_gate_verilog.proofs.flat_is_lawful.Goals as goal

pub returns : goal.returns
returns c = lawful_flat
