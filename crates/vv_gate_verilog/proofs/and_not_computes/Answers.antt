use Rattle.vv_gate_verilog.proofs.AndNot.{is_flat, is_acyclic, can_run, quiet, bits, row_can_run, row_quiet, row_bits}
use Rattle.vv_gate_verilog.proofs.and_not_computes.Goals as goal

pub returns-clause-flat : goal.returns-clause-flat
returns-clause-flat c = is_flat

pub returns-clause-acyclic : goal.returns-clause-acyclic
returns-clause-acyclic c = is_acyclic

pub returns-clause-may_run : goal.returns-clause-may_run
returns-clause-may_run c = can_run

pub returns-clause-quiet : goal.returns-clause-quiet
returns-clause-quiet c = quiet

pub returns-clause-bits : goal.returns-clause-bits
returns-clause-bits c = bits

pub returns-clause-row_may_run : goal.returns-clause-row_may_run
returns-clause-row_may_run c = row_can_run

pub returns-clause-row_quiet : goal.returns-clause-row_quiet
returns-clause-row_quiet c = row_quiet

pub returns-clause-row_bits : goal.returns-clause-row_bits
returns-clause-row_bits c = row_bits
