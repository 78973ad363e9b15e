use Rattle.vv_events.proofs.Operators.{and_bits_z, or_bits_z, xor_bits_z, not_bits_z, and_all_z, or_all_z, xor_all_z}
use Rattle.vv_events.proofs.values.z_counts_as_x.Goals as goal

pub returns-clause-and : goal.returns-clause-and
returns-clause-and c = and_bits_z

pub returns-clause-or : goal.returns-clause-or
returns-clause-or c = or_bits_z

pub returns-clause-xor : goal.returns-clause-xor
returns-clause-xor c = xor_bits_z

pub returns-clause-not : goal.returns-clause-not
returns-clause-not c = not_bits_z

pub returns-clause-and_all : goal.returns-clause-and_all
returns-clause-and_all c = and_all_z

pub returns-clause-or_all : goal.returns-clause-or_all
returns-clause-or_all c = or_all_z

pub returns-clause-xor_all : goal.returns-clause-xor_all
returns-clause-xor_all c = xor_all_z
