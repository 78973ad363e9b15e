use Rattle.std.proofs.Common.{refl}
use Rattle.vv_gate_agree.proofs.Idle.{sound, flat, settles, quiet, begins, row_settles, row_quiet, bits}
use Rattle.vv_gate_agree.proofs.examples.idle_output.Goals as goal

pub returns-clause-sound : goal.returns-clause-sound
returns-clause-sound c = sound

pub returns-clause-flat : goal.returns-clause-flat
returns-clause-flat c = flat

pub returns-clause-first_turns : goal.returns-clause-first_turns
returns-clause-first_turns c = settles

pub returns-clause-first_steps : goal.returns-clause-first_steps
returns-clause-first_steps c = quiet

pub returns-clause-row : goal.returns-clause-row
returns-clause-row c = begins

pub returns-clause-row_turns : goal.returns-clause-row_turns
returns-clause-row_turns c = row_settles

pub returns-clause-row_steps : goal.returns-clause-row_steps
returns-clause-row_steps c = row_quiet

pub returns-clause-values : goal.returns-clause-values
returns-clause-values c = refl

pub returns-clause-bits : goal.returns-clause-bits
returns-clause-bits c = bits
