use Rattle.vv_events.proofs.Operators.{choose_self}
use Rattle.std.proofs.Common.{refl}
use Rattle.vv_events.proofs.values.condition_chooses.Goals as goal

pub returns-clause-one : goal.returns-clause-one
returns-clause-one c = λ xs ys. refl

pub returns-clause-zero : goal.returns-clause-zero
returns-clause-zero c = λ xs ys. refl

pub returns-clause-either : goal.returns-clause-either
returns-clause-either c = choose_self
