use Rattle.std.proofs.Common.{◌≡◌, ◌++◌, take}
use Rattle.vv_machine.specs.Machine.{steps_in}
use Rattle.vv_machine.proofs.stack.Stack.push_steps.Given as goal

abbrev pub invariant-loop-i : goal.invariant-loop-i
invariant-loop-i l = steps_in (take l.i l.steps) l.around ++ l.self ≡ steps_in l.steps l.around ++ l.initial.self
