use Rattle.std.proofs.Common.{None, take, flat_map, ◌∷◌, []}
use Rattle.vv_gate.specs.View.{assignment_of}
use Rattle.vv_gate_check.specs.Names.{Assigns}
use Rattle.vv_gate_check.proofs.names.Names.assign_all.Given as goal

abbrev pub invariant-loop-assignment : goal.invariant-loop-assignment
invariant-loop-assignment l = Assigns (flat_map (λ a. assignment_of a ∷ []) (take l.assignment-index l.assignments)) l.fn.self l.self None
