use Rattle.std.proofs.Common.{◌≡◌, ℕ, List, map, take}
use Rattle.std.specs.HashSet.{contains_by}
use Rattle.std.specs.Str.{bytes_eq}
use Rattle.vv_gate.specs.View.{assignment_of}
use Rattle.vv_gate_text.specs.Made.{is_assigned}
use Rattle.vv_gate_text.proofs.text.targets.Given as goal

abbrev pub invariant-loop-assignment : goal.invariant-loop-assignment
invariant-loop-assignment l =
    (q : List ℕ) → contains_by (λ k. bytes_eq q k.now) l.names ≡ is_assigned (map assignment_of (take l.assignment-index l.assignments)) q
