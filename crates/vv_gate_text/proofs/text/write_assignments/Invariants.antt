use Rattle.std.proofs.Common.{◌≡◌, ◌++◌, map, take}
use Rattle.std.specs.List.{flat_map}
use Rattle.vv_gate.specs.View.{assignment_of}
use Rattle.vv_gate_text.specs.Layout.{written_item}
use Rattle.vv_gate_text.specs.Made.{made_assignment}
use Rattle.vv_gate_text.proofs.text.write_assignments.Given as goal

abbrev pub invariant-written : goal.invariant-written
invariant-written l =
    l.out.items ≡ l.initial.out.items ++ flat_map written_item (map made_assignment (map assignment_of (take l.assignment-index l.assignments)))
