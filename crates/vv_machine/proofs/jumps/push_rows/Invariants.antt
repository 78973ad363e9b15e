use Rattle.std.proofs.Common.{◌≡◌, ◌++◌, flat_map, take}
use Rattle.vv_machine.specs.Jumps.{row}
use Rattle.vv_machine.proofs.jumps.push_rows.Given as goal

abbrev pub invariant-loop-place : goal.invariant-loop-place
invariant-loop-place l = l.cells.items ≡ l.initial.cells.items ++ flat_map (row l.edition l.terminals) (take l.place-index l.places)
