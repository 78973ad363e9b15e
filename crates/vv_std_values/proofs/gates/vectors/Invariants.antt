use Rattle.std.proofs.Common.{◌≡◌, map, take}
use Rattle.std.specs.List.{zip}
use Rattle.vv_std_values.specs.Rows.{logic_row}
use Rattle.vv_std_values.proofs.gates.vectors.Given as goal

abbrev pub invariant-loop-i : goal.invariant-loop-i
invariant-loop-i l = l.elements ≡ map (λ p. logic_row l.gate p.0 p.1) (zip (take l.i l.x-items) l.ys)
