use Rattle.std.proofs.Common.{◌≡◌, ◌++◌, map, take}
use Rattle.vv_machine.specs.Jumps.{turn_number}
use Rattle.vv_grammar.specs.Table.{choice}
use Rattle.vv_machine.proofs.jumps.push_row.Given as goal

abbrev pub invariant-loop-terminal : goal.invariant-loop-terminal
invariant-loop-terminal l = l.cells.items ≡ l.initial.cells.items ++ map (turn_number (map (λ a. choice a.0.now a.1 a.2.now) l.rows)) (take l.terminal-index l.terminals)
