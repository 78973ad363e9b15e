use Rattle.vv_machine.proofs.Jumping.{all_numbers}
use Rattle.vv_machine.proofs.jumps.Jumps.new.Goals as goal

pub invariant_of-result : goal.invariant_of-result
invariant_of-result c = record { right = all_numbers c.args.edition c.new-cells.result.items c.push_rows.new.cells.items c.in_ok-push_rows.ensures c.new-cells.ensures.items }
