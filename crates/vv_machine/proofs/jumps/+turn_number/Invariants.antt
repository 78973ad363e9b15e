use Rattle.std.proofs.Common.{length}
use Rattle.vv_machine.proofs.jumps.+turn_number.Given as goal

abbrev pub decreases-turn_number : goal.decreases-turn_number
decreases-turn_number l = length l.rows.now
