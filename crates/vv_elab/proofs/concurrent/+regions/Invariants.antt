-- A statement has less room for the statements in it, and a function that goes before another one in the same room ranks above it.
use Rattle.std.proofs.Common.{◌+◌, ◌*◌}
use Rattle.vv_elab.proofs.concurrent.+regions.Given as goal

abbrev pub decreases-one : goal.decreases-one
decreases-one l = 4 * l.room

abbrev pub decreases-concurrent : goal.decreases-concurrent
decreases-concurrent l = 4 * l.room + 1

abbrev pub decreases-region : goal.decreases-region
decreases-region l = 4 * l.room + 2

abbrev pub decreases-opened : goal.decreases-opened
decreases-opened l = 4 * l.room + 2

abbrev pub decreases-generated : goal.decreases-generated
decreases-generated l = 4 * l.room + 3

abbrev pub decreases-instance : goal.decreases-instance
decreases-instance l = 4 * l.room + 3
