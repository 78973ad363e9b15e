use Rattle.std.proofs.Common.{◌≡◌, suc}
use Rattle.vv_machine.specs.Machine.{Leads, starting_with, drive, outcome}
use Rattle.vv_machine.proofs.Weights.{measure}
use Rattle.vv_machine.proofs.machine.run.Given as goal

abbrev pub invariant-moves : goal.invariant-moves
invariant-moves l = Leads l.fn.edition l.tokens (starting_with l.steps l.at) l.at l.state.events.items l.state.stack l.state.at l.state.mark
    × (drive (suc (measure l.fn.edition l.tokens l.state.stack l.state.at)) l.fn.edition l.tokens l.state.stack l.state.at l.state.mark l.state.events.items
    ≡ outcome l.fn.edition l.tokens (starting_with l.steps l.at) l.at)

abbrev pub decreases-moves : goal.decreases-moves
decreases-moves l = measure l.fn.edition l.tokens l.state.stack l.state.at
