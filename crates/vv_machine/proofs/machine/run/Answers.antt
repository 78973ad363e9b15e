use Rattle.std.proofs.Common.{suc, ◌∷◌, None, refl, arith}
use Rattle.std.proofs.lemmas.Result.{err_from_is_err_and}
use Rattle.vv_machine.specs.Machine.{here, starting_with, enough}
use Rattle.vv_machine.proofs.Weights.{measure, falls, driven_on, enough_moves}
use Rattle.vv_machine.proofs.Leading.{moved, stopped, fell, drives_on, halted, over_reads, over_deep}
use Rattle.vv_machine.proofs.machine.run.Goals as goal

pub moves-init : goal.moves-init
moves-init c =
    let h = c.in_ok-state.ensures.ok in
    let ts = c.args.tokens.now in
    let K = starting_with c.args.steps.now c.args.at in (
      rw (h.0, h.1, h.2, h.3) (here c.args.edition ts _ c.args.at),
      rw (h.0, h.1, h.2, h.3) (driven_on (suc (measure c.args.edition ts K c.args.at)) (enough ts K) c.args.edition ts K c.args.at None _ (omega arith) (enough_moves c.args.edition ts K c.args.at)),
    )

pub moves-smaller : goal.moves-smaller
moves-smaller c =
    let L = c.in-Some.pending ∷ c.pop.new.self in
    rw c.in-Some.ensures
    (fell c.args.edition c.args.tokens.now L (record { stack = c.pop.new.self; at = c.moves.state.at; mark = c.moves.state.mark; events = c.moves.state.events }) c.make_move.new.state _
    (falls c.args.edition c.args.tokens.now L c.moves.state.at c.moves.state.mark) (rw c.in_ok-jumps.ensures at c.in_ok-make_move.ensures.ok))

pub moves-preserved : goal.moves-preserved
moves-preserved c =
    let L = c.in-Some.pending ∷ c.pop.new.self in
    let l = rw c.in-Some.ensures at c.moves.invariant.0 in
    let d = rw c.in-Some.ensures at c.moves.invariant.1 in (
      moved c.args.edition c.args.tokens.now (starting_with c.args.steps.now c.args.at) L c.args.at (record { stack = c.pop.new.self; at = c.moves.state.at; mark = c.moves.state.mark; events = c.moves.state.events }) c.make_move.new.state _ l refl (rw c.in_ok-jumps.ensures at c.in_ok-make_move.ensures.ok),
      drives_on c.args.edition c.args.tokens.now L (record { stack = c.pop.new.self; at = c.moves.state.at; mark = c.moves.state.mark; events = c.moves.state.events }) c.make_move.new.state _ d (rw c.in_ok-jumps.ensures at c.in_ok-make_move.ensures.ok),
    )

pub returns-in_err-make_move-clause-halts : goal.returns-in_err-make_move-clause-halts
returns-in_err-make_move-clause-halts c =
    let p = err_from_is_err_and c.from_residual-in_err-make_move.result c.from_residual-in_err-make_move.ensures.1 in
    let l = rw c.in-Some.ensures at c.moves.invariant.0 in
    rw (p.1, p.2) (stopped c.args.edition c.args.tokens.now (starting_with c.args.steps.now c.args.at) _ c.args.at (record { stack = c.pop.new.self; at = c.moves.state.at; mark = c.moves.state.mark; events = c.moves.state.events }) c.in_err-make_move.field-0.0 l (rw c.in_ok-jumps.ensures at c.in_err-make_move.ensures.err))

pub returns-in_err-make_move-clause-stopped : goal.returns-in_err-make_move-clause-stopped
returns-in_err-make_move-clause-stopped c =
    let p = err_from_is_err_and c.from_residual-in_err-make_move.result c.from_residual-in_err-make_move.ensures.1 in
    let d = rw c.in-Some.ensures at c.moves.invariant.1 in
    rw (p.1, p.2) (halted _ c.args.edition c.args.tokens.now _ c.moves.state.at c.moves.state.mark c.moves.state.events.items c.in_err-make_move.field-0.0 _ _ d refl (rw c.in_ok-jumps.ensures at c.in_err-make_move.ensures.err))

pub returns-in-Some-mark-clause-stopped : goal.returns-in-Some-mark-clause-stopped
returns-in-Some-mark-clause-stopped c =
    over_deep _ c.args.edition c.args.tokens.now _ c.moves.state.at c.in-Some-mark.start c.moves.state.mark c.moves.state.events.items _ c.moves.invariant.1
    c.in_default.ensures.0 c.in-Some-mark.is

pub returns-clause-outcome : goal.returns-clause-outcome
returns-clause-outcome c =
    over_reads _ c.args.edition c.args.tokens.now _ c.moves.state.at c.moves.state.mark c.moves.state.events.items _ c.moves.invariant.1 c.in_default.ensures.0 c.in-None.is
