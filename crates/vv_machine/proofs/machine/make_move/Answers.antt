use Rattle.std.proofs.lemmas.Result.{on_ok_weaker, IfErr-weaker}
use Rattle.vv_machine.specs.Machine.{IsSettled, IsStop, move}
use Rattle.vv_machine.proofs.Leading.{unsettled, settles}
use Rattle.vv_machine.proofs.machine.make_move.Goals as goal
use Rattle.std.specs.Prelude.{◌∷◌}

pub returns-clause-ok : goal.returns-clause-ok
returns-clause-ok c = on_ok_weaker c.settle.result
    (unsettled c.args.state.now c.advance.new.state c.args.state.now.at c.args.state.now.mark _ c.in_ok-advance.ensures.ok) c.settle.ensures.ok

pub returns-clause-err : goal.returns-clause-err
returns-clause-err c =
    let old = c.args.state.now in
    IfErr-weaker c.settle.result (λ s. IsSettled s c.advance.new.state.mark old.at c.advance.new.state.at)
    (λ s. IsStop s old.at (move c.args.jumps.now.edition c.args.tokens.now (c.args.pending ∷ old.stack) old.at old.mark))
    (λ s h. settles old c.advance.new.state old.at old.mark s _ c.in_ok-advance.ensures.ok h) c.settle.ensures.err
