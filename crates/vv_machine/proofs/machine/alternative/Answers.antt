use Rattle.std.proofs.Common.{◌-◌, arith}
use Rattle.vv_grammar.specs.Table.{choice}
use Rattle.vv_machine.proofs.Jumping.{turn_there, rows_below}
use Rattle.vv_machine.proofs.machine.alternative.Goals as goal

pub returns : goal.returns
returns c =
    let b = rows_below (λ a. choice a.0.now a.1 a.2.now) c.alternatives.result.now _ c.args.number c.alternatives.ensures c.requires.below in
    rw (← c.alternatives.ensures)
    (turn_there (λ a. choice a.0.now a.1 a.2.now) c.alternatives.result.now (c.args.number - 1) c.args.number _ (omega (arith, c.requires.some)) (omega (arith, b, c.requires.some)))
