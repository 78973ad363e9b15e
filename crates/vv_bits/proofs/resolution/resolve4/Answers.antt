use Rattle.std.proofs.Common.{ap, sym, ◌∙◌}
use Rattle.std.proofs.lemmas.List.{take_all}
use Rattle.vv_bits.specs.Resolution.{resolve4_rule}
use Rattle.vv_bits.proofs.Drivers.{next_driver, all_equal, without_z}
use Rattle.vv_bits.proofs.resolution.resolve4.Goals as goal

pub loop-x-preserved : goal.loop-x-preserved
loop-x-preserved c = next_driver _ _ _ _ c.loop-x-test.true c.loop-x.invariant _ c.resolve_two4-all.ensures

pub returns-clause-equal : goal.returns-clause-equal
returns-clause-equal c v some same =
    c.loop-x.invariant ∙ ap resolve4_rule (take_all _ _ c.loop-x-test.false) ∙ all_equal c.args.list.now v some same

pub returns-clause-z_yields : goal.returns-clause-z_yields
returns-clause-z_yields c =
    c.loop-x.invariant ∙ ap resolve4_rule (take_all _ _ c.loop-x-test.false) ∙ sym (without_z c.args.list.now)
