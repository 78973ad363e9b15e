use Rattle.std.proofs.Common.{◌∙◌}
use Rattle.vv_gate_run.proofs.Lists.{no_events_are}
use Rattle.vv_gate_run.proofs.vhdl.signals.no_events.Goals as goal

pub returns : goal.returns
returns c = c.in_ok-events.ensures.items_if_clones_equal (λ y e. e) ∙ no_events_are c.args.values.now
