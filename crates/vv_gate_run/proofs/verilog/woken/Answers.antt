use Rattle.std.proofs.Common.{◌∙◌, sym, ap, ◌+◌, ◌∷◌, false, drop}
use Rattle.vv_events.specs.Steps as steps
use Rattle.vv_gate_verilog.specs.Events.{events_of}
use Rattle.vv_gate_run.specs.Flat.{flat_of}
use Rattle.vv_gate_run.proofs.Lists.{appended, done}
use Rattle.vv_gate_run.proofs.Events.{woken_more, woken_end}
use Rattle.vv_gate_run.proofs.verilog.woken.Goals as goal

pub loop-item-preserved : goal.loop-item-preserved
loop-item-preserved c = λ old new.
    let flat = flat_of c.args.flat.now in
    let flags = c.args.active.now in
    let i = c.loop-item.item in
    appended c.loop-item.flags.items c.push.new.self.items c.woken_flag.result _ _ _ c.in_ok-push.ensures.items
    (woken_more flat.items c.args.object old new flags i false c.loop-item-test.true
    ∙ ap (λ f. f ∷ steps.woken (drop (i + 1) (events_of flat)) c.args.object old new (drop (i + 1) flags)) (sym c.woken_flag.ensures))
    (c.loop-item.invariant old new)

pub returns : goal.returns
returns c = λ old new.
    done c.loop-item.flags.items _ _ (woken_end (events_of (flat_of c.args.flat.now)) c.args.object old new c.args.active.now c.loop-item.item c.loop-item-test.false) (c.loop-item.invariant old new)
