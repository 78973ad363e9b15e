use Rattle.vv_gate_run.specs.Circuit.{design_of}
use Rattle.vv_gate_run.proofs.Sources.{readied_next, readied_end}
use Rattle.vv_gate_run.proofs.vhdl.circuit.Circuit.readied.Goals as goal

pub loop-process-preserved : goal.loop-process-preserved
loop-process-preserved c =
    readied_next (design_of c.args.self.now).processes c.args.events.now c.args.parts.now c.loop-process.process _ c.loop-process.readied.items c.push.new.self.items c.woken.result _
    c.loop-process-test.true c.in_ok-push.ensures.items c.woken.ensures c.loop-process.invariant

pub returns : goal.returns
returns c = readied_end (design_of c.args.self.now).processes c.args.events.now c.args.parts.now c.loop-process.process c.loop-process.readied.items _ c.loop-process-test.false c.loop-process.invariant
