use Rattle.std.proofs.Common.{ap, ◌∙◌, not}
use Rattle.vv_gate_run.specs.Circuit.{assignments_in}
use Rattle.vv_gate_run.proofs.Sources.{idle_out, idle_in, idle_past}
use Rattle.vv_gate_run.proofs.vhdl.circuit.Circuit.is_idle.Goals as goal

pub returns-then-not-port : goal.returns-then-not-port
returns-then-not-port c =
    let h = c.in-Some.ensures.lookup in
    ap not c.is_assigned.ensures ∙ idle_out (assignments_in c.args.self.now) c.args.net c.args.self.now.ports.items c.deref.result.now c.in-Some.port.now c.deref.ensures.value h.3.0 h.1 c.if-not-port.true

pub returns-else-not-port : goal.returns-else-not-port
returns-else-not-port c =
    let h = c.in-Some.ensures.lookup in
    ap not c.if-not-port.false ∙ idle_in (assignments_in c.args.self.now) c.args.net c.args.self.now.ports.items c.deref.result.now c.in-Some.port.now c.deref.ensures.value h.3.0 h.1 c.if-not-port.false

pub returns-in-None : goal.returns-in-None
returns-in-None c = idle_past (assignments_in c.args.self.now) c.args.net c.args.self.now.ports.items c.deref.result.now c.deref.ensures.value c.in-None.ensures.lookup.3
