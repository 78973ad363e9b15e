use Rattle.std.proofs.Common.{ap, ◌∙◌, sym, ◌||◌}
use Rattle.vv_gate_run.specs.Circuit.{ports_in, assignments_in, is_idle}
use Rattle.vv_gate_run.proofs.Sources.{source_there}
use Rattle.vv_gate_run.proofs.vhdl.circuit.Circuit.has_source.Goals as goal

pub returns-then-is_assigned : goal.returns-then-is_assigned
returns-then-is_assigned c =
    let ports = ports_in c.args.self.now in
    let assignments = assignments_in c.args.self.now in
    c.if-is_assigned.true ∙ sym (source_there ports assignments c.args.net ∙ ap (λ b. b || is_idle ports assignments c.args.net) (sym c.is_assigned.ensures ∙ c.if-is_assigned.true))

pub returns-else-is_assigned : goal.returns-else-is_assigned
returns-else-is_assigned c =
    let ports = ports_in c.args.self.now in
    let assignments = assignments_in c.args.self.now in
    c.is_idle.ensures ∙ sym (source_there ports assignments c.args.net ∙ ap (λ b. b || is_idle ports assignments c.args.net) (sym c.is_assigned.ensures ∙ c.if-is_assigned.false))
