use Rattle.std.proofs.Common.{◌≡◌, ◌∙◌, sym, length, rules}
use Rattle.std.proofs.lemmas.List.{length-map}
use Rattle.vv_gate.specs.View.{file_of, assignment_of}
use Rattle.vv_gate_run.specs.Circuit.{design_of}
use Rattle.vv_gate_run.specs.Vhdl.{state_of}
use Rattle.vv_gate_run.proofs.Ends.{ends}
use Rattle.vv_gate_run.proofs.vhdl.settle.Goals as goal

pub returns-clause-ends : goal.returns-clause-ends
returns-clause-ends c =
    let assignments = c.args.file.now.assignments.items in
    let n : c.len.result ≡ length assignments = search rules in
    ends (file_of c.args.file.now) (design_of c.in_ok-circuit.circuit) (state_of c.args.start) c.len.result c.saturating_add.result c.saturating_mul-most.result c.saturating_add-2.result c.run.result
    c.in_ok-circuit.ensures.design (n ∙ sym (length-map assignments assignment_of)) c.saturating_add.ensures c.saturating_mul-most.ensures c.saturating_add-2.ensures c.run.ensures.endless
