use Rattle.std.proofs.Common.{refl, sym, ◌∙◌, ap, map, flat_map}
use Rattle.vv_gate.specs.View.{assignment_of, term_of}
use Rattle.vv_gate_check.specs.Places.{first, unknown_term}
use Rattle.vv_gate_check.specs.Names.{inputs_in}
use Rattle.vv_gate_check.proofs.Among.{among_keys, removed}
use Rattle.vv_gate_check.proofs.Assigns.{assigns_missing, assigns_taken}
use Rattle.vv_gate_check.proofs.names.Names.assign.Goals as goal

pub returns-then-not-remove : goal.returns-then-not-remove
returns-then-not-remove c =
    let n = c.args.self.now in
    let name = c.args.assignment.now.target.text in
    assigns_missing (assignment_of c.args.assignment.now) n _ (among_keys name.now n.outputs.keys ∙ sym c.remove.ensures.test ∙ c.if-not-remove.true) refl

pub returns : goal.returns
returns c =
    let n = c.args.self.now in
    let a = c.args.assignment.now in
    assigns_taken (assignment_of a) n _ c.first_unknown.result (among_keys a.target.text.now n.outputs.keys ∙ sym c.remove.ensures.test ∙ c.if-not-remove.false) refl
    (removed a.target.text n.outputs c.remove.new.self (c.remove.ensures.updates.0))
    (c.first_unknown.ensures ∙ ap (λ l. first (flat_map (unknown_term (inputs_in n)) (map term_of l))) c.deref.ensures.value)
