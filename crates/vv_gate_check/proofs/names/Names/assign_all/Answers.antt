use Rattle.std.proofs.Common.{List, ◌∷◌, [], subst, sym, ◌∙◌, None}
use Rattle.std.proofs.lemmas.List.Concat.{flat_map_single}
use Rattle.vv_gate.specs.Tree.{Assignment}
use Rattle.vv_gate.specs.View.{assignment_of}
use Rattle.vv_gate_check.specs.Names.{Assigns}
use Rattle.vv_gate_check.proofs.Assigns.{assigns_next, assigns_last, assigns_whole}
use Rattle.vv_gate_check.proofs.names.Names.assign_all.Goals as goal

pub returns-then-is_some : goal.returns-then-is_some
returns-then-is_some c =
    let P : List Assignment → Type 0 = λ l. Assigns l c.args.self.now c.assign-place.new.self c.assign-place.result in
    subst P (flat_map_single assignment_of c.args.assignments.now)
    (assigns_last (λ a. assignment_of a ∷ []) c.args.assignments.now c.loop-assignment.assignment-index c.assignment-item.result c.args.self.now c.loop-assignment.self c.assign-place.new.self c.assign-place.result
    c.loop-assignment-test.true c.assignment-item.is (sym c.is_some.ensures ∙ c.if-is_some.true) c.loop-assignment.invariant c.assign-place.ensures)

pub loop-assignment-preserved : goal.loop-assignment-preserved
loop-assignment-preserved c =
    assigns_next (λ a. assignment_of a ∷ []) c.args.assignments.now c.loop-assignment.assignment-index c.assignment-item.result c.args.self.now c.loop-assignment.self c.assign-place.new.self c.assign-place.result
    c.loop-assignment-test.true c.assignment-item.is (sym c.is_some.ensures ∙ c.if-is_some.false) c.loop-assignment.invariant c.assign-place.ensures

pub returns : goal.returns
returns c =
    let P : List Assignment → Type 0 = λ l. Assigns l c.args.self.now c.loop-assignment.self None in
    subst P (flat_map_single assignment_of c.args.assignments.now)
    (assigns_whole (λ a. assignment_of a ∷ []) c.args.assignments.now c.loop-assignment.assignment-index c.args.self.now c.loop-assignment.self c.loop-assignment-test.false c.loop-assignment.invariant)
