use Rattle.std.proofs.Common.{List, subst, sym, ◌∙◌, None}
use Rattle.std.proofs.lemmas.List.Folds.{flat_map-map}
use Rattle.vv_gate.specs.Tree.{Port, ports_of_group}
use Rattle.vv_gate.specs.View.{group_of}
use Rattle.vv_gate_check.specs.Names.{Declares}
use Rattle.vv_gate_check.proofs.Declares.{declares_next, declares_last, declares_whole}
use Rattle.vv_gate_check.proofs.names.Names.declare_all.Goals as goal

pub returns-then-is_some : goal.returns-then-is_some
returns-then-is_some c =
    let P : List Port → Type 0 = λ l. Declares l c.args.self.now c.declare_group.new.self c.in_ok-place.place in
    subst P (sym (flat_map-map ports_of_group group_of c.args.groups.now))
    (declares_last (λ g. ports_of_group (group_of g)) c.args.groups.now c.loop-group.group-index c.group-item.result c.args.self.now c.loop-group.self c.declare_group.new.self c.in_ok-place.place
    c.loop-group-test.true c.group-item.is (sym c.is_some.ensures ∙ c.if-is_some.true) c.loop-group.invariant c.in_ok-place.ensures)

pub loop-group-preserved : goal.loop-group-preserved
loop-group-preserved c =
    declares_next (λ g. ports_of_group (group_of g)) c.args.groups.now c.loop-group.group-index c.group-item.result c.args.self.now c.loop-group.self c.declare_group.new.self c.in_ok-place.place
    c.loop-group-test.true c.group-item.is (sym c.is_some.ensures ∙ c.if-is_some.false) c.loop-group.invariant c.in_ok-place.ensures

pub returns : goal.returns
returns c =
    let P : List Port → Type 0 = λ l. Declares l c.args.self.now c.loop-group.self None in
    subst P (sym (flat_map-map ports_of_group group_of c.args.groups.now))
    (declares_whole (λ g. ports_of_group (group_of g)) c.args.groups.now c.loop-group.group-index c.args.self.now c.loop-group.self c.loop-group-test.false c.loop-group.invariant)
