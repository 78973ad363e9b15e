use Rattle.std.proofs.Common.{◌≡◌, List, true, false, sym, ◌∙◌, subst, map, flat_map}
use Rattle.std.specs.Option.{is_some}
use Rattle.std.proofs.lemmas.Bool.{not-false}
use Rattle.std.specs.Str.{bytes_eq}
use Rattle.vv_gate.specs.Tree.{ports_of, ports_of_group}
use Rattle.vv_gate.specs.View.{file_of, group_of, assignment_of}
use Rattle.vv_gate.specs.declared.tree.Group.{Group}
use Rattle.vv_gate.specs.declared.tree.Assignment as program
use Rattle.vv_gate_check.specs.Names.{Declares, Assigns}
use Rattle.vv_gate_check.proofs.Whole.{found_later, found_in_assignments}
use Rattle.vv_gate_check.proofs.place.first_place.Goals as goal

pub returns : goal.returns
returns c =
    let f = file_of c.args.file.now in
    let n = c.in_ok-names.names in
    let m = c.declare_all.new.self in
    let place = c.in_ok-repeated.repeated in
    let P : List Group → Type 0 = λ l. Declares (flat_map ports_of_group (map group_of l)) n m place in
    let Q : List program.Assignment → Type 0 = λ l. Assigns (map assignment_of l) m c.assign_all.new.self c.assign_all.result in
    let top_is : bytes_eq c.args.top.now f.entity.text ≡ true = not-false (bytes_eq c.args.top.now f.entity.text) (sym c.ne.ensures ∙ c.if-ne.false) in
    let of_is : bytes_eq f.of.text f.entity.text ≡ true = not-false (bytes_eq f.of.text f.entity.text) (sym c.ne-2.ensures ∙ c.if-ne-2.false) in
    let none : is_some place ≡ false = sym c.is_some.ensures ∙ c.if-is_some.false in
    let declares : Declares (ports_of f) n m place = subst P c.deref-2.ensures.value c.in_ok-repeated.ensures in
    found_later c.args.top.now f n m place c.assign_all.result top_is c.in_ok-names.ensures declares none
    (found_in_assignments f n m c.assign_all.new.self place c.assign_all.result c.in_ok-names.ensures declares none of_is (subst Q c.deref-3.ensures.value c.assign_all.ensures))
