use Rattle.std.proofs.Common.{◌≡◌, Bool, true, false, not, refl, sym, ◌∙◌}
use Rattle.std.proofs.lemmas.Bool.{or_left, or_right}
use Rattle.vv_gate.specs.View.{ident_of}
use Rattle.vv_gate_check.specs.Places.{is_among}
use Rattle.vv_gate_check.specs.Names.{names_in}
use Rattle.vv_gate_check.proofs.Among.{among_keys, inserted}
use Rattle.vv_gate_check.proofs.Declares.{adds_again, adds_new}
use Rattle.vv_gate_check.proofs.names.add.Goals as goal
use Rattle.vv_gate_check.proofs.names.add.Goals.{then-contains-via-then-contains, then-contains-via-else-contains+in_ok-insert+then-not-branch}

was_there : (added there : Bool) → added ≡ not there → added ≡ false → there ≡ true
was_there added true e h = refl
was_there added false e h = cc

was_not : (added there : Bool) → added ≡ not there → added ≡ true → there ≡ false
was_not added true e h = cc
was_not added false e h = refl

pub returns-then-contains : goal.returns-then-contains
returns-then-contains c =
    let name = c.args.ident.now.text.now in
    let others = names_in c.args.others.now in
    let names = names_in c.args.names.now in
    adds_again (ident_of c.args.ident.now) others names (names_in c.then-contains.names)
    (elim c.then-contains.branch [
      | then-contains-via-then-contains w ↦ or_left (is_among name others) (is_among name names) (among_keys name c.args.others.now.keys ∙ sym c.contains.ensures ∙ w.if-contains.true)
      | then-contains-via-else-contains+in_ok-insert+then-not-branch w ↦ or_right (is_among name others) (is_among name names)
          (among_keys name c.args.names.now.keys ∙ was_there _ _ w.in_ok-insert.ensures.added w.if-not-branch.true)
    ])

pub returns : goal.returns
returns c =
    let text = c.args.ident.now.text in
    adds_new (ident_of c.args.ident.now) (names_in c.args.others.now) (names_in c.args.names.now) (names_in c.insert.new.self)
    (among_keys text.now c.args.others.now.keys ∙ sym c.contains.ensures ∙ c.if-contains.false)
    (among_keys text.now c.args.names.now.keys ∙ was_not _ _ c.in_ok-insert.ensures.added c.if-not-branch.false)
    (inserted text c.args.names.now c.insert.new.self (c.in_ok-insert.ensures.updates.0))
