use Rattle.std.proofs.Common.{List, ◌∷◌, [], subst, sym, ◌∙◌, ap, None, flat_map}
use Rattle.vv_gate.specs.Tree.{Port}
use Rattle.vv_gate.specs.declared.tree.Ident.{Ident}
use Rattle.vv_gate.specs.View.{ident_of}
use Rattle.vv_gate_check.specs.Places.{port_of}
use Rattle.vv_gate_check.specs.Names.{Declares}
use Rattle.vv_gate_check.proofs.Declares.{declares_next_read, declares_last_read, declares_whole, ports_of_idents}
use Rattle.vv_gate_check.proofs.names.Names.declare_group.Goals as goal

pub returns-then-is_some : goal.returns-then-is_some
returns-then-is_some c =
    let g = c.args.group.now in
    let f = λ (i : Ident). port_of g.input (ident_of i) ∷ [] in
    let P : List Port → Type 0 = λ l. Declares l c.args.self.now c.declare.new.self c.in_ok-place.place in
    subst P (ap (flat_map f) c.deref-ident-items.ensures.value ∙ ports_of_idents g.input g.idents.items)
    (declares_last_read f c.deref-ident-items.result.now c.loop-ident.ident-index _ c.args.self.now c.loop-ident.self c.declare.new.self c.in_ok-place.place
    c.loop-ident-test.true (sym c.is_some.ensures ∙ c.if-is_some.true) c.loop-ident.invariant c.in_ok-place.ensures)

pub loop-ident-preserved : goal.loop-ident-preserved
loop-ident-preserved c =
    declares_next_read (λ i. port_of c.args.group.now.input (ident_of i) ∷ []) c.deref-ident-items.result.now c.loop-ident.ident-index _ c.args.self.now c.loop-ident.self c.declare.new.self c.in_ok-place.place
    c.loop-ident-test.true (sym c.is_some.ensures ∙ c.if-is_some.false) c.loop-ident.invariant c.in_ok-place.ensures

pub returns : goal.returns
returns c =
    let g = c.args.group.now in
    let f = λ (i : Ident). port_of g.input (ident_of i) ∷ [] in
    let P : List Port → Type 0 = λ l. Declares l c.args.self.now c.loop-ident.self None in
    subst P (ap (flat_map f) c.deref-ident-items.ensures.value ∙ ports_of_idents g.input g.idents.items)
    (declares_whole f c.deref-ident-items.result.now c.loop-ident.ident-index c.args.self.now c.loop-ident.self c.loop-ident-test.false c.loop-ident.invariant)
