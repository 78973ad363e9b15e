use Rattle.std.proofs.Common.{◌≡◌, ◌+◌, ◌*◌, ◌∙◌, ap, sym, subst, length, ℕ, arith}
use Rattle.std.proofs.lemmas.List.{get_or_read}
use denote.Enum.Declared.{tag_of}
use Rattle.vv_grammar.specs.contracts.place.Place as p
use Rattle.vv_machine.specs.Jumps.{turn_of}
use Rattle.vv_machine.specs.Machine.{choose}
use Rattle.vv_grammar.specs.Table.{alternatives}
use Rattle.vv_machine.proofs.Jumping.{numbered, number_below, found, numbers-length, place_in, terminal_in}
use Rattle.vv_machine.proofs.jumps.Jumps.at.Goals as goal

pub overflow_add-place : goal.overflow_add-place
overflow_add-place c = let h = place_in c.args.place in let k = terminal_in c.args.terminal in omega (arith, h, k, c.number_of.ensures)

pub index-requires : goal.index-requires
index-requires c =
    let h = place_in c.args.place in
    let k = terminal_in c.args.terminal in
    let l = ap length c.args.self.now.right ∙ numbers-length c.args.self.now.edition in
    omega (arith, h, k, l, c.number_of.ensures, c.args.self.now.cells.ok.0)

pub returns-clause-turn : goal.returns-clause-turn
returns-clause-turn c =
    let h = place_in c.args.place in
    let k = terminal_in c.args.terminal in
    let l = ap length c.args.self.now.right ∙ numbers-length c.args.self.now.edition in
    let r = get_or_read c.args.self.now.cells.items (tag_of p.the_type c.args.place * 126 + c.number_of.result) c.index.result.now (omega (arith, h, k, l, c.number_of.ensures)) c.index.ensures 0 in
    let v = found c.args.self.now.edition c.args.place c.args.terminal c.args.self.now.cells.items c.number_of.result c.index.result.now c.args.self.now.right c.number_of.ensures r in
    subst (λ (n : ℕ). turn_of (alternatives c.args.self.now.edition c.args.place) n ≡ choose (alternatives c.args.self.now.edition c.args.place) c.args.terminal) (sym v)
    (numbered (alternatives c.args.self.now.edition c.args.place) c.args.terminal)

pub returns-clause-below : goal.returns-clause-below
returns-clause-below c =
    let h = place_in c.args.place in
    let k = terminal_in c.args.terminal in
    let l = ap length c.args.self.now.right ∙ numbers-length c.args.self.now.edition in
    let r = get_or_read c.args.self.now.cells.items (tag_of p.the_type c.args.place * 126 + c.number_of.result) c.index.result.now (omega (arith, h, k, l, c.number_of.ensures)) c.index.ensures 0 in
    let v = found c.args.self.now.edition c.args.place c.args.terminal c.args.self.now.cells.items c.number_of.result c.index.result.now c.args.self.now.right c.number_of.ensures r in
    let b = number_below (alternatives c.args.self.now.edition c.args.place) c.args.terminal in
    omega (arith, v, b)
