use Rattle.std.proofs.Common.{◌≡◌, ◌<◌, ◌+◌, get_or, ap, sym, ◌∙◌, arith, pos, w32}
use Rattle.std.proofs.lemmas.Int.{to_z-of_z}
use Rattle.std.proofs.lemmas.Option.{get_or_from_slice_get}
use Rattle.vv_vectors.specs.Vectors.{cells_at}
use Rattle.vv_vectors.proofs.Places.{get_or-cells_at}
use Rattle.vv_std_cells.proofs.Cells.{first_is}
use Rattle.vv_std_cells.proofs.relations.first.Goals as goal

pub returns-else-place-eq0 : goal.returns-else-place-eq0
returns-else-place-eq0 c =
    let cells = c.args.cells.now in
    let p = c.args.place in
    let some : 0 < p.size = omega (arith, c.if-place-eq0.false) in
    let here : p.first ≡ p.first + 0 = omega arith in
    to_z-of_z w32 c.get.result (record { sfits = c.get.type_inv })
    ∙ sym (get_or_from_slice_get cells p.first c.get.result (pos 0) c.get.ensures)
    ∙ ap (λ n. get_or cells n (pos 0)) here
    ∙ sym (get_or-cells_at cells p 0 (pos 0) some)
    ∙ sym (first_is (cells_at cells p))
