use Rattle.std.proofs.Common.{◌≡◌, ◌≤◌, [], ◌∷◌, length, ap, sym, ◌∙◌, arith, pos, get_or, w32}
use Rattle.std.proofs.lemmas.Int.{to_z-of_z}
use Rattle.std.proofs.lemmas.Option.{get_or_from_slice_get}
use Rattle.vv_vectors.specs.Vectors.{end_of}
use Rattle.vv_vectors.proofs.Places.{one_cell}
use Rattle.vv_vectors.proofs.reading.scalar.Goals as goal

pub returns : goal.returns
returns c =
    let cells = c.args.cells.now in
    let p = c.args.place in
    let lies : end_of p ≤ length cells = omega (arith, c.requires.lies) in
    let read : get_or cells p.first (pos 0) ≡ c.get.result = get_or_from_slice_get cells p.first c.get.result (pos 0) c.get.ensures in
    one_cell cells p lies c.requires.one
    ∙ ap (λ z. z ∷ []) (read ∙ sym (to_z-of_z w32 c.get.result (record { sfits = c.get.type_inv })))
