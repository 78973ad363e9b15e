use Rattle.std.proofs.Common.{◌≡◌, ◌+◌, ◌≤◌, length, ap, sym, ◌∙◌, arith, pos, Some, get_or, w32}
use Rattle.std.proofs.lemmas.Int.{to_z-of_z}
use Rattle.std.proofs.lemmas.Option.{get_or_from_slice_get, slice_get-get_or}
use Rattle.vv_bits.specs.declared.nine.S9.TheVariants.{Dash}
use Rattle.vv_vectors.specs.Vectors.{bit_of, vector_at, end_of}
use Rattle.vv_vectors.proofs.Places.{length-vector_at, get_or-vector_at}
use Rattle.vv_vectors.proofs.reading.bit.Goals as goal

pub returns : goal.returns
returns c =
    let cells = c.args.cells.now in
    let p = c.args.place in
    let k = c.args.k in
    let lies : end_of p ≤ length cells = omega (arith, c.requires.lies) in
    let read : get_or cells (p.first + k) (pos 0) ≡ c.get.result = get_or_from_slice_get cells (p.first + k) c.get.result (pos 0) c.get.ensures in
    slice_get-get_or (vector_at cells p) k Dash (omega (arith, length-vector_at cells p lies, c.requires.within))
    ∙ ap Some (get_or-vector_at cells p k Dash lies c.requires.within ∙ ap bit_of (read ∙ sym (to_z-of_z w32 c.get.result (record { sfits = c.get.type_inv }))) ∙ sym c.nine.ensures)
