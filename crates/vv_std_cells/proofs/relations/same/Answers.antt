use Rattle.std.proofs.Common.{◌≡◌, ◌<◌, ◌+◌, length, ap, sym, ◌∙◌, arith, pos, w32, to_z, of_z}
use Rattle.std.proofs.lemmas.Int.{to_z-of_z}
use Rattle.std.proofs.lemmas.Option.{get_or_from_slice_get}
use Rattle.vv_vectors.specs.Vectors.{cells_at}
use Rattle.vv_vectors.proofs.Places.{get_or-cells_at, length-cells_at}
use Rattle.vv_std_cells.proofs.Cells.{same_on, other_here}
use Rattle.vv_std_cells.proofs.relations.same.Goals as goal

pub returns-then-get : goal.returns-then-get
returns-then-get c =
    let cells = c.args.cells.now in
    let a = c.args.a in
    let b = c.args.b in
    let k = c.loop-k.k in
    let x = c.get.result in
    let y = c.get-in-loop-k.result in
    let in_a : k < a.size = omega (arith, c.loop-k-test.true) in
    let in_b : k < b.size = omega (arith, c.loop-k-test.true, c.if-a-b.false) in
    let left : k < length (cells_at cells a) = omega (arith, length-cells_at cells a (omega (arith, c.requires.a)), in_a) in
    let right : k < length (cells_at cells b) = omega (arith, length-cells_at cells b (omega (arith, c.requires.b)), in_b) in
    let read_a = get_or-cells_at cells a k (pos 0) in_a ∙ get_or_from_slice_get cells (a.first + k) x (pos 0) c.get.ensures in
    let read_b = get_or-cells_at cells b k (pos 0) in_b ∙ get_or_from_slice_get cells (b.first + k) y (pos 0) c.get-in-loop-k.ensures in
    sym (sym c.loop-k.invariant
    ∙ other_here (cells_at cells a) (cells_at cells b) k x y left right read_a read_b (λ e. c.if-get.true (ap (of_z w32) e)))

pub loop-k-preserved : goal.loop-k-preserved
loop-k-preserved c =
    let cells = c.args.cells.now in
    let a = c.args.a in
    let b = c.args.b in
    let k = c.loop-k.k in
    let x = c.get.result in
    let y = c.get-in-loop-k.result in
    let in_a : k < a.size = omega (arith, c.loop-k-test.true) in
    let in_b : k < b.size = omega (arith, c.loop-k-test.true, c.if-a-b.false) in
    let left : k < length (cells_at cells a) = omega (arith, length-cells_at cells a (omega (arith, c.requires.a)), in_a) in
    let right : k < length (cells_at cells b) = omega (arith, length-cells_at cells b (omega (arith, c.requires.b)), in_b) in
    let read_a = get_or-cells_at cells a k (pos 0) in_a ∙ get_or_from_slice_get cells (a.first + k) x (pos 0) c.get.ensures in
    let read_b = get_or-cells_at cells b k (pos 0) in_b ∙ get_or_from_slice_get cells (b.first + k) y (pos 0) c.get-in-loop-k.ensures in
    let same : x ≡ y =
    sym (to_z-of_z w32 x (record { sfits = c.get.type_inv })) ∙ ap (to_z w32) c.if-get.false
    ∙ to_z-of_z w32 y (record { sfits = c.get-in-loop-k.type_inv }) in
    same_on (cells_at cells a) (cells_at cells b) k x y left right read_a read_b same ∙ c.loop-k.invariant
