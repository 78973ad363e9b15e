use Rattle.std.proofs.Common.{◌≡◌, ◌+◌, ◌++◌, length, ap, ◌∙◌, arith, refl, length-append}
use Rattle.vv_types.specs.declared.cells.Place.{Place}
use Rattle.vv_vectors.specs.Vectors.{Apart, LiesIn, cells_at, with_cells}
use Rattle.vv_vectors.proofs.Places.{apart_cells, length-cells_at}
use Rattle.vv_std_cells.proofs.Cells.{joined}
use Rattle.vv_std_cells.proofs.Reading.{length_kept}
use Rattle.vv_std_cells.proofs.elements.join.Goals as goal

pub overflow_add-back : goal.overflow_add-back
overflow_add-back c = omega (arith, c.requires.to, c.requires.some, c.requires.size)

pub returns-clause-value : goal.returns-clause-value
returns-clause-value c =
    let old = c.args.cells.now in
    let a = c.args.a in
    let b = c.args.b in
    let to = c.args.to in
    let front : Place = record { first = to.first; size = a.size } in
    let back : Place = record { first = to.first + a.size; size = b.size } in
    let zs = cells_at old a in
    let size : length zs ≡ front.size = length-cells_at old a (omega (arith, c.requires.a)) in
    let lies : LiesIn old front = omega (arith, c.requires.to, c.requires.size) in
    let apart : Apart b front = grind (arith, c.requires.apart_b, c.requires.size) in
    let kept : cells_at (with_cells old front zs) b ≡ cells_at old b = apart_cells old zs b front lies c.requires.b size apart in
    c.copy-2.ensures
    ∙ (λ i. with_cells (c.copy.ensures i) back (cells_at (c.copy.ensures i) b))
    ∙ ap (λ ws. with_cells (with_cells old front zs) back ws) kept
    ∙ joined old zs (cells_at old b) to front back c.requires.to size refl refl c.requires.size

pub returns-clause-length : goal.returns-clause-length
returns-clause-length c =
    let old = c.args.cells.now in
    let a = c.args.a in
    let b = c.args.b in
    let to = c.args.to in
    let long_a : length (cells_at old a) ≡ a.size = length-cells_at old a (omega (arith, c.requires.a)) in
    let long_b : length (cells_at old b) ≡ b.size = length-cells_at old b (omega (arith, c.requires.b)) in
    let size : length (cells_at old a ++ cells_at old b) ≡ to.size =
    length-append (cells_at old a) (cells_at old b) ∙ omega (arith, long_a, long_b, c.requires.size) in
    length_kept old c.copy-2.new.cells (cells_at old a ++ cells_at old b) to (returns-clause-value c) c.requires.to size
