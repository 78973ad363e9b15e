use Rattle.std.proofs.Common.{◌≡◌, drop}
use Rattle.vv_vectors.specs.Vectors.{cells_at}
use Rattle.vv_std_cells.specs.Rows.{same_cells}
use Rattle.vv_std_cells.proofs.relations.same.Given as goal

-- the cells from here on are the same exactly where all cells are
abbrev pub invariant-loop-k : goal.invariant-loop-k
invariant-loop-k l =
    same_cells (drop l.k (cells_at l.cells l.a)) (drop l.k (cells_at l.cells l.b))
    ≡ same_cells (cells_at l.cells l.a) (cells_at l.cells l.b)
