use Rattle.std.proofs.Common.{sym}
use Rattle.vv_std_cells.proofs.Reading.{length_kept}
use Rattle.vv_std_cells.proofs.rows.put_truth.Goals as goal

pub returns-clause-length : goal.returns-clause-length
returns-clause-length c =
    length_kept c.args.cells.now c.put_scalar.new.cells _ c.args.to c.put_scalar.ensures c.requires.lies (sym c.requires.one)
