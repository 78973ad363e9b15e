use Rattle.std.proofs.Common.{sym}
use Rattle.vv_num_vectors.proofs.Reading.{length_kept}
use Rattle.vv_num_vectors.proofs.conversion.to_integer.Goals as goal

pub returns-in-Some-clause-length : goal.returns-in-Some-clause-length
returns-in-Some-clause-length c =
    length_kept c.args.cells.now c.put_scalar.new.cells _ c.args.to c.put_scalar.ensures c.requires.to (sym c.requires.one)
