use Rattle.std.proofs.Common.{ap, ◌∙◌, arith, set, w32}
use Rattle.std.proofs.lemmas.Int.{to_z-of_z}
use Rattle.vv_vectors.proofs.Places.{one_written}
use Rattle.vv_vectors.proofs.writing.put_scalar.Goals as goal

pub returns : goal.returns
returns c =
    c.set.ensures
    ∙ ap (λ v. set c.args.cells.now c.args.to.first v) (to_z-of_z w32 c.args.v (record { sfits = c.ranges.v.sfits }))
    ∙ one_written c.args.cells.now c.args.to c.args.v (omega (arith, c.requires.lies)) c.requires.one
