use Rattle.vv_bits.proofs.Sources.{next_source}
use Rattle.vv_bits.proofs.resolution.resolve_all9.Goals as goal

pub loop-x-preserved : goal.loop-x-preserved
loop-x-preserved c = next_source _ _ _ _ c.loop-x-test.true c.loop-x.invariant _ c.resolve_two9-all.ensures
