use Rattle.vv_cycle.proofs.Instances.{chain_ranked as lemma}
use Rattle.vv_cycle.proofs.examples.chain_ranked.Goals as goal

pub returns : goal.returns
returns c = lemma
