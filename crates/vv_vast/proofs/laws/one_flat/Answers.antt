use Rattle.vv_vast.proofs.OneFlat.{one_flat as lemma}
use Rattle.vv_vast.proofs.laws.one_flat.Goals as goal

pub returns : goal.returns
returns c = lemma
