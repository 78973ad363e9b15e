use Rattle.vv_vast.proofs.OneCut.{one_cut as lemma}
use Rattle.vv_vast.proofs.laws.one_cut.Goals as goal

pub returns : goal.returns
returns c = lemma
