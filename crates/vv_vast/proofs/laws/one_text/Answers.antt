use Rattle.vv_vast.proofs.OneTree.{one_text as lemma}
use Rattle.vv_vast.proofs.laws.one_text.Goals as goal

pub returns : goal.returns
returns c = lemma
