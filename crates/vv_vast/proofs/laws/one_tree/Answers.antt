use Rattle.vv_vast.proofs.OneTree.{one_tree as lemma}
use Rattle.vv_vast.proofs.laws.one_tree.Goals as goal

pub returns : goal.returns
returns c = lemma
