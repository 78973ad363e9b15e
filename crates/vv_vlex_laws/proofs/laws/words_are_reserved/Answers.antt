use Rattle.vv_vlex_laws.proofs.Spellings.{all_reserved}
use Rattle.vv_vlex_laws.proofs.laws.words_are_reserved.Goals as goal

pub returns : goal.returns
returns c = all_reserved
