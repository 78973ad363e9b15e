use Rattle.vv_num_decls.proofs.Distinct.{all_differ}
use Rattle.vv_num_decls.proofs.laws.none_stands_twice.Goals as goal

pub returns : goal.returns
returns c = all_differ
