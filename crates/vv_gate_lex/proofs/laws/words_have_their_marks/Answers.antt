use Rattle.vv_gate_lex.proofs.Words.{all_marks}
use Rattle.vv_gate_lex.proofs.laws.words_have_their_marks.Goals as goal

pub returns : goal.returns
returns c = all_marks
