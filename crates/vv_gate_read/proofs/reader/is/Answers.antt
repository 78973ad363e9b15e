use Rattle.vv_gate_lex.specs.Symbols.{is_mark}
use Rattle.vv_gate_lex.proofs.Marks.{tag_code}
use Rattle.vv_gate_read.proofs.reader.is.Goals as goal

pub returns-in-Name : goal.returns-in-Name
unfolding is_mark
returns-in-Name c = rw c.in-Name.is

pub returns-in-Mark : goal.returns-in-Mark
unfolding is_mark
returns-in-Mark c = rw (c.in-Mark.is, tag_code c.in-Mark.found, tag_code c.args.mark)

pub returns-in-Other : goal.returns-in-Other
unfolding is_mark
returns-in-Other c = rw c.in-Other.is
