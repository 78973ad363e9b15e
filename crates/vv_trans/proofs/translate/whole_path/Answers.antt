use Rattle.vv_trans.specs.Translation.{bytes_of, told}
use Rattle.vv_trans.proofs.Ways.{others_translated, same_refused}
use Rattle.vv_trans.proofs.translate.whole_path.Goals as goal

pub returns-in-Ok-clause-translated : goal.returns-in-Ok-clause-translated
returns-in-Ok-clause-translated c =
    others_translated c.args.top.now (bytes_of c.args.files.now) c.in-Ok.out.text c.in-Ok.out.map (told c.args.first) c.requires.lexed c.requires.parsed c.requires.first

pub returns-in-Err-Refused-clause-refused : goal.returns-in-Err-Refused-clause-refused
returns-in-Err-Refused-clause-refused c =
    same_refused c.args.top.now (bytes_of c.args.files.now) c.within.result (told c.args.first) c.requires.lexed c.requires.parsed c.requires.first
