use Rattle.vv_gate.specs.View.{file_of}
use Rattle.vv_gate_check.proofs.Law.{first_if_ok}
use Rattle.vv_gate_check.proofs.place.first_broken.Goals as goal

pub returns-clause-least : goal.returns-clause-least
returns-clause-least c = first_if_ok c.args.top.now (file_of c.args.file.now) c.first_place.result c.requires c.first_place.ensures
