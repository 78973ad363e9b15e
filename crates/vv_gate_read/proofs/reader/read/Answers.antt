use Rattle.std.proofs.Common.{◌≡◌}
use Rattle.vv_gate_lex.specs.Lexical.{tokens_of}
use Rattle.vv_gate_read.specs.Machine.{drive, start, Stops}
use Rattle.vv_gate.specs.View.{file_of}
use Rattle.vv_gate_read.proofs.Order.{tokens-ordered}
use Rattle.vv_gate_read.proofs.Judged.{read_well, stops_well, within}
use Rattle.vv_gate_read.proofs.reader.read.Goals as goal

pub returns-in-Ok-clause-answer : goal.returns-in-Ok-clause-answer
returns-in-Ok-clause-answer c = read_well (file_of c.in-Ok.file) (tokens_of c.args.bytes.now) (tokens-ordered c.args.bytes.now) c.in-Ok.ensures

pub returns-in-Err-Misplaced-clause-answer : goal.returns-in-Err-Misplaced-clause-answer
returns-in-Err-Misplaced-clause-answer c =
    let stops : drive start (tokens_of c.args.bytes.now) ≡ Stops c.in-Err-Misplaced.at = rw c.in-Err-Misplaced.field-0-is at c.in-Err-Misplaced.ensures in
    stops_well c.in-Err-Misplaced.at (tokens_of c.args.bytes.now) (tokens-ordered c.args.bytes.now) stops

pub returns-in-Err-Misplaced-clause-within : goal.returns-in-Err-Misplaced-clause-within
returns-in-Err-Misplaced-clause-within c =
    let stops : drive start (tokens_of c.args.bytes.now) ≡ Stops c.in-Err-Misplaced.at = rw c.in-Err-Misplaced.field-0-is at c.in-Err-Misplaced.ensures in
    within c.args.bytes.now c.in-Err-Misplaced.at (stops_well c.in-Err-Misplaced.at (tokens_of c.args.bytes.now) (tokens-ordered c.args.bytes.now) stops)
