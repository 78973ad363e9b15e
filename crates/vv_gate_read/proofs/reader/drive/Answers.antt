use Rattle.std.proofs.Common.{◌≡◌, length, None, Some, Option, ap, ◌∙◌, arith}
use Rattle.vv_gate.specs.Tree.{GateFile}
use Rattle.vv_gate.specs.View.{file_of}
use Rattle.vv_gate_lex.specs.Symbols.{token_of}
use Rattle.vv_gate_lex.specs.Lexical.{tokens}
use Rattle.vv_gate_read.specs.Machine.{drive, start, step, ending}
use Rattle.vv_gate_read.specs.Places.{state_of}
use Rattle.vv_gate_read.proofs.Drives.{takes_on, stops_on, ends_on, closed}
use Rattle.vv_gate_read.proofs.reader.drive.Goals as goal

pub returns-in-Err-Misplaced : goal.returns-in-Err-Misplaced
returns-in-Err-Misplaced c =
    let stuck : step (state_of c.tokens.state) (token_of c.in-Some.token).symbol ≡ None = rw c.in-Err-Misplaced.field-0-is at c.in-Err-Misplaced.ensures in
    stops_on (length c.args.bytes.now) (state_of c.tokens.state) (token_of c.in-Some.token) c.tokens.rest.now c.in-Some.more.now
    (drive start (tokens (length c.args.bytes.now) c.args.bytes.now)) c.in-Some.ensures.token stuck c.tokens.invariant.same

pub tokens-preserved : goal.tokens-preserved
tokens-preserved c = record {
  same = takes_on (length c.args.bytes.now) (state_of c.tokens.state) (state_of c.in-Ok.state) (token_of c.in-Some.token) c.tokens.rest.now c.in-Some.more.now
      (drive start (tokens (length c.args.bytes.now) c.args.bytes.now)) c.in-Some.ensures.token c.in-Ok.ensures c.tokens.invariant.same;
  within = (let less = c.in-Some.ensures.less in omega (arith, less, c.tokens.invariant.within));
}

pub returns-in-Some-finish : goal.returns-in-Some-finish
returns-in-Some-finish c =
    let end : ending (state_of c.tokens.state) ≡ Some (file_of c.in-Some-finish.file) = c.in-Some-finish.ensures in
    ends_on (length c.args.bytes.now) (state_of c.tokens.state) c.tokens.rest.now (drive start (tokens (length c.args.bytes.now) c.args.bytes.now)) c.in_default.ensures.token c.tokens.invariant.same
    ∙ ap (λ (o : Option GateFile). closed o (length c.args.bytes.now)) end

pub returns-in-None : goal.returns-in-None
returns-in-None c =
    let end : ending (state_of c.tokens.state) ≡ None = c.in-None.ensures in
    ends_on (length c.args.bytes.now) (state_of c.tokens.state) c.tokens.rest.now (drive start (tokens (length c.args.bytes.now) c.args.bytes.now)) c.in_default.ensures.token c.tokens.invariant.same
    ∙ ap (λ (o : Option GateFile). closed o (length c.args.bytes.now)) end
