use Rattle.std.proofs.Common.{length}
use Rattle.vv_vlex.proofs.Seen.{finished, all-few, one-few, refused_too}
use Rattle.vv_vlex.proofs.tokens.lex.Goals as goal

pub returns-in-Err-clause-refused : goal.returns-in-Err-clause-refused
returns-in-Err-clause-refused c = refused_too c.in-Err.fault c.args.file c.args.bytes.now c.args.names.now c.in-Err.ensures.refused

pub returns-in_err-push-clause-few : goal.returns-in_err-push-clause-few
returns-in_err-push-clause-few c =
    one-few c.args.names.now c.loop-lexeme.names c.kind.new.names c.in-Ok.found.items c.deref-lexeme-items.result.now c.loop-lexeme.lexeme-index (length c.args.bytes.now) _
    c.deref-lexeme-items.ensures.value c.loop-lexeme-test.true c.in-Ok.ensures.ended c.in_ok-kind.ensures.names c.loop-lexeme.invariant.names

pub returns-clause-tokens : goal.returns-clause-tokens
returns-clause-tokens c =
    finished c.args.file c.args.bytes.now c.args.names.now c.loop-lexeme.names c.loop-lexeme.tokens c.in-Ok.found.items c.deref-lexeme-items.result.now c.loop-lexeme.lexeme-index
    c.in-Ok.ensures.found c.deref-lexeme-items.ensures.value c.loop-lexeme-test.false c.loop-lexeme.invariant.tokens c.loop-lexeme.invariant.names

pub returns-clause-few : goal.returns-clause-few
returns-clause-few c =
    all-few c.args.names.now c.loop-lexeme.names c.in-Ok.found.items c.deref-lexeme-items.result.now c.loop-lexeme.lexeme-index (length c.args.bytes.now)
    c.deref-lexeme-items.ensures.value c.loop-lexeme-test.false c.in-Ok.ensures.ended c.loop-lexeme.invariant.names
