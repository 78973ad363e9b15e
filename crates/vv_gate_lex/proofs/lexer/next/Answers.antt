use Rattle.vv_gate_lex.specs.Symbols.{symbol_of}
use Rattle.std.proofs.Common.{length, ◌-◌}
use Rattle.vv_gate_lex.proofs.Tokens.{token_next}
use Rattle.vv_gate_lex.proofs.lexer.next.Goals as goal

pub returns-clause-token : goal.returns-clause-token
returns-clause-token c =
    let at = c.args.total - length c.skip-rest.result.now in
    token_next c.args.total c.args.bytes.now c.skip-rest.result.now c.element-size.result.1 (symbol_of at c.element-size.result.0)
    c.skip-rest.ensures.value c.in-len1-up.len_at_least c.element-size.ensures.size (c.element-size.ensures.symbol at)
