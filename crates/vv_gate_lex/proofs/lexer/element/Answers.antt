use Rattle.std.proofs.Common.{◌≡◌, ◌+◌, ◌∷◌, true, take, add-one, ◌∙◌, rules}
use Rattle.vv_gate.specs.Whole.{is_letter}
use Rattle.vv_gate_lex.specs.Lexical.{name_tail}
use Rattle.vv_gate_lex.proofs.Tokens.{letter_symbol}
use Rattle.vv_gate_lex.proofs.lexer.element.Goals as goal

pub returns-then-is_letter-clause-symbol : goal.returns-then-is_letter-clause-symbol
returns-then-is_letter-clause-symbol c = λ at.
    let letter : is_letter c.args.first ≡ true = search rules in
    let text : take (c.name_tail-size.result + 1) c.args.bytes.now ≡ c.args.first ∷ take (name_tail c.args.more.now) c.args.more.now =
    rw (c.name_tail-size.ensures.value, c.requires, add-one) in
    c.word.ensures at ∙ letter_symbol c.args.first c.args.more.now _ letter text at
