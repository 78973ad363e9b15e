use Rattle.std.proofs.Common.{◌≡◌, ◌≤◌, ◌+◌, ◌++◌, List, ℕ, length, map, drop}
use Rattle.vv_vlex.specs.Elements.{lexeme_of}
use Rattle.vv_vlex.specs.Tokens.{tokens_of, names_behind}
use Rattle.vv_vlex.proofs.tokens.lex.Given as goal

-- the tokens so far and those of the elements that are left are those of all
abbrev pub invariant-loop-lexeme : goal.invariant-loop-lexeme
invariant-loop-lexeme l = record {
  tokens : l.tokens ++ tokens_of l.file l.names (map lexeme_of (drop l.lexeme-index l.lexeme-items)) ≡ tokens_of l.file l.fn.names (map lexeme_of l.lexeme-items);
  names : names_behind l.names (map lexeme_of (drop l.lexeme-index l.lexeme-items)) ≡ names_behind l.fn.names (map lexeme_of l.lexeme-items);
  former : (more : List (List ℕ)) × (l.names ≡ l.fn.names ++ more);
  few : length l.names ≤ length l.fn.names + l.lexeme-index;
}
