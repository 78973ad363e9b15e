use Rattle.std.proofs.Common.{◌≡◌, ◌≤◌, ◌+◌, length, map, false}
use Rattle.vv_vlex.specs.Elements.{lexeme_of}
use Rattle.vv_vlex.specs.Lexical.{in_front, scan}
use Rattle.vv_vlex.proofs.lexer.elements.Given as goal

-- what was found and what the rest gives is what the file gives
abbrev pub invariant-pieces : goal.invariant-pieces
invariant-pieces l = record {
  value : in_front (map lexeme_of l.found.items) (scan l.total l.rest 0 l.is_named) ≡ scan l.total l.fn.bytes 0 false;
  within : length l.rest ≤ l.total;
  few : length l.found.items + length l.rest ≤ l.total;
  limit : l.total ≤ 16777216;
  all : l.total ≡ length l.fn.bytes;
}

abbrev pub decreases-pieces : goal.decreases-pieces
decreases-pieces l = length l.rest
