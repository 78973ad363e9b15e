-- What a token is, as contracts see it: a name holds its text and its place.
use Rattle.std.specs.Prelude.{ℕ, Bool, false, ◌==◌}
use Rattle.vv_gate.specs.Tree.{Ident}
use Rattle.vv_gate.specs.declared.token.Mark.{Mark}
use Rattle.vv_gate.specs.declared.token.Mark.TheVariants as mk
use Rattle.vv_gate.specs.declared.token.Symbol as code
use Rattle.vv_gate.specs.declared.token.Symbol.TheVariants as symbol
use Rattle.vv_gate.specs.declared.token.Token as declared

pub data Symbol : Type 0 where
  name : Ident → Symbol
  mark : Mark → Symbol
  other : ℕ → Symbol
  -- the end of the file
  finish : Symbol

pub record Token : Type 0 where
  pub symbol : Symbol
  pub at : ℕ

abbrev pub mark_code : Mark → ℕ
mark_code mk.Library = 0
mark_code mk.Use = 1
mark_code mk.All = 2
mark_code mk.Entity = 3
mark_code mk.Is = 4
mark_code mk.Port = 5
mark_code mk.In = 6
mark_code mk.Out = 7
mark_code mk.End = 8
mark_code mk.Architecture = 9
mark_code mk.Of = 10
mark_code mk.Begin = 11
mark_code mk.Not = 12
mark_code mk.And = 13
mark_code mk.Or = 14
mark_code mk.Xor = 15
mark_code mk.Ieee = 16
mark_code mk.StdLogic = 17
mark_code mk.Reserved = 18
mark_code mk.Semicolon = 19
mark_code mk.Dot = 20
mark_code mk.Open = 21
mark_code mk.Close = 22
mark_code mk.Colon = 23
mark_code mk.Comma = 24
mark_code mk.Arrow = 25
mark_code mk.Zero = 26
mark_code mk.One = 27

unfoldable pub is_mark : Mark → Symbol → Bool
is_mark m (mark n) = mark_code n == mark_code m
is_mark m (name i) = false
is_mark m (other b) = false
is_mark m finish = false

-- a token of the program at an offset
abbrev pub symbol_of : ℕ → code.Symbol → Symbol
symbol_of at (symbol.Name text) = name (record { text = text.now; at = at })
symbol_of at (symbol.Mark m) = mark m
symbol_of at (symbol.Other b) = other b

abbrev pub token_of : declared.Token → Token
token_of t = record { symbol = symbol_of t.at t.symbol; at = t.at }
