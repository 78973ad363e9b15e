-- The tokens of a file, told without an order of reading: its bytes are cut into pieces, and no piece could be longer (IEEE 1076-1993, clause 13, cut down to what a file of gates has).
use Rattle.std.specs.Prelude.{◌≡◌, ◌≢◌, ◌≤◌, ◌+◌, ℕ, true, false, List, [], ◌∷◌, ◌++◌, length, flat_map, codes, All, Option, Some, None}
use Rattle.vv_gate.specs.Whole.{is_letter, IsName}
use Rattle.vv_gate.specs.declared.token.Mark.TheVariants.{Arrow, Zero, One}
use Rattle.vv_gate_lex.specs.Symbols.{Symbol, mark, finish, Token}
use Rattle.vv_gate_lex.specs.Lexical.{is_blank, named, keyword, sign}

-- a letter first, then letters, digits and underscores, with no two underscores in a row and none at the end
pub record IsNameText (text : List ℕ) : Type 0 where
  pub name : IsName text
  pub single : (front more : List ℕ) → text ≢ front ++ (codes "__" ++ more)
  pub last : (front : List ℕ) → text ≢ front ++ codes "_"

pub data Piece : Type 0 where
  -- one byte of white space
  blank : ℕ → Piece
  -- `--` and what stands behind it on its line
  comment : List ℕ → Piece
  -- a name or a reserved word
  word : List ℕ → Piece
  -- `<=`
  arrow : Piece
  -- `'0'`
  zero_bit : Piece
  -- `'1'`
  one_bit : Piece
  -- any other byte
  byte : ℕ → Piece

abbrev pub text_of : Piece → List ℕ
text_of (blank b) = b ∷ []
text_of (comment line) = codes "--" ++ line
text_of (word text) = text
text_of arrow = codes "<="
text_of zero_bit = codes "'0'"
text_of one_bit = codes "'1'"
text_of (byte b) = b ∷ []

-- the bytes of a piece are of its kind
abbrev pub IsPiece : Piece → Type 0
IsPiece (blank b) = is_blank b ≡ true
IsPiece (comment line) = All (λ b. b ≢ 10) line
IsPiece (word text) = IsNameText text
IsPiece arrow = Unit {0}
IsPiece zero_bit = Unit {0}
IsPiece one_bit = Unit {0}
IsPiece (byte b) = (is_blank b ≡ false) × (is_letter b ≡ false)

-- no longer piece could stand at the start of these bytes
abbrev pub IsLongest : Piece → List ℕ → Type 0
IsLongest p bytes = (q : Piece) (more : List ℕ) → IsPiece q → bytes ≡ text_of q ++ more → length (text_of q) ≤ length (text_of p)

-- each piece is the longest one at its place
abbrev pub AreLongest : List Piece → Type 0
AreLongest [] = Unit {0}
AreLongest (p ∷ more) = IsPiece p × (IsLongest p (flat_map text_of (p ∷ more)) × AreLongest more)

-- the symbol that a piece at an offset has, but for white space and comments
abbrev pub symbol_for : ℕ → Piece → Option Symbol
symbol_for at (blank b) = None
symbol_for at (comment line) = None
symbol_for at (word text) = Some (named (keyword text) text at)
symbol_for at arrow = Some (mark Arrow)
symbol_for at zero_bit = Some (mark Zero)
symbol_for at one_bit = Some (mark One)
symbol_for at (byte b) = Some (sign b)

abbrev pub placed_at : ℕ → Option Symbol → List Token → List Token
placed_at at None ts = ts
placed_at at (Some s) ts = record { symbol = s; at = at } ∷ ts

-- the tokens of pieces from an offset on, and behind them the end of the file
abbrev pub tokens_from : ℕ → List Piece → List Token
tokens_from at [] = record { symbol = finish; at = at } ∷ []
tokens_from at (p ∷ more) = placed_at at (symbol_for at p) (tokens_from (at + length (text_of p)) more)

-- the tokens are those of the pieces that the bytes are cut into
pub record IsCutOf (bytes : List ℕ) (ts : List Token) : Type 0 where
  pub pieces : List Piece
  pub whole : flat_map text_of pieces ≡ bytes
  pub longest : AreLongest pieces
  pub tokens : tokens_from 0 pieces ≡ ts
