-- The elements of a file, told without an order of reading: its bytes are cut into pieces, and no piece could be longer (IEEE 1076-1993, clause 13).
use Rattle.std.specs.Prelude.{◌≡◌, ◌≢◌, ◌<◌, ◌≤◌, ◌+◌, ◌*◌, ◌^◌, ℕ, Bool, true, false, ◌==◌, ◌||◌, if◌then◌else◌, List, [], ◌∷◌, ◌++◌, length, flat_map, codes, All, Option, Some, None, pos}
use Rattle.vv_base.specs.declared.rules.Rule.{Rule}
use Rattle.vv_base.specs.declared.rules.Rule.TheVariants.{X1, X2, X3, X4, X5}
use Rattle.vv_vlex.specs.declared.class.Class.{Class}
use Rattle.vv_vlex.specs.declared.class.Class.TheVariants.{Alphanumeric, Decimal, Extended}
use Rattle.vv_vlex.specs.declared.sign.Sign.{Sign}
use Rattle.vv_vlex.specs.declared.sign.Sign.TheVariants as sn
use Rattle.vv_vlex.specs.Bytes.{is_letter, is_digit, is_blank, is_printable, begins, has}
use Rattle.vv_vlex.specs.Elements.{Element, Lexeme, int, char, str, bit_str, sign, finish}
use Rattle.vv_vlex.specs.Numbers.{value, are_below, is_base}
use Rattle.vv_vlex.specs.Quoted.{is_open, class_of}
use Rattle.vv_vlex.specs.Words.{word_of, named}
use Rattle.vv_vlex.specs.Lexical.{placed, is_named_behind}

-- bytes of a class, of which the first and the last one are, with single underscores between them
pub record IsGrouped (c : Class) (text : List ℕ) : Type 0 where
  pub first : begins (has c) text ≡ true
  pub each : All (λ b. (has c b || b == 95) ≡ true) text
  pub single : (front more : List ℕ) → text ≢ front ++ (codes "__" ++ more)
  pub last : (front : List ℕ) → text ≢ front ++ codes "_"

-- an exponent: its letter, a plus sign or none, and its digits
pub data Exponent : Type 0 where
  absent : Exponent
  plain : ℕ → List ℕ → Exponent
  signed : ℕ → List ℕ → Exponent

abbrev pub exponent_text : Exponent → List ℕ
exponent_text absent = []
exponent_text (plain e digits) = e ∷ digits
exponent_text (signed e digits) = e ∷ 43 ∷ digits

abbrev pub power_digits : Exponent → List ℕ
power_digits absent = []
power_digits (plain e digits) = digits
power_digits (signed e digits) = digits

abbrev pub IsExponent : Exponent → Type 0
IsExponent absent = Unit {0}
IsExponent (plain e digits) = ((e == 101 || e == 69) ≡ true) × IsGrouped Decimal digits
IsExponent (signed e digits) = ((e == 101 || e == 69) ≡ true) × IsGrouped Decimal digits

pub data Piece : Type 0 where
  -- white space
  space : List ℕ → Piece
  -- `--` and what stands behind it on its line
  comment : List ℕ → Piece
  -- an identifier or a reserved word
  name : List ℕ → Piece
  -- the digits of a number and its exponent
  decimal : List ℕ → Exponent → Piece
  -- the digits of a base, and those of the number and its exponent
  based : List ℕ → List ℕ → Exponent → Piece
  -- the byte of a character
  character : ℕ → Piece
  -- the bytes of a string
  string : List ℕ → Piece
  -- the letter of a bit string, and the bytes of its string
  bits : ℕ → List ℕ → Piece
  mark : Sign → Piece

abbrev pub sign_text : Sign → List ℕ
sign_text sn.Semicolon = codes ";"
sign_text sn.Comma = codes ","
sign_text sn.Dot = codes "."
sign_text sn.Open = codes "("
sign_text sn.Close = codes ")"
sign_text sn.Colon = codes ":"
sign_text sn.Becomes = codes ":="
sign_text sn.Unconstrained = codes "<>"
sign_text sn.LessEqual = codes "<="
sign_text sn.Arrow = codes "=>"
sign_text sn.Bar = codes "|"
sign_text sn.Equal = codes "="
sign_text sn.NotEqual = codes "/="
sign_text sn.Less = codes "<"
sign_text sn.Greater = codes ">"
sign_text sn.GreaterEqual = codes ">="
sign_text sn.Plus = codes "+"
sign_text sn.Minus = codes "-"
sign_text sn.Ampersand = codes "&"
sign_text sn.Star = codes "*"
sign_text sn.Slash = codes "/"
sign_text sn.StarStar = codes "**"
sign_text sn.Tick = codes "'"

-- a double quote stands twice
abbrev pub doubled : List ℕ → List ℕ
doubled [] = []
doubled (b ∷ bytes) = if b == 34 then 34 ∷ 34 ∷ doubled bytes else b ∷ doubled bytes

abbrev pub quoted : List ℕ → List ℕ
quoted bytes = 34 ∷ (doubled bytes ++ (34 ∷ []))

abbrev pub text_of : Piece → List ℕ
text_of (space text) = text
text_of (comment line) = codes "--" ++ line
text_of (name text) = text
text_of (decimal digits x) = digits ++ exponent_text x
text_of (based base digits x) = base ++ (35 ∷ (digits ++ (35 ∷ exponent_text x)))
text_of (character b) = 39 ∷ b ∷ 39 ∷ []
text_of (string bytes) = quoted bytes
text_of (bits b bytes) = b ∷ quoted bytes
text_of (mark s) = sign_text s

-- the bytes of a piece are of its kind; behind a name (is_named) no character starts
abbrev pub IsPiece : Bool → Piece → Type 0
IsPiece is_named (space text) = (begins is_blank text ≡ true) × All (λ b. is_blank b ≡ true) text
IsPiece is_named (comment line) = All (λ b. b ≢ 10) line
IsPiece is_named (name text) = (begins is_letter text ≡ true) × IsGrouped Alphanumeric text
IsPiece is_named (decimal digits x) = IsGrouped Decimal digits × IsExponent x
IsPiece is_named (based base digits x) = IsGrouped Decimal base × (is_base (value 10 base) ≡ true) × IsGrouped Extended digits × IsExponent x
IsPiece is_named (character b) = (is_printable b ≡ true) × (is_named ≡ false)
IsPiece is_named (string bytes) = All (λ b. is_printable b ≡ true) bytes
IsPiece is_named (bits b bytes) = ((c : Class) × (class_of b ≡ Some c)) × All (λ b. is_printable b ≡ true) bytes
IsPiece is_named (mark s) = Unit {0}

-- no longer piece could stand at the start of these bytes
abbrev pub IsLongest : Bool → Piece → List ℕ → Type 0
IsLongest is_named p bytes = (q : Piece) (more : List ℕ) → IsPiece is_named q → bytes ≡ text_of q ++ more → length (text_of q) ≤ length (text_of p)

abbrev pub exponent_value : Exponent → ℕ
exponent_value x = value 10 (power_digits x)

-- a number that isn't over the largest, and behind which no letter and no point stands
pub record IsGoodNumber (n : ℕ) (behind : List ℕ) : Type 0 where
  pub most : n ≤ 2147483647
  pub ends : begins (λ c. is_letter c || c == 46) behind ≡ false

-- an identifier isn't part of a badly formed one, a number isn't bad and a bit string has its digits
abbrev pub IsGood : Piece → List ℕ → Type 0
IsGood (space text) behind = Unit {0}
IsGood (comment line) behind = Unit {0}
IsGood (name text) behind = begins (λ c. c == 95) behind ≡ false
IsGood (decimal digits x) behind = IsGoodNumber (value 10 digits * 10 ^ exponent_value x) behind
IsGood (based base digits x) behind = (are_below (value 10 base) digits ≡ true) × IsGoodNumber (value (value 10 base) digits * value 10 base ^ exponent_value x) behind
IsGood (character b) behind = Unit {0}
IsGood (string bytes) behind = Unit {0}
IsGood (bits b bytes) behind = (c : Class) × (class_of b ≡ Some c) × IsGrouped c bytes
IsGood (mark s) behind = Unit {0}

-- the element that a piece is, but for white space and comments
abbrev pub element_for : Piece → Option Element
element_for (space text) = None
element_for (comment line) = None
element_for (name text) = Some (named (word_of text) text)
element_for (decimal digits x) = Some (int (pos (value 10 digits * 10 ^ exponent_value x)))
element_for (based base digits x) = Some (int (pos (value (value 10 base) digits * value 10 base ^ exponent_value x)))
element_for (character b) = Some (char b)
element_for (string bytes) = Some (str (quoted bytes) bytes)
element_for (bits b bytes) = Some (bit_str (b ∷ quoted bytes))
element_for (mark s) = Some (sign s)

-- a piece stands at the start of the bytes, before those behind it
pub record Stands (is_named : Bool) (p : Piece) (behind : List ℕ) : Type 0 where
  pub kind : IsPiece is_named p
  pub longest : IsLongest is_named p (text_of p ++ behind)
  pub good : IsGood p behind

-- the pieces stand one behind the other, and rest behind them
abbrev pub AreStanding : Bool → List Piece → List ℕ → Type 0
AreStanding is_named [] rest = Unit {0}
AreStanding is_named (p ∷ more) rest = Stands is_named p (flat_map text_of more ++ rest) × AreStanding (is_named_behind is_named (element_for p)) more rest

-- whether an apostrophe behind the pieces is the tick
abbrev pub is_named_after : Bool → List Piece → Bool
is_named_after is_named [] = is_named
is_named_after is_named (p ∷ more) = is_named_after (is_named_behind is_named (element_for p)) more

-- the elements of pieces from an offset on
abbrev pub elements_from : ℕ → List Piece → List Lexeme
elements_from at [] = []
elements_from at (p ∷ more) = placed (element_for p) at (length (text_of p)) ++ elements_from (at + length (text_of p)) more

-- the elements are those of the pieces that the bytes are cut into, and behind them the end of the file
pub record IsCutOf (bytes : List ℕ) (ls : List Lexeme) : Type 0 where
  pub pieces : List Piece
  pub whole : flat_map text_of pieces ≡ bytes
  pub standing : AreStanding false pieces []
  pub elements : elements_from 0 pieces ++ (record { element = finish; at = length bytes; len = 0 } ∷ []) ≡ ls

-- what is wrong where no piece stands, by the byte there
abbrev pub code_at : List ℕ → Rule
code_at [] = X1
code_at (b ∷ more) =
    if is_letter b then (if begins (λ c. c == 34) more then X5 else X1)
    else if is_digit b then X3
    else if b == 34 then (if is_open more then X2 else X1)
    else if b == 92 then X4
    else X1

-- pieces stand up to an offset, and no piece stands there
pub record IsStuckAt (bytes : List ℕ) (at : ℕ) (rule : Rule) : Type 0 where
  pub pieces : List Piece
  pub rest : List ℕ
  pub whole : flat_map text_of pieces ++ rest ≡ bytes
  pub some : 0 < length rest
  pub standing : AreStanding false pieces rest
  pub none : (p : Piece) (behind : List ℕ) → rest ≡ text_of p ++ behind → Stands (is_named_after false pieces) p behind → ⊥
  pub place : at ≡ length (flat_map text_of pieces)
  pub code : rule ≡ code_at rest
