-- One piece of a file: white space, a comment or a lexical element, by the byte that it starts with.
use Rattle.std.specs.Prelude.{ℕ, suc, ◌<◌, ◌≤◌, option_map, pos, Bool, true, false, not, ◌==◌, ◌&&◌, ◌-◌, if◌then◌else◌, List, [], ◌∷◌, take, drop, Option, Some, None, Result, Ok, Err}
use Rattle.vv_base.specs.declared.rules.Rule.{Rule}
use Rattle.vv_base.specs.declared.rules.Rule.TheVariants.{X1, X2, X3, X4, X5}
use Rattle.vv_vlex.specs.declared.class.Class.{Class}
use Rattle.vv_vlex.specs.declared.class.Class.TheVariants.{Alphanumeric}
use Rattle.vv_vlex.specs.declared.piece.Piece as code
use Rattle.vv_vlex.specs.declared.sign.Sign.{Sign}
use Rattle.vv_vlex.specs.declared.sign.Sign.TheVariants as sn
use Rattle.vv_vlex.specs.declared.word.Word.TheVariants as wd
use Rattle.vv_vlex.specs.declared.word.Word.{Word}
use Rattle.vv_vlex.specs.Bytes.{is_letter, is_digit, is_blank, is_printable, begins, tail, has}
use Rattle.vv_vlex.specs.Elements.{Element, element_of, id, word, int, char, str, bit_str, sign, finish, undoubled}
use Rattle.vv_vlex.specs.Numbers.{number}
use Rattle.vv_vlex.specs.Quoted.{closed, is_open, class_of, are_digits}
use Rattle.vv_vlex.specs.Words.{word_of, named}

-- an element, none for white space and comments, and the length of the piece; or the rule that is broken
abbrev pub Found : Type 0
Found = Result (Option Element × ℕ) Rule

-- a piece of the program
abbrev pub piece_of : code.Piece → Option Element × ℕ
piece_of p = (option_map element_of p.element, p.size)

abbrev pub result_of : Result code.Piece Rule → Found
result_of (Ok p) = Ok (piece_of p)
result_of (Err e) = Err e

-- a piece has a byte, and at most as many as are there
pub record IsSize (size there : ℕ) : Type 0 where
  pub some : 0 < size
  pub within : size ≤ there

abbrev pub found : Element → ℕ → Found
found e n = Ok (Some e, n)

-- how many bytes of white space stand in front
abbrev pub blanks : List ℕ → ℕ
blanks [] = 0
blanks (b ∷ more) = if is_blank b then suc (blanks more) else 0

-- how many bytes stand before the end of the line
abbrev pub line : List ℕ → ℕ
line [] = 0
line (b ∷ more) = if b == 10 then 0 else suc (line more)

abbrev pub double_sign : ℕ → ℕ → Option Sign
double_sign b c =
    if b == 58 && c == 61 then Some sn.Becomes
    else if b == 60 && c == 62 then Some sn.Unconstrained
    else if b == 60 && c == 61 then Some sn.LessEqual
    else if b == 61 && c == 62 then Some sn.Arrow
    else if b == 47 && c == 61 then Some sn.NotEqual
    else if b == 62 && c == 61 then Some sn.GreaterEqual
    else if b == 42 && c == 42 then Some sn.StarStar
    else None

abbrev pub single_sign : ℕ → Option Sign
single_sign b =
    if b == 59 then Some sn.Semicolon
    else if b == 44 then Some sn.Comma
    else if b == 46 then Some sn.Dot
    else if b == 40 then Some sn.Open
    else if b == 41 then Some sn.Close
    else if b == 58 then Some sn.Colon
    else if b == 124 then Some sn.Bar
    else if b == 61 then Some sn.Equal
    else if b == 60 then Some sn.Less
    else if b == 62 then Some sn.Greater
    else if b == 43 then Some sn.Plus
    else if b == 45 then Some sn.Minus
    else if b == 38 then Some sn.Ampersand
    else if b == 42 then Some sn.Star
    else if b == 47 then Some sn.Slash
    else if b == 39 then Some sn.Tick
    else None

abbrev pub single_found : Option Sign → Found
single_found None = Err X1
single_found (Some s) = found (sign s) 1

abbrev pub sign_found : Option Sign → Found → Found
sign_found None other = other
sign_found (Some s) other = found (sign s) 2

-- the longest sign that starts with b
unfoldable pub sign_at : ℕ → List ℕ → Found
sign_at b [] = single_found (single_sign b)
sign_at b (c ∷ more) = sign_found (double_sign b c) (single_found (single_sign b))

-- the word that starts with the letter b and has n more bytes; an underscore behind makes it a bad identifier
abbrev pub word_with : ℕ → ℕ → List ℕ → Found
word_with n b more =
    if begins (λ c. c == 95) (drop n more) then Err X1
    else found (named (word_of (b ∷ take n more)) (b ∷ take n more)) (suc n)

unfoldable pub word_at : ℕ → List ℕ → Found
word_at b more = word_with (tail (has Alphanumeric) more) b more

abbrev pub bits_with : Class → ℕ → ℕ → List ℕ → Found
bits_with c n b inner =
    if are_digits (has c) (take (n - 1) inner) then found (bit_str (b ∷ 34 ∷ take n inner)) (suc (suc n)) else Err X5

-- the bit string that starts with the letter b, where behind the letter a string stands; its quote is left out
abbrev pub bits_closed : Option ℕ → Class → ℕ → List ℕ → Option Found
bits_closed None c b inner = None
bits_closed (Some n) c b inner = Some (bits_with c n b inner)

abbrev pub bits_behind : Class → ℕ → List ℕ → Option Found
bits_behind c b [] = None
bits_behind c b (q ∷ inner) = if q == 34 then bits_closed (closed inner) c b inner else None

abbrev pub bits_of : Option Class → ℕ → List ℕ → Option Found
bits_of None b more = None
bits_of (Some c) b more = bits_behind c b more

-- the bit string that starts with the letter b, if one does
unfoldable pub bits_at : ℕ → List ℕ → Option Found
bits_at b more = bits_of (class_of b) b more

abbrev pub or_else : Option Found → Found → Found
or_else None f = f
or_else (Some g) f = g

abbrev pub string_of : Option ℕ → List ℕ → Found
string_of None more = if is_open more then Err X2 else Err X1
string_of (Some n) more = found (str (34 ∷ take n more) (undoubled (take (n - 1) more))) (suc n)

-- the string that starts with a quote, which is left out
unfoldable pub string_at : List ℕ → Found
string_at more = string_of (closed more) more

-- the character that starts with an apostrophe, which is left out, if one does
unfoldable pub character_at : List ℕ → Option Found
character_at [] = None
character_at (b ∷ []) = None
character_at (b ∷ c ∷ more) = if is_printable b && c == 39 then Some (found (char b) 3) else None

abbrev pub number_of : Option (ℕ × ℕ) → Found
number_of None = Err X3
number_of (Some n) = found (int (pos n.0)) n.1

-- the piece that starts with b; behind a name (is_named) an apostrophe is the tick
unfoldable pub piece_at : Bool → ℕ → List ℕ → Found
piece_at is_named b more =
    if is_blank b then Ok (None, suc (blanks more))
    else if b == 45 && begins (λ c. c == 45) more then Ok (None, suc (line more))
    else if is_letter b then or_else (bits_at b more) (word_at b more)
    else if is_digit b then number_of (number (b ∷ more))
    else if b == 34 then string_at more
    else if b == 92 then Err X4
    else if b == 39 && not is_named then or_else (character_at more) (sign_at b more)
    else sign_at b more

abbrev pub is_attributed : Word → Bool
is_attributed wd.Range = true
is_attributed wd.All = true
is_attributed _ = false

abbrev pub is_close : Sign → Bool
is_close sn.Close = true
is_close _ = false

-- behind identifiers, `range`, `all` and closing parentheses an apostrophe is the tick
unfoldable pub takes_tick : Element → Bool
takes_tick (id text) = true
takes_tick (word w) = is_attributed w
takes_tick (int n) = false
takes_tick (char b) = false
takes_tick (str written bytes) = false
takes_tick (bit_str bytes) = false
takes_tick (sign s) = is_close s
takes_tick finish = false
