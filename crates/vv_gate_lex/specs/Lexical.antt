-- The tokens of a file whose letters are folded to lower case (IEEE 1076-1993, clause 13, cut down to what a file of gates has).
use Rattle.std.specs.Prelude.{ℕ, zero, suc, Bool, false, ◌==◌, ◌&&◌, ◌||◌, ◌-◌, nat_le, if◌then◌else◌, List, [], ◌∷◌, length, take, drop, map, bytes_eq, Option, Some, None}
use Rattle.vv_gate.specs.Whole.{is_letter, is_digit, is_underscore}
use Rattle.vv_gate.specs.declared.token.Mark.{Mark}
use Rattle.vv_gate.specs.declared.token.Mark.TheVariants.{Semicolon, Dot, Open, Close, Colon, Comma, Arrow, Zero, One}
use Rattle.vv_gate_lex.specs.declared.keywords.TheConstants.{KEYWORDS}
use Rattle.vv_gate_lex.specs.Symbols.{Symbol, name, mark, other, finish, Token}

-- space, tab, LF, VT, FF and CR
abbrev pub is_blank : ℕ → Bool
is_blank b = b == 32 || (nat_le 9 b && nat_le b 13)

abbrev pub is_alphanumeric : ℕ → Bool
is_alphanumeric b = is_letter b || is_digit b

abbrev pub begins : (ℕ → Bool) → List ℕ → Bool
begins p [] = false
begins p (b ∷ more) = p b

-- what is left behind blanks and comments
abbrev mutual
  pub skip : List ℕ → List ℕ
  skip [] = []
  skip (b ∷ more) = if is_blank b then skip more else if b == 45 && begins (λ c. c == 45) more then skip_line more else (b ∷ more)

  -- inside a comment, which ends with its line
  pub skip_line : List ℕ → List ℕ
  skip_line [] = []
  skip_line (b ∷ more) = if b == 10 then skip more else skip_line more

-- the bytes of a name that stand behind its first letter: letters, digits and single underscores between these
abbrev pub name_tail : List ℕ → ℕ
name_tail [] = 0
name_tail (b ∷ more) = if is_alphanumeric b || (is_underscore b && begins is_alphanumeric more) then suc (name_tail more) else 0

-- `0'` or `1'`
abbrev pub is_bit : List ℕ → Bool
is_bit [] = false
is_bit (b ∷ more) = (b == 48 || b == 49) && begins (λ c. c == 39) more

-- the length of the token that begins with b
abbrev pub size : ℕ → List ℕ → ℕ
size b more =
    if is_letter b then suc (name_tail more)
    else if b == 39 && is_bit more then 3
    else if b == 60 && begins (λ c. c == 61) more then 2
    else 1

abbrev pub lookup : List (List ℕ × Mark) → List ℕ → Option Mark
lookup [] text = None
lookup (k ∷ more) text = if bytes_eq k.0 text then Some k.1 else lookup more text

-- the mark of a reserved word, of `ieee` and of `std_logic`
unfoldable pub keyword : List ℕ → Option Mark
keyword = lookup (map (λ k. (k.0.now, k.1)) KEYWORDS)

abbrev pub named : Option Mark → List ℕ → ℕ → Symbol
named None text at = name (record { text = text; at = at })
named (Some m) text at = mark m

abbrev pub sign : ℕ → Symbol
sign b =
    if b == 59 then mark Semicolon
    else if b == 46 then mark Dot
    else if b == 40 then mark Open
    else if b == 41 then mark Close
    else if b == 58 then mark Colon
    else if b == 44 then mark Comma
    else other b

-- the token that begins with b
abbrev pub symbol_at : ℕ → ℕ → List ℕ → Symbol
symbol_at at b more =
    if is_letter b then (let text = b ∷ take (name_tail more) more in named (keyword text) text at)
    else if b == 39 && is_bit more then (if begins (λ c. c == 48) more then mark Zero else mark One)
    else if b == 60 && begins (λ c. c == 61) more then mark Arrow
    else sign b

-- the first token, and by `behind` the others; at the end of the file a last one, at its length
abbrev pub first_of : (List ℕ → List Token) → ℕ → List ℕ → List Token
first_of behind total [] = record { symbol = finish; at = total } ∷ []
first_of behind total (b ∷ more) =
    record { symbol = symbol_at (total - suc (length more)) b more; at = total - suc (length more) } ∷ behind (drop (size b more) (b ∷ more))

abbrev pub tokens_within : ℕ → ℕ → List ℕ → List Token
tokens_within zero total bytes = []
tokens_within (suc n) total bytes = first_of (tokens_within n total) total (skip bytes)

-- the tokens of the last bytes of a file of that length
unfoldable pub tokens : ℕ → List ℕ → List Token
tokens total bytes = tokens_within (suc (length bytes)) total bytes

-- the tokens of a file whose letters are folded to lower case
abbrev pub tokens_of : List ℕ → List Token
tokens_of bytes = tokens (length bytes) bytes
