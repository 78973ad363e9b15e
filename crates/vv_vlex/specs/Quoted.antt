-- Strings and bit strings (IEEE 1076-1993, clauses 13.6 and 13.7).
use Rattle.std.specs.Prelude.{ℕ, suc, Bool, true, ◌==◌, ◌&&◌, ◌||◌, nat_lt, if◌then◌else◌, List, [], ◌∷◌, length, Option, Some, None, option_map}
use Rattle.vv_vlex.specs.Bytes.{is_printable, grouped}
use Rattle.vv_vlex.specs.declared.class.Class.{Class}
use Rattle.vv_vlex.specs.declared.class.Class.TheVariants.{Binary, Octal, Hexadecimal}

-- a quote that another one follows: both stand for one where the string goes on behind them, else the first one ends it
abbrev pub doubled_or_last : Option ℕ → Option ℕ
doubled_or_last None = Some 1
doubled_or_last (Some n) = Some (suc (suc n))

abbrev mutual
  -- the length of the longest string that goes on so behind its first quote
  pub closed : List ℕ → Option ℕ
  closed [] = None
  closed (b ∷ more) = if b == 34 then closed_quote more else if is_printable b then option_map suc (closed more) else None

  -- the same behind one more quote, which is counted
  pub closed_quote : List ℕ → Option ℕ
  closed_quote [] = Some 1
  closed_quote (b ∷ more) = if b == 34 then doubled_or_last (closed more) else Some 1

-- the line or the file ends before any other byte that a string can't have
abbrev pub is_open : List ℕ → Bool
is_open [] = true
is_open (b ∷ more) = if is_printable b then is_open more else (b == 13 || b == 10)

-- the digits that a bit string with this letter has
abbrev pub class_of : ℕ → Option Class
class_of b =
    if b == 98 || b == 66 then Some Binary
    else if b == 111 || b == 79 then Some Octal
    else if b == 120 || b == 88 then Some Hexadecimal
    else None

-- one digit or more, with single underscores between them
abbrev pub are_digits : (ℕ → Bool) → List ℕ → Bool
are_digits p text = nat_lt 0 (length text) && grouped p text == length text
