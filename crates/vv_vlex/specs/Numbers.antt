-- Numbers (IEEE 1076-1993, clauses 13.4.1 and 13.4.2, cut down to whole numbers).
use Rattle.std.specs.Prelude.{ℕ, Bool, true, not, ◌==◌, ◌&&◌, ◌||◌, ◌+◌, ◌*◌, ◌^◌, nat_le, nat_lt, if◌then◌else◌, List, [], ◌∷◌, take, drop, Option, Some, None, option_map}
use Rattle.vv_vlex.specs.Bytes.{is_letter, is_digit, digit, begins, grouped, has}
use Rattle.vv_vlex.specs.declared.class.Class.TheVariants.{Extended}
use Rattle.vv_vlex.specs.declared.number.Literal as code

abbrev pub value_from : ℕ → ℕ → List ℕ → ℕ
value_from base sum [] = sum
value_from base sum (b ∷ more) = if b == 95 then value_from base sum more else value_from base (sum * base + digit b) more

-- the number that digits stand for, whatever underscores stand between them
abbrev pub value : ℕ → List ℕ → ℕ
value base digits = value_from base 0 digits

-- the base has all the digits
abbrev pub are_below : ℕ → List ℕ → Bool
are_below base [] = true
are_below base (b ∷ more) = (b == 95 || nat_lt (digit b) base) && are_below base more

-- a number as it is written: its digits, the digits of its exponent, of which there may be none, and its length
pub record Literal : Type 0 where
  pub base : ℕ
  pub digits : List ℕ
  pub power : List ℕ
  pub size : ℕ

-- a literal of the program
abbrev pub literal_of : code.Literal → Literal
literal_of l = record { base = l.base; digits = l.digits.now; power = l.power.now; size = l.size }

abbrev pub literal_value : Literal → ℕ
literal_value l = value l.base l.digits * l.base ^ value 10 l.power

-- how many bytes stand before an exponent's digits: `E` or `E+`; 0 where there is no exponent
abbrev pub exponent_mark : List ℕ → ℕ
exponent_mark [] = 0
exponent_mark (e ∷ more) =
    if e == 101 || e == 69
    then (if begins is_digit more then 1 else if begins (λ c. c == 43) more && begins is_digit (drop 1 more) then 2 else 0)
    else 0

-- the digits of the exponent in front, and its length
abbrev pub exponent_behind : ℕ → List ℕ → List ℕ × ℕ
exponent_behind mark digits = if mark == 0 then ([], 0) else (take (grouped is_digit digits) digits, mark + grouped is_digit digits)

unfoldable pub exponent : List ℕ → List ℕ × ℕ
exponent bytes = exponent_behind (exponent_mark bytes) (drop (exponent_mark bytes) bytes)

-- the number in front that is written without a base; its digits are the first n bytes
abbrev pub decimal_of : ℕ → List ℕ → Literal
decimal_of n bytes = record { base = 10; digits = take n bytes; power = (exponent (drop n bytes)).0; size = n + (exponent (drop n bytes)).1 }

-- the number in front that is written with a base: before inner stand the base's digits and the sign `#`, and k bytes are its digits
abbrev pub based_of : ℕ → ℕ → ℕ → List ℕ → Literal
based_of n base k inner = record { base = base; digits = take k inner; power = (exponent (drop (k + 1) inner)).0; size = n + k + (exponent (drop (k + 1) inner)).1 + 2 }

abbrev pub is_base : ℕ → Bool
is_base base = nat_le 2 base && nat_le base 16

abbrev pub has_extended : ℕ → Bool
has_extended = has Extended

abbrev pub based_inner : ℕ → ℕ → ℕ → List ℕ → Option Literal
based_inner n base k inner = if nat_lt 0 k && begins (λ c. c == 35) (drop k inner) then Some (based_of n base k inner) else None

unfoldable pub based : ℕ → List ℕ → Option Literal
based n bytes =
    if is_base (value 10 (take n bytes)) && begins (λ c. c == 35) (drop n bytes)
    then based_inner n (value 10 (take n bytes)) (grouped has_extended (drop (n + 1) bytes)) (drop (n + 1) bytes)
    else None

abbrev pub either : Option Literal → Literal → Literal
either None l = l
either (Some m) l = m

-- the longest number in front, whether it is good or bad
unfoldable pub longest : List ℕ → Literal
longest bytes = either (based (grouped is_digit bytes) bytes) (decimal_of (grouped is_digit bytes) bytes)

-- the number, if it isn't over the largest
abbrev pub limited : ℕ → Option ℕ
limited n = if nat_le n 2147483647 then Some n else None

-- no letter or point stands directly behind, and the base has all the digits
abbrev pub is_whole : Literal → List ℕ → Bool
is_whole l behind = are_below l.base l.digits && not (begins (λ c. is_letter c || c == 46) behind)

-- the value and the length of the number in front, if it is good
unfoldable pub number : List ℕ → Option (ℕ × ℕ)
number bytes =
    let l = longest bytes in
    if is_whole l (drop l.size bytes) then option_map (λ n. (n, l.size)) (limited (literal_value l)) else None
