-- Classes of bytes, and how many bytes of a class stand together (IEEE 1076-1993, clause 13.1).
use Rattle.std.specs.Prelude.{ℕ, suc, Bool, false, ◌==◌, ◌&&◌, ◌||◌, ◌-◌, nat_le, nat_lt, if◌then◌else◌, List, [], ◌∷◌}
use Rattle.vv_vlex.specs.declared.class.Class.{Class}
use Rattle.vv_vlex.specs.declared.class.Class.TheVariants.{Alphanumeric, Decimal, Extended, Binary, Octal, Hexadecimal}

abbrev pub is_letter : ℕ → Bool
is_letter b = (nat_le 97 b && nat_le b 122) || (nat_le 65 b && nat_le b 90)

abbrev pub is_digit : ℕ → Bool
is_digit b = nat_le 48 b && nat_le b 57

-- space, tab, LF, VT, FF and CR
abbrev pub is_blank : ℕ → Bool
is_blank b = b == 32 || (nat_le 9 b && nat_le b 13)

-- printable ASCII
abbrev pub is_printable : ℕ → Bool
is_printable b = nat_le 32 b && nat_le b 126

-- the value of a digit or a letter as a digit; that of the point is over that of each letter
abbrev pub digit : ℕ → ℕ
digit b =
    if is_digit b then b - 48
    else if nat_le 97 b && nat_le b 122 then b - 87
    else if nat_le 65 b && nat_le b 90 then b - 55
    else 36

abbrev pub has : Class → ℕ → Bool
has Alphanumeric b = is_letter b || is_digit b
has Decimal b = is_digit b
has Extended b = (is_letter b || is_digit b) || b == 46
has Binary b = nat_lt (digit b) 2
has Octal b = nat_lt (digit b) 8
has Hexadecimal b = nat_lt (digit b) 16

abbrev pub begins : (ℕ → Bool) → List ℕ → Bool
begins p [] = false
begins p (b ∷ more) = p b

-- how many bytes go on with a run of such bytes that may have single underscores between them
abbrev pub tail : (ℕ → Bool) → List ℕ → ℕ
tail p [] = 0
tail p (b ∷ more) = if p b || (b == 95 && begins p more) then suc (tail p more) else 0

-- how many bytes such a run has
abbrev pub grouped : (ℕ → Bool) → List ℕ → ℕ
grouped p [] = 0
grouped p (b ∷ more) = if p b then suc (tail p more) else 0
