-- The four values, and the operators on them by rule.
use Rattle.std.specs.Prelude.{ℕ, Bool, ◌||◌, ◌&&◌, if◌then◌else◌, List, [], ◌∷◌, ◌==◌}
use Rattle.vv_bits.specs.declared.nine.S9.{S9}
use Rattle.vv_bits.specs.declared.nine.S9.TheVariants as nine
use Rattle.vv_bits.specs.declared.four.V4.{V4}
use Rattle.vv_bits.specs.declared.four.V4.TheVariants.{Zero, One, X, Z}

-- a value's place
abbrev pub code4 : V4 → ℕ
code4 Zero = 0
code4 One = 1
code4 X = 2
code4 Z = 3

abbrev pub all_four : List V4
all_four = Zero ∷ One ∷ X ∷ Z ∷ []

abbrev pub four_among : List V4 → ℕ → V4
four_among [] n = Z
four_among (x ∷ xs) n = if n == code4 x then x else four_among xs n

-- the value at a place
abbrev pub four_of : ℕ → V4
four_of n = four_among all_four n

abbrev pub is4 : V4 → V4 → Bool
is4 a b = code4 a == code4 b

-- what Verilog sees of a nine-valued bit: weak 0 and 1 as 0 and 1, and x for U, X, W and -
abbrev pub abs_rule : S9 → V4
abs_rule nine.U = X
abs_rule nine.X = X
abs_rule nine.Zero = Zero
abs_rule nine.One = One
abs_rule nine.Z = Z
abs_rule nine.W = X
abs_rule nine.L = Zero
abs_rule nine.H = One
abs_rule nine.Dash = X

-- 0 if an operand is 0, 1 if both are 1, else x
abbrev pub and4_rule : V4 → V4 → V4
and4_rule a b =
    if is4 a Zero || is4 b Zero then Zero
    else if is4 a One && is4 b One then One
    else X

-- 1 if an operand is 1, 0 if both are 0, else x
abbrev pub or4_rule : V4 → V4 → V4
or4_rule a b =
    if is4 a One || is4 b One then One
    else if is4 a Zero && is4 b Zero then Zero
    else X

-- a bit is known if it is 0 or 1
abbrev pub known : V4 → Bool
known a = is4 a Zero || is4 a One

-- x if an operand isn't known, else 1 exactly where they differ
abbrev pub xor4_rule : V4 → V4 → V4
xor4_rule a b =
    if known a && known b then (if is4 a b then Zero else One)
    else X

-- 0 and 1 change places, x and z give x
abbrev pub not4_rule : V4 → V4
not4_rule Zero = One
not4_rule One = Zero
not4_rule X = X
not4_rule Z = X

-- the operand that an operator sees
abbrev pub z_as_x : V4 → V4
z_as_x a = if is4 a Z then X else a
