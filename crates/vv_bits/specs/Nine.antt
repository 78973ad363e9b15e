-- The nine values, and the operators on them by rule.
use Rattle.std.specs.Prelude.{ℕ, Bool, ◌||◌, if◌then◌else◌, List, [], ◌∷◌, ◌==◌}
use Rattle.vv_bits.specs.declared.nine.S9.{S9}
use Rattle.vv_bits.specs.declared.nine.S9.TheVariants.{U, X, Zero, One, Z, W, L, H, Dash}

-- a value's place
abbrev pub code : S9 → ℕ
code U = 0
code X = 1
code Zero = 2
code One = 3
code Z = 4
code W = 5
code L = 6
code H = 7
code Dash = 8

abbrev pub all_nine : List S9
all_nine = U ∷ X ∷ Zero ∷ One ∷ Z ∷ W ∷ L ∷ H ∷ Dash ∷ []

abbrev pub nine_among : List S9 → ℕ → S9
nine_among [] n = Dash
nine_among (x ∷ xs) n = if n == code x then x else nine_among xs n

-- the value at a place
abbrev pub nine_of : ℕ → S9
nine_of n = nine_among all_nine n

abbrev pub same : S9 → S9 → Bool
same a b = code a == code b

-- one of the operands a and b is v
abbrev pub one_is : S9 → S9 → S9 → Bool
one_is v a b = same a v || same b v

-- what an operand counts as: Z, W and - as X, L as 0, H as 1
abbrev pub plain : S9 → S9
plain U = U
plain X = X
plain Zero = Zero
plain One = One
plain Z = X
plain W = X
plain L = Zero
plain H = One
plain Dash = X

-- 0 if an operand is 0, else U if one is U, else X if one is X, else 1
abbrev pub and_plain : S9 → S9 → S9
and_plain a b =
    if one_is Zero a b then Zero
    else if one_is U a b then U
    else if one_is X a b then X
    else One

-- 1 if an operand is 1, else U if one is U, else X if one is X, else 0
abbrev pub or_plain : S9 → S9 → S9
or_plain a b =
    if one_is One a b then One
    else if one_is U a b then U
    else if one_is X a b then X
    else Zero

-- U if an operand is U, else X if one is X, else 1 exactly where they differ
abbrev pub xor_plain : S9 → S9 → S9
xor_plain a b =
    if one_is U a b then U
    else if one_is X a b then X
    else if same a b then Zero
    else One

-- U and X stay, 0 and 1 change places
abbrev pub not_plain : S9 → S9
not_plain a =
    if same a U then U
    else if same a X then X
    else if same a Zero then One
    else Zero

abbrev pub and_rule : S9 → S9 → S9
and_rule a b = and_plain (plain a) (plain b)

abbrev pub or_rule : S9 → S9 → S9
or_rule a b = or_plain (plain a) (plain b)

abbrev pub xor_rule : S9 → S9 → S9
xor_rule a b = xor_plain (plain a) (plain b)

abbrev pub not_rule : S9 → S9
not_rule a = not_plain (plain a)

abbrev pub nand_rule : S9 → S9 → S9
nand_rule a b = not_rule (and_rule a b)

abbrev pub nor_rule : S9 → S9 → S9
nor_rule a b = not_rule (or_rule a b)

abbrev pub xnor_rule : S9 → S9 → S9
xnor_rule a b = not_rule (xor_rule a b)

-- one of U, X, 0, 1, Z and -
abbrev pub IsSix : S9 → Type 0
IsSix W = ⊥
IsSix L = ⊥
IsSix H = ⊥
IsSix _ = Unit {0}

abbrev pub AllSix : List S9 → Type 0
AllSix [] = Unit {0}
AllSix (x ∷ xs) = IsSix x × AllSix xs
