-- Operators on each element.
use Rattle.std.proofs.Common.{◌≡◌, ℕ, zero, suc, ◌<◌, List, [], ◌∷◌, length, get_or, refl, ap, arith}
use Rattle.vv_bits.specs.declared.nine.S9.{S9}
use Rattle.vv_std_values.specs.declared.gates.Gate.{Gate}
use Rattle.vv_std_values.specs.Rows.{logic_rule}
use Rattle.vv_std_cells.specs.Rows.{logic}

pub length-logic : (gate : Gate) (xs ys : List S9) → length xs ≡ length ys → length (logic gate xs ys) ≡ length xs
unfolding logic
length-logic gate [] [] e = refl
length-logic gate [] (y ∷ ys) e = absurd (omega (arith, e))
length-logic gate (x ∷ xs) [] e = absurd (omega (arith, e))
length-logic gate (x ∷ xs) (y ∷ ys) e = ap suc (length-logic gate xs ys (omega (arith, e)))

pub get_or-logic : (gate : Gate) (xs ys : List S9) (k : ℕ) (d : S9) → length xs ≡ length ys → k < length xs →
    get_or (logic gate xs ys) k d ≡ logic_rule gate (get_or xs k d) (get_or ys k d)
unfolding logic
get_or-logic gate [] ys k d e lt = absurd (omega (arith, lt))
get_or-logic gate (x ∷ xs) [] k d e lt = absurd (omega (arith, e))
get_or-logic gate (x ∷ xs) (y ∷ ys) zero d e lt = refl
get_or-logic gate (x ∷ xs) (y ∷ ys) (suc k) d e lt = get_or-logic gate xs ys k d (omega (arith, e)) (omega (arith, lt))
