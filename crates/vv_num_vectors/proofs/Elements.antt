-- Operators on each element.
use Rattle.std.proofs.Common.{◌≡◌, ℕ, zero, suc, ◌<◌, List, [], ◌∷◌, length, get_or, refl, ap, arith}
use Rattle.vv_bits.specs.declared.nine.S9.{S9}
use Rattle.vv_num_vectors.specs.declared.logic.Gate.{Gate}
use Rattle.vv_num_vectors.specs.Logic.{combined, gate_rule}

pub length-combined : (gate : Gate) (xs ys : List S9) → length xs ≡ length ys → length (combined gate xs ys) ≡ length xs
length-combined gate [] [] e = refl
length-combined gate [] (y ∷ ys) e = absurd (omega (arith, e))
length-combined gate (x ∷ xs) [] e = absurd (omega (arith, e))
length-combined gate (x ∷ xs) (y ∷ ys) e = ap suc (length-combined gate xs ys (omega (arith, e)))

pub get_or-combined : (gate : Gate) (xs ys : List S9) (k : ℕ) (d : S9) → length xs ≡ length ys → k < length xs →
    get_or (combined gate xs ys) k d ≡ gate_rule gate (get_or xs k d) (get_or ys k d)
get_or-combined gate [] ys k d e lt = absurd (omega (arith, lt))
get_or-combined gate (x ∷ xs) [] k d e lt = absurd (omega (arith, e))
get_or-combined gate (x ∷ xs) (y ∷ ys) zero d e lt = refl
get_or-combined gate (x ∷ xs) (y ∷ ys) (suc k) d e lt = get_or-combined gate xs ys k d (omega (arith, e)) (omega (arith, lt))
