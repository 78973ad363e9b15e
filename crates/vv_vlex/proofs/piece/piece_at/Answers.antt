use Rattle.std.proofs.Common.{◌≡◌, ℕ, ◌<◌, ◌≤◌, List, ◌∷◌, true, ap, sym, ◌∙◌, arith}
use Rattle.vv_vlex.specs.Bytes.{grouped, is_digit}
use Rattle.vv_vlex.specs.declared.piece.Piece.{Piece}
use Rattle.vv_vlex.proofs.piece.piece_at.Goals as goal

some_of : (b n : ℕ) (more bytes : List ℕ) → bytes ≡ b ∷ more → is_digit b ≡ true → grouped is_digit bytes ≤ n → 0 < n
some_of b n more bytes e d h = let first : grouped is_digit (b ∷ more) ≤ n = rw e at h in let g = rw d at first in omega arith

pub returns-in-Some-number-clause-size : goal.returns-in-Some-number-clause-size
returns-in-Some-number-clause-size c =
    let size : c.of_element.result.size ≡ c.in-Some-number.size = ap (λ (p : Piece). p.size) c.of_element.ensures in
    let digit : is_digit c.args.first ≡ true = sym c.is_digit.ensures ∙ c.if-is_digit.true in
    let some : 0 < c.in-Some-number.size = some_of c.args.first c.in-Some-number.size c.args.more.now c.args.bytes.now c.requires digit c.in-Some-number.ensures.least in
    record { some = omega arith; within = omega (arith, c.in-Some-number.ensures.within) }
