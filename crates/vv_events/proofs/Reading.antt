-- The value of an expression rests on the bits that it reads.
use Rattle.std.proofs.Common.{◌≡◌, ℕ, nat_eq, true, List, [], ◌∷◌, ◌++◌, refl, ap, ap₂, ◌∙◌, eq-eqb}
use Rattle.vv_bits.specs.declared.four.V4.{V4}
use Rattle.vv_events.specs.Items.{has}
use Rattle.vv_events.specs.Equations.{at, Local}
use Rattle.vv_events.specs.Values.{choose, part, joined, repeated}
use Rattle.vv_events.specs.Expressions.{Expr, Bits, Read, Part, Join, Repeat, OfOne, OfTwo, Choose, Call, unary_value, binary_value, bits_at, condition_bit, value, reads, assignment}
use Rattle.vv_events.proofs.Descent.{or_true, or_left, has_left, has_right}

bits_same : (places : List ℕ) (x y : List V4) → ((b : ℕ) → has places b ≡ true → at x b ≡ at y b) → bits_at places x ≡ bits_at places y
bits_same [] x y h = refl
bits_same (p ∷ ps) x y h =
    ap₂ (λ v vs. v ∷ vs) (h p (or_left (nat_eq p p) (has ps p) (eq-eqb p p refl))) (bits_same ps x y (λ b k. h b (or_true (nat_eq p b) (has ps b) k)))

pub value_same : (e : Expr) (x y : List V4) → ((b : ℕ) → has (reads e) b ≡ true → at x b ≡ at y b) → value e x ≡ value e y
value_same (Bits vs) x y h = refl
value_same (Read places) x y h = bits_same places x y h
value_same (Part places index size) x y h =
    ap₂ (λ v i. part v i size) (bits_same places x y (λ b k. h b (has_left places (reads index) b k))) (value_same index x y (λ b k. h b (has_right places (reads index) b k)))
value_same (Join high low) x y h =
    ap₂ joined (value_same high x y (λ b k. h b (has_left (reads high) (reads low) b k))) (value_same low x y (λ b k. h b (has_right (reads high) (reads low) b k)))
value_same (Repeat count e) x y h = ap (repeated count) (value_same e x y h)
value_same (OfOne operator e) x y h = ap (unary_value operator) (value_same e x y h)
value_same (OfTwo operator left right) x y h =
    ap₂ (binary_value operator) (value_same left x y (λ b k. h b (has_left (reads left) (reads right) b k))) (value_same right x y (λ b k. h b (has_right (reads left) (reads right) b k)))
value_same (Choose condition when_one when_zero) x y h =
    ap₂ (λ c v. choose (condition_bit c) v (value when_zero x)) (value_same condition x y (λ b k. h b (has_left (reads condition) (reads when_one ++ reads when_zero) b k)))
    (value_same when_one x y (λ b k. h b (has_right (reads condition) (reads when_one ++ reads when_zero) b (has_left (reads when_one) (reads when_zero) b k))))
    ∙ ap (λ v. choose (condition_bit (value condition y)) (value when_one y) v) (value_same when_zero x y (λ b k. h b (has_right (reads condition) (reads when_one ++ reads when_zero) b (has_right (reads when_one) (reads when_zero) b k))))
value_same (Call function arguments) x y h = ap function (value_same arguments x y h)

pub assignment_local : (targets : List ℕ) (e : Expr) → Local (assignment targets e)
assignment_local targets e = λ x y h. value_same e x y h
