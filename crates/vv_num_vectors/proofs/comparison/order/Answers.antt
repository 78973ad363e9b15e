use Rattle.std.proofs.Common.{◌≡◌, ◌<◌, ◌≤◌, ◌+◌, ◌*◌, ◌^◌, ◌-ℤ◌, pos, length, get_or, ap, sym, ◌∙◌, arith}
use Rattle.std.proofs.lemmas.List.{take_all, get_or_read}
use Rattle.std.specs.Ordering.{int_cmp, nat_cmp}
use Rattle.vv_bits.specs.declared.nine.S9.TheVariants.{Dash}
use Rattle.vv_types.specs.Number.{bit, number_of}
use Rattle.vv_types.proofs.Numbers.{number_step}
use Rattle.vv_num_vectors.specs.Operands.{digits_of, sign_of, size_of, value_of}
use Rattle.vv_num_vectors.proofs.Order.{compared_at, compared_by_sign, compared_same, nat_cmp_same}
use Rattle.vv_num_vectors.proofs.Worth.{digits_below, length-digits_of}
use Rattle.vv_num_vectors.proofs.comparison.order.Goals as goal

pub returns-then-below_a-below_b : goal.returns-then-below_a-below_b
returns-then-below_a-below_b c =
    let cells = c.args.cells.now in
    let a = c.args.a in
    let b = c.args.b in
    let n = c.max-length.result in
    let x = c.counts-below_a.result in
    let y = c.counts-below_b.result in
    let la : size_of a ≤ n = omega (arith, c.size.ensures, c.max-length.ensures) in
    let lb : size_of b ≤ n = omega (arith, c.size-2.ensures, c.max-length.ensures) in
    let sx : bit (sign_of cells a) ≡ x = sym (c.counts-below_a.ensures.value ∙ ap bit c.sign.ensures.sign) in
    let sy : bit (sign_of cells b) ≡ y = sym (c.counts-below_b.ensures.value ∙ ap bit c.sign-2.ensures.sign) in
    let m = number_of (digits_of cells a n) in
    let k = number_of (digits_of cells b n) in
    let va : value_of cells a ≡ pos m -ℤ pos (x * 2 ^ n) = c.sign.ensures.worth n la ∙ ap (λ s. pos m -ℤ pos (s * 2 ^ n)) sx in
    let vb : value_of cells b ≡ pos k -ℤ pos (y * 2 ^ n) = c.sign-2.ensures.worth n lb ∙ ap (λ s. pos k -ℤ pos (s * 2 ^ n)) sy in
    c.cmp.ensures
    ∙ compared_by_sign x y m k (2 ^ n) c.if-below_a-below_b.true c.counts-below_a.ensures.small c.counts-below_b.ensures.small
    (digits_below cells a n c.requires.a la) (digits_below cells b n c.requires.b lb)
    ∙ (λ i. int_cmp (sym va i) (sym vb i))

pub returns-then-x-y : goal.returns-then-x-y
returns-then-x-y c =
    let cells = c.args.cells.now in
    let a = c.args.a in
    let b = c.args.b in
    let n = c.max-length.result in
    let k = c.loop-k.k in
    let la : size_of a ≤ n = omega (arith, c.size.ensures, c.max-length.ensures) in
    let lb : size_of b ≤ n = omega (arith, c.size-2.ensures, c.max-length.ensures) in
    let xs = digits_of cells a n in
    let ys = digits_of cells b n in
    let nx : length xs ≡ n = length-digits_of cells a n c.requires.a la in
    let ny : length ys ≡ n = length-digits_of cells b n c.requires.b lb in
    let x : c.counts-x.result ≡ bit (get_or xs k Dash)
    = c.counts-x.ensures.value ∙ ap bit (get_or_read xs k c.digit.result (omega (arith, nx, c.loop-k-test.true)) c.digit.ensures Dash) in
    let y : c.counts-y.result ≡ bit (get_or ys k Dash)
    = c.counts-y.ensures.value ∙ ap bit (get_or_read ys k c.digit-in-loop-k.result (omega (arith, ny, c.loop-k-test.true)) c.digit-in-loop-k.ensures Dash) in
    let same : bit (sign_of cells a) * 2 ^ n ≡ bit (sign_of cells b) * 2 ^ n
    = ap (λ s. s * 2 ^ n) (sym (c.counts-below_a.ensures.value ∙ ap bit c.sign.ensures.sign) ∙ c.if-below_a-below_b.false ∙ c.counts-below_b.ensures.value ∙ ap bit c.sign-2.ensures.sign) in
    c.cmp-then-x-y.ensures
    ∙ (λ i. nat_cmp (x i) (y i))
    ∙ compared_at xs ys k Dash (nx ∙ sym ny) (omega (arith, nx, c.loop-k-test.true)) c.loop-k.invariant (λ e. c.if-x-y.true (x ∙ e ∙ sym y))
    ∙ compared_same (number_of xs) (number_of ys) (bit (sign_of cells a) * 2 ^ n) (bit (sign_of cells b) * 2 ^ n) (value_of cells a) (value_of cells b)
    same (c.sign.ensures.worth n la) (c.sign-2.ensures.worth n lb)

pub loop-k-preserved : goal.loop-k-preserved
loop-k-preserved c =
    let cells = c.args.cells.now in
    let a = c.args.a in
    let b = c.args.b in
    let n = c.max-length.result in
    let k = c.loop-k.k in
    let la : size_of a ≤ n = omega (arith, c.size.ensures, c.max-length.ensures) in
    let lb : size_of b ≤ n = omega (arith, c.size-2.ensures, c.max-length.ensures) in
    let xs = digits_of cells a n in
    let ys = digits_of cells b n in
    let nx : k < length xs = omega (arith, length-digits_of cells a n c.requires.a la, c.loop-k-test.true) in
    let ny : k < length ys = omega (arith, length-digits_of cells b n c.requires.b lb, c.loop-k-test.true) in
    let x : c.counts-x.result ≡ bit (get_or xs k Dash)
    = c.counts-x.ensures.value ∙ ap bit (get_or_read xs k c.digit.result nx c.digit.ensures Dash) in
    let y : c.counts-y.result ≡ bit (get_or ys k Dash)
    = c.counts-y.ensures.value ∙ ap bit (get_or_read ys k c.digit-in-loop-k.result ny c.digit-in-loop-k.ensures Dash) in
    number_step xs k Dash nx
    ∙ (λ i. c.loop-k.invariant i * 2 + (sym x ∙ c.if-x-y.false ∙ y) i)
    ∙ sym (number_step ys k Dash ny)

pub returns : goal.returns
returns c =
    let cells = c.args.cells.now in
    let a = c.args.a in
    let b = c.args.b in
    let n = c.max-length.result in
    let k = c.loop-k.k in
    let la : size_of a ≤ n = omega (arith, c.size.ensures, c.max-length.ensures) in
    let lb : size_of b ≤ n = omega (arith, c.size-2.ensures, c.max-length.ensures) in
    let xs = digits_of cells a n in
    let ys = digits_of cells b n in
    let nx : length xs ≤ k = omega (arith, length-digits_of cells a n c.requires.a la, c.loop-k-test.false) in
    let ny : length ys ≤ k = omega (arith, length-digits_of cells b n c.requires.b lb, c.loop-k-test.false) in
    let numbers : number_of xs ≡ number_of ys
    = ap number_of (sym (take_all k xs nx)) ∙ c.loop-k.invariant ∙ ap number_of (take_all k ys ny) in
    let same : bit (sign_of cells a) * 2 ^ n ≡ bit (sign_of cells b) * 2 ^ n
    = ap (λ s. s * 2 ^ n) (sym (c.counts-below_a.ensures.value ∙ ap bit c.sign.ensures.sign) ∙ c.if-below_a-below_b.false ∙ c.counts-below_b.ensures.value ∙ ap bit c.sign-2.ensures.sign) in
    sym (nat_cmp_same (number_of xs) (number_of ys) numbers)
    ∙ compared_same (number_of xs) (number_of ys) (bit (sign_of cells a) * 2 ^ n) (bit (sign_of cells b) * 2 ^ n) (value_of cells a) (value_of cells b)
    same (c.sign.ensures.worth n la) (c.sign-2.ensures.worth n lb)
