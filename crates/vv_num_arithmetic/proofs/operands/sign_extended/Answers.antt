use Rattle.std.proofs.Common.{◌+◌, ◌-◌, ◌%◌, ◌^◌, ◌<◌, ap, ◌∙◌, arith}
use Rattle.vv_num_arithmetic.proofs.Residues.{not_below, below, one_shifted}
use Rattle.vv_num_arithmetic.proofs.operands.sign_extended.Goals as goal

pub returns-then-n-size-eq0 : goal.returns-then-n-size-eq0
returns-then-n-size-eq0 c = λ xs len num. not_below xs c.args.n c.args.size len num c.requires c.if-n-size-eq0.true

pub returns-else-n-size-eq0 : goal.returns-else-n-size-eq0
returns-else-n-size-eq0 c = λ xs len num.
    let n = c.args.n in
    let size = c.args.size in
    let few : size < 128 = omega (arith, c.requires, c.if-size-eq128.false) in
    ap (λ p. (n + (2 ^ 128 - p)) % 2 ^ 128) (one_shifted size few)
    ∙ below xs n size len num few c.if-size-eq0.false c.if-n-size-eq0.false
