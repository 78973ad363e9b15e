use Rattle.std.proofs.Common.{◌+◌, ◌-◌, ◌*◌, ◌%◌, ◌^◌, sym, ◌∙◌}
use Rattle.vv_types.proofs.Signed.{residue_add, residue_sub, residue_mul}
use Rattle.vv_num_arithmetic.proofs.operands.combined.Goals as goal

pub returns-in-Add : goal.returns-in-Add
returns-in-Add c = rw c.in-Add.is (λ v w e f. (λ i. (e i + f i) % 2 ^ 128) ∙ sym (residue_add 128 v w))

pub returns-in-Subtract : goal.returns-in-Subtract
returns-in-Subtract c = rw c.in-Subtract.is (λ v w e f. (λ i. (e i + (2 ^ 128 - f i)) % 2 ^ 128) ∙ sym (residue_sub 128 v w))

pub returns-in-Multiply : goal.returns-in-Multiply
returns-in-Multiply c = rw c.in-Multiply.is (λ v w e f. (λ i. e i * f i % 2 ^ 128) ∙ sym (residue_mul 128 v w))
