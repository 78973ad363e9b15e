use Rattle.vv_types.proofs.Signed.{residue_add, residue_sub, residue_mul}
use Rattle.vv_types.proofs.laws.sums_and_products.Goals as goal

pub returns : goal.returns
returns c = record { sum = residue_add; difference = residue_sub; product = residue_mul }
