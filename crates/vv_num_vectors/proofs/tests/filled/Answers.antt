use Rattle.std.proofs.Common.{◌≡◌, ap, refl, ◌∙◌, arith, length, pos}
use Rattle.std.proofs.lemmas.List.{length-replicate}
use Rattle.vv_num_vectors.proofs.Reading.{length_kept}
use Rattle.vv_num_vectors.proofs.tests.filled.Goals as goal

pub returns : goal.returns
returns c =
    let start : length c.in_ok-cells.cells ≡ 256 = ap length c.in_ok-cells.ensures ∙ length-replicate 256 (pos 0) in
    let filled : length c.put-2.new.cells ≡ 256 = c.put-2.ensures ∙ c.put.ensures ∙ start in
    length_kept c.put-2.new.cells c.put_scalar.new.cells _ (record { first = 128; size = 1 }) c.put_scalar.ensures (omega (arith, filled)) refl
    ∙ filled
