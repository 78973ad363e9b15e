use Rattle.std.proofs.Common.{List, ℕ, Bor}
use Rattle.vv_gate_text.proofs.Targets.{one_more}
use Rattle.vv_gate_text.proofs.text.targets.Goals as goal

pub loop-assignment-preserved : goal.loop-assignment-preserved
loop-assignment-preserved c = λ q.
    let key : Bor (List ℕ) = record { ref_ptr = (0, 0); now = q } in
    one_more _ _ _ q _ _ c.loop-assignment-test.true c.assignment-item.is (c.loop-assignment.invariant q) (c.in_ok-insert.ensures.updates.0 key)
