use Rattle.std.proofs.Common.{inr}
use Rattle.vv_base.proofs.memory.MemShelfShelf.load.Goals as goal

-- no file was found, so the name was told to be absent
pub returns-in-None-clause-failed : goal.returns-in-None-clause-failed
returns-in-None-clause-failed c = λ _. inr (rw (← c.next_fails.ensures.files, ← c.in-None.ensures.value))

-- a file was found, so the name was not told to be absent
pub returns-in-Ok-clause-absent : goal.returns-in-Ok-clause-absent
returns-in-Ok-clause-absent c =
    λ absent. let found = rw (← c.next_fails.ensures.files, ← c.in-Some.ensures.value) at absent in cc

pub returns-in-Err-clause-absent : goal.returns-in-Err-clause-absent
returns-in-Err-clause-absent c =
    λ absent. let found = rw (← c.next_fails.ensures.files, ← c.in-Some.ensures.value) at absent in cc
